use Rattle.std.proofs.Common.{◌++◌, codes, decimal, sym, ap, map}
use Rattle.request_lines.specs.Json.{array}
use Rattle.request_lines.proofs.Putting.{puts_then, puts_same}
use Rattle.call_lines.specs.Texts.{client_fault_text, summary_line}
use Rattle.call_lines.proofs.summary.put_summary.Goals as goal

pub returns : goal.returns
unfolding summary_line
returns g c =
    let faults = puts_same (ap (λ w. array (map client_fault_text w)) (sym c.as_slice.ensures.value)) c.put_list.ensures in
    let status = puts_same (ap (λ n. codes ",\"status\":" ++ decimal n) (sym c.code.ensures)) c.put_number-8.ensures in
    puts_then c.put_number.ensures (puts_then c.put_number-2.ensures (puts_then c.put_number-3.ensures (puts_then c.put.ensures (puts_then faults
    (puts_then c.put_number-4.ensures (puts_then c.put_number-5.ensures (puts_then c.put_number-6.ensures (puts_then c.put_number-7.ensures
    (puts_then status c.put-2.ensures)))))))))
