use Rattle.std.proofs.Common.{sym, ap, map}
use Rattle.request_lines.specs.Json.{array}
use Rattle.request_lines.specs.Items.{changed_text}
use Rattle.request_lines.specs.Texts.{text_of_entry}
use Rattle.request_lines.proofs.Putting.{puts_then, puts_same}
use Rattle.request_lines.proofs.entries.put_entry.Goals as goal

pub returns : goal.returns
unfolding text_of_entry
returns g c =
    let changed = puts_same (ap (λ w. array (map changed_text w)) (sym c.as_slice.ensures.value)) c.put_list.ensures in
    puts_same (ap text_of_entry (sym c.entry.view_is))
    (puts_then c.put_number.ensures (puts_then c.put.ensures (puts_then changed (puts_then c.put_number-2.ensures (puts_then c.put_number-3.ensures
    (puts_then c.put_ids.ensures (puts_then c.put_number-4.ensures (puts_then c.put-2.ensures (puts_then c.put_asked.ensures
    (puts_then c.put_ids-2.ensures c.put-3.ensures))))))))))
