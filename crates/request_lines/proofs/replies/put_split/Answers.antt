use Rattle.std.proofs.Common.{sym, ap, map, Some}
use Rattle.request_lines.specs.Json.{array}
use Rattle.request_lines.specs.Items.{pair_text, carry_text}
use Rattle.request_lines.specs.Texts.{edited_text}
use Rattle.request_lines.proofs.Putting.{puts_then, puts_same}
use Rattle.request_lines.proofs.replies.put_split.Goals as goal

pub returns : goal.returns
unfolding edited_text
returns g c =
    let cut = puts_same (ap (λ w. array (map pair_text w)) (sym c.as_slice.ensures.value)) c.put_list.ensures in
    let flow = puts_same (ap (λ w. array (map carry_text w)) (sym c.as_slice-2.ensures.value)) c.put_list-2.ensures in
    puts_same (ap (λ s. edited_text c.args.op c.args.at c.args.retired.now c.args.made.now (Some s) c.args.seen) (sym c.shown.view_is))
    (puts_then c.put_number.ensures (puts_then c.put.ensures (puts_then cut (puts_then c.put-2.ensures (puts_then flow
    (puts_then c.put_ids.ensures (puts_then c.put_number-2.ensures (puts_then c.put_ids-2.ensures (puts_then c.put_number-3.ensures
    (puts_then c.put_number-4.ensures c.put-3.ensures))))))))))
