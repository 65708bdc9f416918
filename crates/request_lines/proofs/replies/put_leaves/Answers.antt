use Rattle.std.proofs.Common.{rules, ◌≡◌}
use Rattle.request_lines.specs.Texts.{text_of_reply}
use Rattle.request_lines.proofs.Putting.{puts_then}
use Rattle.request_lines.proofs.replies.put_leaves.Goals as goal

pub returns : goal.returns
unfolding text_of_reply
returns g c =
    let e : c.args.leaves.now ≡ c.as_slice.result.now = search rules in
    rw e (puts_then c.put.ensures (puts_then c.put_list.ensures c.put_seen.ensures))
