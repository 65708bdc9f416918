use Rattle.std.proofs.Common.{rules, refl, ◌++◌, decimal, codes}
use Rattle.request_lines.specs.Json.{id_text}
use Rattle.request_lines.proofs.Putting.{puts_both}
use Rattle.request_lines.proofs.page.Page.put_id.Goals as goal

pub returns : goal.returns
unfolding id_text
returns g c =
    let quoted = puts_both (codes "\"" ++ decimal c.args.id ++ codes "\"") (search rules) c.put_number.ensures c.put-2.ensures in
    puts_both (c.args.piece.now ++ (codes "\"" ++ decimal c.args.id ++ codes "\"")) refl c.put.ensures quoted
