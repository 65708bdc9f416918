use Rattle.std.proofs.Common.{rules, ◌++◌, decimal}
use Rattle.request_lines.proofs.Putting.{puts_both}
use Rattle.request_lines.proofs.page.Page.put_number.Goals as goal

pub returns : goal.returns
returns g c = puts_both (c.args.piece.now ++ decimal c.args.number) (search rules) c.put.ensures c.put-2.ensures
