use Rattle.std.proofs.Common.{rules}
use Rattle.pcg_base.proofs.Cuts.{cut_here}
use Rattle.pcg_base.proofs.cutting.cut_at.Goals as goal

pub returns : goal.returns
returns c = cut_here c.args.byte c.args.text.now c.in-Some.at c.split_at.result.0.now c.split_at.result.1.now c.split_at-2.result.1.now (search rules) (search rules) (search rules) (search rules)
