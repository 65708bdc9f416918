use Rattle.flow_net.proofs.Searches.{first_below_hit}
use Rattle.std.proofs.Common.{sym, ◌∙◌, arith}
use Rattle.flow_net.proofs.balance.first_different.Goals as goal

pub returns-then-is_different : goal.returns-then-is_different
returns-then-is_different c =
    sym (first_below_hit _ c.loop-i.i c.args.count c.loop-i.invariant (sym c.is_different.ensures ∙ c.if-is_different.true) (omega arith))
