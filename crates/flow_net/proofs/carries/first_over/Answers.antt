use Rattle.flow_net.proofs.Searches.{first_below_hit}
use Rattle.std.proofs.Common.{sym, ◌∙◌, arith, length}
use Rattle.flow_net.proofs.carries.first_over.Goals as goal

pub returns-then-is_over_room-clause-first : goal.returns-then-is_over_room-clause-first
returns-then-is_over_room-clause-first c =
    sym (first_below_hit _ c.loop-k.k (length c.args.links.now) c.loop-k.invariant (sym c.is_over_room.ensures ∙ c.if-is_over_room.true) (omega arith))
