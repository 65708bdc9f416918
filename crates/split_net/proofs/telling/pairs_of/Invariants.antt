use Rattle.std.proofs.Common.{◌≡◌, map, take}
use Rattle.op_model.specs.Cuts.{pair_at}
use Rattle.split_net.proofs.telling.pairs_of.Given as goal

abbrev pub invariant-loop-at : goal.invariant-loop-at
invariant-loop-at l = l.list.items ≡ map (pair_at l.part) (take l.at l.links)
