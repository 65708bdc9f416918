use Rattle.std.proofs.Common.{◌≡◌, ◌++◌, map, take}
use Rattle.united_layers.specs.Jointed.{pair_joint}
use Rattle.united_layers.proofs.reading.put_pairs.Given as goal

abbrev pub invariant-loop-change : goal.invariant-loop-change
invariant-loop-change l = l.list.items ≡ l.fn.list.items ++ map (pair_joint l.dataset) (take l.change-index l.changed)
