use Rattle.std.proofs.Common.{◌≡◌, map, take}
use Rattle.edit_split.specs.Marks.{off}
use Rattle.edit_split.proofs.planning.inactive.Given as goal

abbrev pub invariant-loop-at : goal.invariant-loop-at
invariant-loop-at l = l.list.items ≡ map off (take l.at l.pairs)
