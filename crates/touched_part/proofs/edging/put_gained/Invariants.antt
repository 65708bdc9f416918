use Rattle.std.proofs.Common.{◌≡◌, ◌++◌, map, take}
use Rattle.std.specs.List.{filter}
use Rattle.part_laws.specs.Touched.{active_edge}
use Rattle.touched_part.proofs.edging.put_gained.Given as goal

abbrev pub invariant-loop-change : goal.invariant-loop-change
invariant-loop-change l = l.list.items ≡ l.fn.list.items ++ map (λ c. active_edge l.fn.affinity c.pair) (filter (λ c. c.active) (take l.change-index l.changed))
