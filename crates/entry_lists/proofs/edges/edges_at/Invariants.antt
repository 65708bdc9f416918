use Rattle.std.proofs.Common.{◌≡◌, map, take}
use Rattle.entry_lists.specs.Parts.{base_edge}
use Rattle.entry_lists.proofs.edges.edges_at.Given as goal

abbrev pub invariant-loop-pair : goal.invariant-loop-pair
invariant-loop-pair l = l.list.items ≡ map (base_edge l.affinity l.ids) (take l.pair-index l.pairs)
