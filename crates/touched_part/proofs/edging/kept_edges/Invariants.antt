use Rattle.std.proofs.Common.{◌≡◌, not, map, take}
use Rattle.std.specs.List.{filter}
use Rattle.part_laws.specs.Touched.{active_edge, changes}
use Rattle.touched_part.proofs.edging.kept_edges.Given as goal

abbrev pub invariant-loop-edge : goal.invariant-loop-edge
invariant-loop-edge l = l.list.items ≡ map (λ f. active_edge l.fn.affinity f.pair) (filter (λ f. not (changes l.changed f.pair)) (take l.edge-index l.edges))
