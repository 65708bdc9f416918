use Rattle.std.proofs.Common.{◌≡◌, ◌+◌, length, drop}
use Rattle.std.specs.Prelude.{sum_by}
use Rattle.hierarchy_build.proofs.counting.node_count.Given as goal

abbrev pub invariant-loop-layer : goal.invariant-loop-layer
invariant-loop-layer l = l.count + sum_by (λ l. length l.made.items) (drop l.layer-index l.layers) ≡ sum_by (λ l. length l.made.items) l.layers
