use Rattle.std.proofs.Common.{◌≡◌, ◌<◌, drop}
use Rattle.octree_layers.specs.Numbers.{overflow}
use Rattle.octree_layers.proofs.numbering.overflow.Given as goal

abbrev pub invariant-loop-owner : goal.invariant-loop-owner
invariant-loop-owner l = (overflow l.limit l.last l.label (drop l.owner-index l.owners) ≡ overflow l.limit 0 0 l.owners) × (l.label < l.limit)
