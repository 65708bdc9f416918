use Rattle.std.proofs.Common.{◌≡◌, ◌≤◌, ◌++◌, drop}
use Rattle.octree_layers.specs.Numbers.{numbered}
use Rattle.octree_layers.proofs.numbering.numbered.Given as goal

abbrev pub invariant-loop-owner : goal.invariant-loop-owner
invariant-loop-owner l = (l.list.items ++ numbered l.last l.label (drop l.owner-index l.owners) ≡ numbered 0 0 l.owners) × (l.label ≤ l.owner-index)
