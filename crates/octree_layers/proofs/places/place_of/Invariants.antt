use Rattle.std.proofs.Common.{◌-◌, ◌≤◌, length}
use Rattle.octree_layers.specs.Places.{place_of}
use Rattle.octree_layers.proofs.places.place_of.Given as goal

abbrev pub invariant-loop-low : goal.invariant-loop-low
invariant-loop-low l = (l.low ≤ place_of l.ids l.id) × (place_of l.ids l.id ≤ l.high) × (l.high ≤ length l.ids)

abbrev pub decreases-loop-low : goal.decreases-loop-low
decreases-loop-low l = l.high - l.low
