use Rattle.std.proofs.Common.{◌≡◌, map, take}
use Rattle.octree_layers.specs.Places.{place_of}
use Rattle.touched_part.proofs.ends.places_of.Given as goal

abbrev pub invariant-loop-place : goal.invariant-loop-place
invariant-loop-place l = l.list.items ≡ map (place_of l.ids) (take l.place l.found)
