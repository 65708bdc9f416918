use Rattle.std.proofs.Common.{◌≡◌, leb, map, take}
use Rattle.std.specs.List.{filter}
use Rattle.united_layers.proofs.listing.pairs_to.Given as goal

abbrev pub invariant-loop-joint : goal.invariant-loop-joint
invariant-loop-joint l = l.list.items ≡ map (λ j. (j.a, j.b)) (filter (λ j. leb j.layer l.layer) (take l.joint-index l.joints))
