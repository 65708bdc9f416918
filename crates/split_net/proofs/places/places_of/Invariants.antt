use Rattle.std.proofs.Common.{◌≡◌, ◌<◌, length, map, take}
use Rattle.std.specs.List.{All}
use Rattle.split_net.specs.Parts.{id_at}
use Rattle.split_net.proofs.places.places_of.Given as goal

abbrev pub invariant-loop-at : goal.invariant-loop-at
invariant-loop-at l = record {
  named : map (id_at l.leaves) l.places.items ≡ take l.at l.ids;
  below : All (λ i. i < length l.leaves) l.places.items;
}
