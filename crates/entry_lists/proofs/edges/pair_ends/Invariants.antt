use Rattle.std.proofs.Common.{◌≡◌, take}
use Rattle.std.specs.List.{flat_map}
use Rattle.entry_lists.specs.Parts.{ends_of}
use Rattle.entry_lists.proofs.edges.pair_ends.Given as goal

abbrev pub invariant-loop-pair : goal.invariant-loop-pair
invariant-loop-pair l = l.list.items ≡ flat_map ends_of (take l.pair-index l.pairs)
