use Rattle.std.proofs.Common.{◌≡◌, take}
use Rattle.std.specs.List.{flat_map}
use Rattle.entry_lists.specs.Items.{pair_items}
use Rattle.entry_lists.proofs.items.merge_items.Given as goal

abbrev pub invariant-loop-pair : goal.invariant-loop-pair
invariant-loop-pair l = l.list.items ≡ flat_map pair_items (take l.pair-index l.pairs)
