use Rattle.std.proofs.Common.{◌≡◌, ◌++◌, map, take}
use Rattle.entry_lists.specs.Items.{side_item}
use Rattle.entry_lists.proofs.items.put_side.Given as goal

abbrev pub invariant-loop-id : goal.invariant-loop-id
invariant-loop-id l = l.list.items ≡ l.fn.list.items ++ map (side_item l.side) (take l.id-index l.ids)
