use Rattle.std.proofs.Common.{◌≡◌, take}
use Rattle.std.specs.List.{filter}
use Rattle.graph_model.specs.Lists.{has}
use Rattle.plain_hierarchy.proofs.lists.keep.Given as goal

abbrev pub invariant-loop-id : goal.invariant-loop-id
invariant-loop-id l = l.list.items ≡ filter (has l.kept) (take l.id-index l.ids)
