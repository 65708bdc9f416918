use Rattle.std.proofs.Common.{◌≡◌, take}
use Rattle.entry_lists.specs.Links.{kept_ids}
use Rattle.entry_lists.proofs.links.kept_children.Given as goal

abbrev pub invariant-loop-link : goal.invariant-loop-link
invariant-loop-link l = l.list.items ≡ kept_ids (take l.link-index l.links)
