use Rattle.std.proofs.Common.{◌≡◌, map, take}
use Rattle.entry_lists.specs.Links.{base_link}
use Rattle.entry_lists.proofs.links.links_at.Given as goal

abbrev pub invariant-loop-link : goal.invariant-loop-link
invariant-loop-link l = l.list.items ≡ map (base_link l.kept l.new) (take l.link-index l.links)
