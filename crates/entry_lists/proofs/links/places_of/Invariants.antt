use Rattle.std.proofs.Common.{take}
use Rattle.entry_lists.proofs.KeptFacts.{ArePut}
use Rattle.entry_lists.proofs.links.places_of.Given as goal

abbrev pub invariant-loop-link : goal.invariant-loop-link
invariant-loop-link l = ArePut l.kept l.links (take l.link-index l.links) l.list.items
