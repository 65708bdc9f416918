use Rattle.std.proofs.Common.{◌≡◌, map, take}
use Rattle.made_links.specs.Orders.{link_of}
use Rattle.made_links.proofs.links.linked.Given as goal

abbrev pub invariant-loop-child : goal.invariant-loop-child
invariant-loop-child l = l.list.items ≡ map (link_of l.nodes) (take l.child-index l.children)
