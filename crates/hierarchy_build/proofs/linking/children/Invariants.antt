use Rattle.std.proofs.Common.{◌≡◌, map}
use Rattle.std.specs.List.{range_with_len}
use Rattle.hierarchy_build.specs.Links.{child_link}
use Rattle.hierarchy_build.proofs.linking.children.Given as goal

abbrev pub invariant-loop-place : goal.invariant-loop-place
invariant-loop-place l = l.list.items ≡ map (child_link l.first_child l.first_parent l.leads l.firsts l.ranks) (range_with_len 0 l.place)
