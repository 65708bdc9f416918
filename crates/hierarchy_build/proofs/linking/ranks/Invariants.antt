use Rattle.std.proofs.Common.{map, take}
use Rattle.hierarchy_build.specs.Links.{AreRanks}
use Rattle.hierarchy_build.proofs.linking.ranks.Given as goal

abbrev pub invariant-loop-rank : goal.invariant-loop-rank
invariant-loop-rank l = AreRanks l.count (map (λ m. m.least) (take l.rank l.made)) l.list.items
