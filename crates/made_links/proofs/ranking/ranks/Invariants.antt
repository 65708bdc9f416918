use Rattle.std.proofs.Common.{take}
use Rattle.made_links.specs.Ranks.{AreRanks}
use Rattle.made_links.proofs.ranking.ranks.Given as goal

abbrev pub invariant-loop-rank : goal.invariant-loop-rank
invariant-loop-rank l = AreRanks l.count (take l.rank l.leasts) l.list.items
