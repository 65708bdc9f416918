use Rattle.std.proofs.Common.{refl}
use Rattle.made_links.proofs.RankSteps.{no_ranks, ranks_more}
use Rattle.made_links.proofs.ranking.ranks.Goals as goal

pub loop-rank-init : goal.loop-rank-init
loop-rank-init c = no_ranks c.args.count c.in_ok-list.list.items c.in_ok-list.ensures

pub loop-rank-preserved : goal.loop-rank-preserved
loop-rank-preserved c =
    ranks_more c.args.count c.args.leasts.now c.loop-rank.rank c.loop-rank.list.items _ c.loop-rank-test.true (c.requires.leasts c.loop-rank.rank 0 c.loop-rank-test.true) c.loop-rank.invariant refl
