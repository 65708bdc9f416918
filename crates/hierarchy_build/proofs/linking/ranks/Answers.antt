use Rattle.std.proofs.Common.{set, ap}
use Rattle.octree_layers.specs.declared.numbering.Made.{Made}
use Rattle.hierarchy_build.proofs.Ranking.{no_ranks, ranks_more}
use Rattle.hierarchy_build.proofs.linking.ranks.Goals as goal

pub loop-rank-init : goal.loop-rank-init
loop-rank-init c = no_ranks c.args.count c.in_ok-list.list.items c.in_ok-list.ensures

pub loop-rank-preserved : goal.loop-rank-preserved
loop-rank-preserved c =
    let m = c.index-made-rank.result in
    ranks_more c.args.count c.args.made.now c.loop-rank.rank m c.loop-rank.list.items _ c.loop-rank-test.true (c.requires.least c.loop-rank.rank m c.loop-rank-test.true) c.loop-rank.invariant
    (ap (λ (x : Made). set c.loop-rank.list.items x.least c.loop-rank.rank) c.index-made-rank.is)
