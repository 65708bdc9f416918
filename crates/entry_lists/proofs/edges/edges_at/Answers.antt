use Rattle.std.proofs.Common.{map, sym, ◌∙◌, ap, subst}
use Rattle.base_rows.proofs.Passing.{take_whole}
use Rattle.octree_layers.proofs.Pushes.{map_pushed}
use Rattle.entry_lists.specs.Parts.{HoldsEnds, base_edge}
use Rattle.entry_lists.proofs.edges.edges_at.Goals as goal

pub loop-pair-init : goal.loop-pair-init
loop-pair-init c = c.new-list.ensures.items

pub edge_at-placed-requires-clause-known : goal.edge_at-placed-requires-clause-known
edge_at-placed-requires-clause-known c = subst (HoldsEnds c.args.ids.now) (sym c.pair-item.is) (c.requires.known c.loop-pair.pair-index c.pair-item.result c.loop-pair-test.true)

pub loop-pair-preserved : goal.loop-pair-preserved
loop-pair-preserved c =
    map_pushed (base_edge c.args.affinity c.args.ids.now) c.args.pairs.now c.loop-pair.pair-index c.pair-item.result _ _ _ c.loop-pair-test.true c.pair-item.is c.edge_at-placed.ensures c.loop-pair.invariant c.in-Ok.ensures.items

pub returns : goal.returns
returns c = c.loop-pair.invariant ∙ ap (map (base_edge c.args.affinity c.args.ids.now)) (take_whole c.args.pairs.now c.loop-pair.pair-index c.loop-pair-test.false)
