use Rattle.std.proofs.Common.{map, sym, ◌∙◌, ap, subst}
use Rattle.base_rows.proofs.Passing.{take_whole}
use Rattle.octree_layers.proofs.Pushes.{map_pushed}
use Rattle.entry_lists.specs.Links.{IsBetween, base_link}
use Rattle.entry_lists.proofs.links.links_at.Goals as goal

pub loop-link-init : goal.loop-link-init
loop-link-init c = c.new-list.ensures.items

pub link_at-placed-requires-clause-between : goal.link_at-placed-requires-clause-between
link_at-placed-requires-clause-between c = subst (IsBetween c.args.kept.now c.args.new.now) (sym c.link-item.is) (c.requires.between c.loop-link.link-index c.link-item.result c.loop-link-test.true)

pub loop-link-preserved : goal.loop-link-preserved
loop-link-preserved c =
    map_pushed (base_link c.args.kept.now c.args.new.now) c.args.links.now c.loop-link.link-index c.link-item.result _ _ _ c.loop-link-test.true c.link-item.is c.link_at-placed.ensures.is c.loop-link.invariant c.in-Ok.ensures.items

pub returns : goal.returns
returns c = c.loop-link.invariant ∙ ap (map (base_link c.args.kept.now c.args.new.now)) (take_whole c.args.links.now c.loop-link.link-index c.loop-link-test.false)
