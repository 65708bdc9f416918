use Rattle.std.proofs.Common.{◌∙◌, ap}
use Rattle.base_rows.proofs.Passing.{take_whole}
use Rattle.entry_lists.specs.Links.{kept_ids}
use Rattle.entry_lists.proofs.KeptFacts.{kept_next}
use Rattle.entry_lists.proofs.links.kept_children.Goals as goal

pub loop-link-init : goal.loop-link-init
loop-link-init c = c.new-list.ensures.items

pub loop-link-preserved : goal.loop-link-preserved
loop-link-preserved c = kept_next c.args.links.now c.loop-link.link-index c.link-item.result _ _ c.loop-link-test.true c.link-item.is c.loop-link.invariant c.in_ok-put_kept.ensures

pub returns : goal.returns
returns c = c.loop-link.invariant ∙ ap kept_ids (take_whole c.args.links.now c.loop-link.link-index c.loop-link-test.false)
