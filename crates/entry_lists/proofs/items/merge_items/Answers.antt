use Rattle.std.proofs.Common.{◌∙◌, sym, ap, subst}
use Rattle.std.specs.List.{flat_map}
use Rattle.op_model.specs.declared.request.Edit.TheVariants.{Merge}
use Rattle.op_model.specs.declared.entry.Asked.TheVariants as asked
use Rattle.record_rows.specs.LogRows.{marks}
use Rattle.base_rows.proofs.Passing.{take_whole}
use Rattle.entry_rows.specs.States.{AreItems}
use Rattle.entry_lists.specs.Items.{pair_items}
use Rattle.entry_lists.proofs.ItemFacts.{merge_are, pairs_next}
use Rattle.entry_lists.proofs.items.merge_items.Goals as goal

pub loop-pair-init : goal.loop-pair-init
loop-pair-init c = c.new-list.ensures.items

pub loop-pair-preserved : goal.loop-pair-preserved
loop-pair-preserved c = pairs_next c.args.pairs.now c.loop-pair.pair-index c.pair-item.result _ _ c.loop-pair-test.true c.pair-item.is c.loop-pair.invariant c.in_ok-put_pair.ensures

pub returns : goal.returns
returns c = λ n.
    subst (λ xs. AreItems n xs (marks n (asked.Edit (Merge c.args.pairs.now))))
    (sym (c.loop-pair.invariant ∙ ap (flat_map pair_items) (take_whole c.args.pairs.now c.loop-pair.pair-index c.loop-pair-test.false))) (merge_are n c.args.pairs.now)
