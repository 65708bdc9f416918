use Rattle.std.proofs.Common.{◌++◌, ◌∙◌, map, sym, ap, subst}
use Rattle.op_model.specs.declared.request.Edit.TheVariants.{Split}
use Rattle.op_model.specs.declared.entry.Asked.TheVariants as asked
use Rattle.record_rows.specs.LogRows.{marks}
use Rattle.entry_rows.specs.States.{AreItems}
use Rattle.entry_lists.specs.Items.{side_item}
use Rattle.entry_lists.proofs.ItemFacts.{split_are}
use Rattle.entry_lists.proofs.items.split_items.Goals as goal

pub returns : goal.returns
returns c = λ n.
    subst (λ xs. AreItems n xs (marks n (asked.Edit (Split c.args.sources.now c.args.sinks.now))))
    (sym (c.in_ok-put_side-2.ensures ∙ ap (λ xs. xs ++ map (side_item 2) c.args.sinks.now) (c.in_ok-put_side.ensures ∙ ap (λ xs. xs ++ map (side_item 1) c.args.sources.now) c.new-list.ensures.items))) (split_are n c.args.sources.now c.args.sinks.now)
