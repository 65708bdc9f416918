use Rattle.std.proofs.Common.{◌++◌, ◌∷◌, [], map, take, sym, ◌∙◌, ap, append_assoc, append-nil}
use Rattle.base_rows.proofs.Passing.{map_more, take_whole}
use Rattle.entry_lists.specs.Items.{side_item}
use Rattle.entry_lists.proofs.items.put_side.Goals as goal

pub loop-id-init : goal.loop-id-init
loop-id-init c = sym (append-nil _)

pub loop-id-preserved : goal.loop-id-preserved
loop-id-preserved c =
    c.in-Ok.ensures.items
    ∙ (ap (λ ts. ts ++ side_item c.args.side c.id-item.result ∷ []) c.loop-id.invariant
    ∙ (append_assoc c.args.list.now.items (map (side_item c.args.side) (take c.loop-id.id-index c.args.ids.now)) _
    ∙ ap (λ ts. c.args.list.now.items ++ ts) (sym (map_more (side_item c.args.side) c.args.ids.now c.loop-id.id-index c.id-item.result c.loop-id-test.true c.id-item.is))))

pub returns : goal.returns
returns c = c.loop-id.invariant ∙ ap (λ vs. c.args.list.now.items ++ map (side_item c.args.side) vs) (take_whole c.args.ids.now c.loop-id.id-index c.loop-id-test.false)
