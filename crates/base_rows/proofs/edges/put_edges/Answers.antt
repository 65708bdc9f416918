use Rattle.std.proofs.Common.{arith, ◌++◌, length, map, take, sym, ◌∙◌, ap, subst, append_assoc, append-nil}
use Rattle.record_rows.specs.Rows.{EdgeRow}
use Rattle.record_rows.specs.Words.{words_of}
use Rattle.base_rows.specs.declared.lists.BaseEdge.{BaseEdge}
use Rattle.base_rows.specs.Lists.{IsPlaced}
use Rattle.base_rows.specs.BaseRows.{edged_rows, owner_rows}
use Rattle.base_rows.specs.States.{tails_from, Edging}
use Rattle.base_rows.proofs.Passing.{map_more, take_whole}
use Rattle.base_rows.proofs.EdgeSteps.{edging_begins}
use Rattle.base_rows.proofs.edges.put_edges.Goals as goal

pub loop-edge-init : goal.loop-edge-init
loop-edge-init c = (
  λ d chunks w. subst (λ rows. Edging c.args.ids.now rows c.args.w.now.words c.put_tails.new.list.items) (sym (append-nil (owner_rows d c.args.ids.now chunks)))
      (subst (Edging c.args.ids.now (owner_rows d c.args.ids.now chunks) c.args.w.now.words)
      (sym (c.in_ok-put_tails.ensures ∙ ap (λ ts. ts ++ tails_from 1 4 (length c.args.ids.now)) c.new-tails.ensures.items))
      (edging_begins d c.args.ids.now chunks c.args.w.now.words w c.requires.once)),
  omega arith,
  omega arith,
)

placed_at : (c : goal.After-put_edge) → IsPlaced c.args.ids.now c.edge-item.result
placed_at c = subst (IsPlaced c.args.ids.now) (sym c.edge-item.is) (c.requires.placed c.loop-edge.edge-index c.edge-item.result c.loop-edge-test.true)

pub loop-edge-preserved : goal.loop-edge-preserved
loop-edge-preserved c =
    let i = c.loop-edge.invariant in
    let p = c.put_edge.ensures in
    let l = i.1 in
    let r = i.2 in
    let m = p.length in
    let s = p.room in (
      λ d chunks w.
          subst (λ rows. Edging c.args.ids.now rows c.put_edge.new.w.words c.put_edge.new.tails.items)
          (append_assoc (owner_rows d c.args.ids.now chunks) (map (λ (x : BaseEdge). EdgeRow 0 x.edge) (take c.loop-edge.edge-index c.args.edges.now)) _
          ∙ ap (λ rows. owner_rows d c.args.ids.now chunks ++ rows) (sym (map_more (λ (x : BaseEdge). EdgeRow 0 x.edge) c.args.edges.now c.loop-edge.edge-index c.edge-item.result c.loop-edge-test.true c.edge-item.is)))
          (p.state c.args.ids.now _ (i.0 d chunks w) (placed_at c)),
      omega (arith, l, m),
      omega (arith, r, s),
    )

pub returns-clause-words : goal.returns-clause-words
unfolding edged_rows
returns-clause-words c d chunks w =
    let st = c.loop-edge.invariant.0 d chunks w in
    st.rows_are.stand
    ∙ ap (λ xs. words_of (owner_rows d c.args.ids.now chunks ++ map (λ (x : BaseEdge). EdgeRow 0 x.edge) xs)) (take_whole c.args.edges.now c.loop-edge.edge-index c.loop-edge-test.false)
