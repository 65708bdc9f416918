use Rattle.std.proofs.Common.{rules, arith, ◌≡◌, ◌∙◌, ap, sym, subst, ◌++◌, map, take, append_assoc, append-nil, false}
use Rattle.std.specs.List.{list_any}
use Rattle.record_rows.specs.Rows.{EdgeRow}
use Rattle.record_rows.specs.Chains.{change_of}
use Rattle.base_rows.specs.declared.lists.BaseEdge.{BaseEdge}
use Rattle.base_rows.specs.Lists.{IsPlaced}
use Rattle.base_rows.proofs.Passing.{map_more, take_whole}
use Rattle.entry_rows.specs.States.{Edging}
use Rattle.entry_rows.proofs.EdgeSteps.{no_change_more}
use Rattle.entry_rows.proofs.edges.put_edges.Goals as goal

pub loop-edge-init : goal.loop-edge-init
loop-edge-init c = (
  λ ids old more st placed none. subst (λ rows. Edging ids old rows c.args.growth.now c.args.tails.now.items) (sym (append-nil more)) st,
  omega arith,
  search rules,
)

pub put_edge-requires-clause-state : goal.put_edge-requires-clause-state
put_edge-requires-clause-state c =
    let (ids, old, more, st, placed, none) = c.requires.state in
    (ids, old, _, c.loop-edge.invariant.0 ids old more st placed none, subst (IsPlaced ids) (sym c.edge-item.is) (placed c.loop-edge.edge-index c.edge-item.result c.loop-edge-test.true))

pub put_edge-requires-clause-places : goal.put_edge-requires-clause-places
put_edge-requires-clause-places c =
    let n = c.loop-edge.invariant.1 in
    let t = c.loop-edge.invariant.2 in
    let l = c.loop-edge-test.true in
    let r = c.requires.places in
    omega (arith, n, t, l, r)

pub loop-edge-preserved : goal.loop-edge-preserved
loop-edge-preserved c =
    let i = c.loop-edge.invariant in
    let p = c.in_ok-put_edge.ensures in
    let l = i.1 in
    let m = p.length in (
      λ ids old more st placed none.
          let is : IsPlaced ids c.edge-item.result = subst (IsPlaced ids) (sym c.edge-item.is) (placed c.loop-edge.edge-index c.edge-item.result c.loop-edge-test.true) in
          let un : list_any (change_of c.edge-item.result.edge.pair) (old ++ more) ≡ false =
          subst (λ (x : BaseEdge). list_any (change_of x.edge.pair) (old ++ more) ≡ false) (sym c.edge-item.is) (none c.loop-edge.edge-index c.edge-item.result c.loop-edge-test.true) in
          subst (λ rows. Edging ids old rows c.put_edge.new.growth c.put_edge.new.tails.items)
          (append_assoc more (map (λ (x : BaseEdge). EdgeRow c.args.made x.edge) (take c.loop-edge.edge-index c.args.edges.now)) _
          ∙ ap (λ rows. more ++ rows) (sym (map_more (λ (x : BaseEdge). EdgeRow c.args.made x.edge) c.args.edges.now c.loop-edge.edge-index c.edge-item.result c.loop-edge-test.true c.edge-item.is)))
          (p.state ids old _ (i.0 ids old more st placed none) is (no_change_more c.edge-item.result.edge.pair old more c.args.made (take c.loop-edge.edge-index c.args.edges.now) un)),
      omega (arith, l, m),
      p.tail ∙ i.2,
    )

pub returns-clause-state : goal.returns-clause-state
returns-clause-state c ids old more st placed none =
    subst (λ xs. Edging ids old (more ++ map (λ (x : BaseEdge). EdgeRow c.args.made x.edge) xs) c.loop-edge.growth c.loop-edge.tails.items) (take_whole c.args.edges.now c.loop-edge.edge-index c.loop-edge-test.false)
    (c.loop-edge.invariant.0 ids old more st placed none)
