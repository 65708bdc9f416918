use Rattle.std.proofs.Common.{◌∙◌, sym, subst, ◌++◌, [], map, append-nil}
use Rattle.std.specs.Bool.{IsFalse}
use Rattle.std.specs.List.{All, list_any}
use Rattle.record_rows.specs.Rows.{EdgeRow}
use Rattle.record_rows.specs.Chains.{change_of}
use Rattle.base_rows.specs.declared.lists.BaseEdge.{BaseEdge}
use Rattle.base_rows.specs.Lists.{IsPlaced}
use Rattle.grown_rows.specs.Growths.{IsGrowth}
use Rattle.entry_rows.specs.States.{Edging}
use Rattle.entry_rows.proofs.Begins.{edging_begins}
use Rattle.entry_rows.proofs.putting.add_edges.Goals as goal

pub put_edges-requires-clause-state : goal.put_edges-requires-clause-state
put_edges-requires-clause-state c =
    let (old, growth, is) = c.requires.listed in (
      is.ids,
      old,
      [],
      subst (Edging is.ids old [] c.args.growth.now) (sym (c.in_ok-tails.ensures ∙ c.deref.ensures.value)) (edging_begins old c.args.growth.now c.args.lists.now growth is),
      subst (λ xs. All (IsPlaced is.ids) xs) (sym c.deref-2.ensures.value) is.placed,
      subst (λ xs. All (λ (x : BaseEdge). IsFalse (list_any (change_of x.edge.pair) (old ++ []))) xs) (sym c.deref-2.ensures.value)
          (subst (λ rs. All (λ (x : BaseEdge). IsFalse (list_any (change_of x.edge.pair) rs)) c.args.lists.now.edges.items) (sym (append-nil old)) is.fresh),
    )

pub returns-clause-pushed : goal.returns-clause-pushed
returns-clause-pushed c old growth is =
    subst (λ xs. IsGrowth old (map (λ (x : BaseEdge). EdgeRow c.args.lists.now.head.number x.edge) xs) c.put_edges.new.growth) c.deref-2.ensures.value
    (c.in_ok-put_edges.ensures.state is.ids old []
    (subst (Edging is.ids old [] c.args.growth.now) (sym (c.in_ok-tails.ensures ∙ c.deref.ensures.value)) (edging_begins old c.args.growth.now c.args.lists.now growth is))
    (subst (λ xs. All (IsPlaced is.ids) xs) (sym c.deref-2.ensures.value) is.placed)
    (subst (λ xs. All (λ (x : BaseEdge). IsFalse (list_any (change_of x.edge.pair) (old ++ []))) xs) (sym c.deref-2.ensures.value)
    (subst (λ rs. All (λ (x : BaseEdge). IsFalse (list_any (change_of x.edge.pair) rs)) c.args.lists.now.edges.items) (sym (append-nil old)) is.fresh))).growth
