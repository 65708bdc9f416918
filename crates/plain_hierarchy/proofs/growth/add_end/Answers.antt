use Rattle.std.proofs.Common.{◌≡◌, true, [], ◌∷◌, sym, subst, inl, inr}
use Rattle.op_model.specs.Edges.{linked}
use Rattle.graph_model.specs.Lists.{has}
use Rattle.plain_hierarchy.specs.Growth.{Grows, IsFresh}
use Rattle.plain_hierarchy.proofs.Growing.{grows_one, grows_none, none_some}
use Rattle.plain_hierarchy.proofs.growth.add_end.Goals as goal

pub returns-in_ok-push-in-Some : goal.returns-in_ok-push-in-Some
returns-in_ok-push-in-Some c =
    let links = linked (c.args.edge ∷ []) in
    let all = c.args.members.now in
    let from = c.args.from in
    let old = c.args.found.now.items in
    let end = c.in-Some.end in
    let same : c.as_slice.result.now ≡ old = c.as_slice.ensures.value in
    subst (Grows links all from old) (sym c.in_ok-push-in-Some.ensures)
    (grows_one links all from old end (subst (λ xs. IsFresh links all from xs end) same c.in-Some.ensures.fresh)
    (λ w l h. elim (c.in-Some.ensures.others w l h) [ inl k ↦ inl (subst (λ xs. has xs w ≡ true) same k) | inr e ↦ inr cc ]))

pub returns-in-None : goal.returns-in-None
returns-in-None c =
    let links = linked (c.args.edge ∷ []) in
    let same : c.as_slice.result.now ≡ c.args.found.now.items = c.as_slice.ensures.value in
    grows_none links c.args.members.now c.args.from c.args.found.now.items
    (λ w l h. elim (c.in-None.ensures.others w l h) [ inl k ↦ subst (λ xs. has xs w ≡ true) same k | inr e ↦ none_some e ])
