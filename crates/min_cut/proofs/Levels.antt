-- A search by levels.
use Rattle.std.proofs.Common.{◌≡◌, ℕ, zero, suc, ◌+◌, ◌-◌, ◌<◌, ◌≤◌, true, cond, List, [], ◌∷◌, length, get_or, set, ℤ, Option, Some, None, is_some, min, sym, refl, ap, ◌∙◌, subst, inl, inr, ◌⊎◌, arith, get_or-set_same, eq-eqb, eqb-true, le_refl, lit<, eq-or-lt_of_le}
use Rattle.graph_model.proofs.ListLemmas.{any_default}
use Rattle.std.proofs.lemmas.List.{get_or-set_other}
use Rattle.std.proofs.lemmas.List.Sums.{sum_by-set, count_by-le-length}
use Rattle.std.proofs.lemmas.Bool.{cases_eq, cases_lt, false≢true}
use Rattle.graph_model.specs.Wires.{Wire, wire}
use Rattle.graph_model.specs.Lists.{has}
use Rattle.graph_model.specs.Flows.{amount}
use Rattle.graph_model.specs.Residual.{RoomForth, RoomBack, Residual}
use Rattle.graph_model.proofs.Walks.{reach_more, reach_one, reach_self, has_decides}
use Rattle.min_cut.specs.declared.search.Visit.{Visit}
use Rattle.min_cut.specs.Tree.{CanForth, CanBack, visit_at, at_level, ClosedOver, visited, Leads, Took, TookNone, Grew, IsParent, IsVisit, IsTree}

none_some : {A : Type 0} {a : A} → None ≡ Some a → ⊥
none_some e = cc

some_same : {A : Type 0} {a b : A} → Some a ≡ Some b → a ≡ b
some_same e = cc

some_is : {A : Type 0} (o : Option A) {a : A} → o ≡ Some a → is_some o ≡ true
some_is o e = ap is_some e

can_less : (room : Option ℕ) (z : ℤ) (d w : ℕ) → d ≤ w → CanForth room z w → CanForth room z d
can_less None z d w l c = tt
can_less (Some r) z d w l c = omega arith

can_less_back : (room : Option ℕ) (z : ℤ) (d w : ℕ) → d ≤ w → CanBack room z w → CanBack room z d
can_less_back None z d w l c = tt
can_less_back (Some r) z d w l c = omega arith

residual_of : (ws : List Wire) (fs : List ℤ) (k from to room : ℕ) → Leads ws fs k from to room → 0 < room → Residual ws fs from to
residual_of ws fs k from to room l p = elim l.way [
  | inl w ↦ (k, l.below, inl (w.0, w.1, w.3 p))
  | inr w ↦ (k, l.below, inr (w.0, w.1, w.3 p))
]

-- an older parent is one still
parent_kept : (old new : List (Option Visit)) (u : ℕ) (visit : Visit) → ((u : ℕ) (visit : Visit) → visit_at old u ≡ Some visit → visit_at new u ≡ Some visit) →
    IsParent old u visit → IsParent new u visit
parent_kept old new u visit k p = record { of = p.of; there = k u p.of p.there; before = p.before; wide = p.wide }

module _ (ws : List Wire) (fs : List ℤ) (old new : List (Option Visit)) (level k from to room : ℕ) (l : to < length old)
    (t : Took old new level k from to room) (leads : Leads ws fs k from to room) where
  took_kept : (u : ℕ) (visit : Visit) → visit_at old u ≡ Some visit → visit_at new u ≡ Some visit
  took_kept u visit e = elim (cases_eq u to) [
    | inl q ↦ absurd (none_some (sym t.fresh ∙ (ap (visit_at old) (sym q) ∙ e)))
    | inr d ↦ rw t.set (get_or-set_other old to u (Some _) None d ∙ e)
  ]

  took_at : visit_at new to ≡ Some (record { level = level + 1; link = k; width = min t.of.width room })
  took_at = rw t.set (get_or-set_same old to (Some _) None l)

  took_new : (u : ℕ) (visit : Visit) → visit_at new u ≡ Some visit →
      (visit_at old u ≡ Some visit) ⊎ ((u ≡ to) × (record { level = level + 1; link = k; width = min t.of.width room } ≡ visit))
  took_new u visit e = elim (cases_eq u to) [
    | inl q ↦ inr (q, some_same (sym took_at ∙ (ap (visit_at new) (sym q) ∙ e)))
    | inr d ↦ inl (sym (get_or-set_other old to u (Some _) None d) ∙ (ap (λ x. visit_at x u) (sym t.set) ∙ e))
  ]

  not_from : from ≡ to → ⊥
  not_from e = none_some (sym t.fresh ∙ (ap (visit_at old) (sym e) ∙ t.there))

  took_visit : (sources : List ℕ) → IsTree ws sources fs old →
      IsVisit ws sources fs new to (record { level = level + 1; link = k; width = min t.of.width room })
  took_visit sources tree = let i = tree.each from t.of t.there in
      let y : Visit = record { level = level + 1; link = k; width = min t.of.width room } in
      let p = t.some in let w = i.wide in let nw = i.narrow in let a = t.at in
      let mw : min t.of.width room ≤ t.of.width = omega arith in
      let mr : min t.of.width room ≤ room = omega arith in
      let parent : IsParent new from (record { level = level + 1; link = k; width = min t.of.width room }) = record { of = t.of; there = took_kept from t.of t.there; before = ap (λ x. x + 1) a; wide = mw } in
      record {
        wide = omega arith;
        narrow = omega arith;
        link = λ _. leads.below;
        first = λ z. absurd (omega arith);
        forth_from = λ _ b. elim leads.way [
          | inl h ↦ (subst (λ u. IsParent new u y) (sym h.0) parent, can_less (wire ws k).room (amount fs k) y.width room mr h.2)
          | inr h ↦ absurd (not_from (sym h.0 ∙ b))
        ];
        back_from = λ _ d. elim leads.way [
          | inl h ↦ absurd (d h.1)
          | inr h ↦ (h.1, subst (λ u. IsParent new u y) (sym h.0) parent, can_less_back (wire ws k).room (amount fs k) y.width room mr h.2)
        ];
        reached = let (s, c, r) = i.reached in (s, c, reach_more (Residual ws fs) s from to r (reach_one (Residual ws fs) from to (residual_of ws fs k from to room leads p)));
      }

  kept_some : (o : Option Visit) (v : ℕ) → visit_at old v ≡ o → is_some o ≡ true → is_some (visit_at new v) ≡ true
  kept_some (Some visit) v e h = ap is_some (took_kept v visit e)
  kept_some None v e h = absurd (false≢true h)

  pub counted : visited new ≡ visited old + 1
  counted =
      let y : Option Visit = Some (record { level = level + 1; link = k; width = min t.of.width room }) in
      let c = sum_by-set (λ (v : Option Visit). cond (is_some v) 1 0) old to y None l in
      let f = ap (λ (o : Option Visit). let n : ℕ = cond (is_some o) 1 0 in n) t.fresh in
      rw t.set (omega arith)

  pub took_grew : Grew ws fs old new level
  took_grew = record {
    kept = took_kept;
    fresh = λ u visit e. elim (took_new u visit e) [ inl h ↦ inl h | inr h ↦ inr (ap (λ (v : Visit). v.level) (sym h.1)) ];
    tree = λ sources tree. record {
      each = λ v visit e. elim (took_new v visit e) [
        | inl h ↦ let i = tree.each v visit h in record {
          wide = i.wide;
          narrow = i.narrow;
          link = i.link;
          first = i.first;
          forth_from = λ p b. let f = i.forth_from p b in (parent_kept old new _ visit took_kept f.0, f.1);
          back_from = λ p d. let f = i.back_from p d in (f.0, parent_kept old new _ visit took_kept f.1, f.2);
          reached = i.reached;
        }
        | inr h ↦ subst (λ x. IsVisit ws sources fs new v x) h.1 (subst (λ u. IsVisit ws sources fs new u (record { level = level + 1; link = k; width = min t.of.width room })) (sym h.0) (took_visit sources tree))
      ];
      starts = λ v m. kept_some (visit_at old v) v refl (tree.starts v m);
    };
    more = let c = counted in omega arith;
  }

pub grew_none : (ws : List Wire) (fs : List ℤ) (visits : List (Option Visit)) (level : ℕ) → Grew ws fs visits visits level
grew_none ws fs visits level = record { kept = λ u v e. e; fresh = λ u v e. inl e; tree = λ s t. t; more = le_refl _ }

pub grew_then : (ws : List Wire) (fs : List ℤ) (old new newer : List (Option Visit)) (level : ℕ) → Grew ws fs old new level → Grew ws fs new newer level → Grew ws fs old newer level
grew_then ws fs old new newer level a b = record {
  kept = λ u v e. b.kept u v (a.kept u v e);
  fresh = λ u v e. elim (b.fresh u v e) [ inl h ↦ a.fresh u v h | inr h ↦ inr h ];
  tree = λ s t. b.tree s (a.tree s t);
  more = let x = a.more in let y = b.more in omega arith;
}

at_of : (o : Option Visit) (level : ℕ) → at_level o level ≡ true → (visit : Visit) × (o ≡ Some visit) × (visit.level ≡ level)
at_of None level h = absurd (false≢true h)
at_of (Some visit) level h = (visit, refl, eqb-true _ _ h)

-- what a vertex of the level led to is led to still, and no vertex came to the level
pub closed_kept : (ws : List Wire) (fs : List ℤ) (old new : List (Option Visit)) (level k : ℕ) → Grew ws fs old new level → ClosedOver ws fs old level k → ClosedOver ws fs new level k
closed_kept ws fs old new level k g c u w a h =
    let (visit, e, l) = at_of (visit_at new u) level h in
    elim (g.fresh u visit e) [
      | inl o ↦ go (visit_at old w) refl (c u w a (ap (λ x. at_level x level) o ∙ eq-eqb visit.level level l))
      | inr f ↦ absurd (omega arith)
    ]
  where
    go : (o : Option Visit) → visit_at old w ≡ o → is_some (visit_at old w) ≡ true → is_some (visit_at new w) ≡ true
    go (Some v) e h = ap is_some (g.kept w v e)
    go None e h = absurd (false≢true (sym (ap is_some e) ∙ h))

some_kept : (ws : List Wire) (fs : List ℤ) (old new : List (Option Visit)) (level v : ℕ) (o : Option Visit) → Grew ws fs old new level → visit_at old v ≡ o → is_some o ≡ true → is_some (visit_at new v) ≡ true
some_kept ws fs old new level v (Some visit) g e h = ap is_some (g.kept v visit e)
some_kept ws fs old new level v None g e h = absurd (false≢true h)

pub leads_forth : (ws : List Wire) (fs : List ℤ) (k from to room : ℕ) → k < length ws → (wire ws k).a ≡ from → (wire ws k).b ≡ to → CanForth (wire ws k).room (amount fs k) room →
    (0 < room → RoomForth (wire ws k).room (amount fs k)) → room ≤ 8589934592 → Leads ws fs k from to room
leads_forth ws fs k from to room l a b c r n = record { way = inl (a, b, c, r); below = l; narrow = n }

pub leads_back : (ws : List Wire) (fs : List ℤ) (k from to room : ℕ) → k < length ws → (wire ws k).b ≡ from → (wire ws k).a ≡ to → CanBack (wire ws k).room (amount fs k) room →
    (0 < room → RoomBack (wire ws k).room (amount fs k)) → room ≤ 8589934592 → Leads ws fs k from to room
leads_back ws fs k from to room l b a c r n = record { way = inr (b, a, c, r); below = l; narrow = n }

-- after both ways were tried
pub closed_after : (ws : List Wire) (fs : List ℤ) (old mid new : List (Option Visit)) (level k rf rb : ℕ) → (wire ws k).a < length mid →
    TookNone old mid level (wire ws k).a (wire ws k).b rf →
    Took mid new level k (wire ws k).b (wire ws k).a rb ⊎ TookNone mid new level (wire ws k).b (wire ws k).a rb →
    (RoomForth (wire ws k).room (amount fs k) → 0 < rf) → (RoomBack (wire ws k).room (amount fs k) → 0 < rb) → ClosedOver ws fs new level k
closed_after ws fs old mid new level k rf rb l n (inr m) pf pb u w (inl (a, b, r)) h =
    subst (λ x. is_some (visit_at new x) ≡ true) b (let e = m.same ∙ n.same in
    subst (λ x. is_some (visit_at x (wire ws k).b) ≡ true) (sym e) (n.why (pf r) (subst (λ x. at_level (visit_at x (wire ws k).a) level ≡ true) e (subst (λ x. at_level (visit_at new x) level ≡ true) (sym a) h))))
closed_after ws fs old mid new level k rf rb l n (inr m) pf pb u w (inr (b, a, r)) h =
    subst (λ x. is_some (visit_at new x) ≡ true) a (subst (λ x. is_some (visit_at x (wire ws k).a) ≡ true) (sym m.same)
    (m.why (pb r) (subst (λ x. at_level (visit_at x (wire ws k).b) level ≡ true) m.same (subst (λ x. at_level (visit_at new x) level ≡ true) (sym b) h))))
closed_after ws fs old mid new level k rf rb l n (inl t) pf pb u w (inl (a, b, r)) h =
    subst (λ x. is_some (visit_at new x) ≡ true) b (elim (cases_eq (wire ws k).b (wire ws k).a) [
      | inl q ↦ absurd (none_some (sym t.fresh ∙ (ap (visit_at mid) (sym q) ∙ t.there)))
      | inr d ↦ let e : visit_at new (wire ws k).b ≡ Some t.of = rw t.set (get_or-set_other mid (wire ws k).a (wire ws k).b (Some _) None d ∙ t.there) in ap is_some e
    ])
closed_after ws fs old mid new level k rf rb l n (inl t) pf pb u w (inr (b, a, r)) h =
    subst (λ x. is_some (visit_at new x) ≡ true) a (let y : Visit = record { level = level + 1; link = k; width = min t.of.width rb } in let e : visit_at new (wire ws k).a ≡ Some y = rw t.set (get_or-set_same mid (wire ws k).a (Some y) None l) in ap is_some e)

-- the levels below `level` are closed, and no vertex is at a greater one
pub record Explored (ws : List Wire) (sources : List ℕ) (fs : List ℤ) (visits : List (Option Visit)) (level : ℕ) : Type 0 where
  pub tree : IsTree ws sources fs visits
  pub done : (u w : ℕ) (visit : Visit) → Residual ws fs u w → visit_at visits u ≡ Some visit → visit.level < level → is_some (visit_at visits w) ≡ true
  pub top : (u : ℕ) (visit : Visit) → visit_at visits u ≡ Some visit → visit.level ≤ level

pub visited_le : (visits : List (Option Visit)) → visited visits ≤ length visits
visited_le visits = count_by-le-length (λ (v : Option Visit). is_some v) visits

pub explored_start : (ws : List Wire) (sources : List ℕ) (fs : List ℤ) (visits : List (Option Visit)) →
    ((v : ℕ) (visit : Visit) → visit_at visits v ≡ Some visit → (has sources v ≡ true) × (visit ≡ record { level = 0; link = 0; width = 8589934592 })) →
    ((v : ℕ) → has sources v ≡ true → is_some (visit_at visits v) ≡ true) → Explored ws sources fs visits 0
explored_start ws sources fs visits only each = record {
  tree = record {
    each = λ v visit e. let o = only v visit e in subst (λ x. IsVisit ws sources fs visits v x) (sym o.1) (record {
      wide = lit< tt;
      narrow = le_refl _;
      link = λ p. absurd (omega arith);
      first = λ _. o.0;
      forth_from = λ p. absurd (omega arith);
      back_from = λ p. absurd (omega arith);
      reached = (v, (has_decides sources v).0 o.0, reach_self (Residual ws fs) v);
    });
    starts = each;
  };
  done = λ u w visit r e l. absurd (omega arith);
  top = λ u visit e. let o = only u visit e in let h = ap (λ (v : Visit). v.level) o.1 in omega arith;
}

pub explored_on : (ws : List Wire) (sources : List ℕ) (fs : List ℤ) (old new : List (Option Visit)) (level : ℕ) → Explored ws sources fs old level →
    Grew ws fs old new level → ((k : ℕ) → k < length ws → ClosedOver ws fs new level k) → Explored ws sources fs new (level + 1)
explored_on ws sources fs old new level x g c = record {
  tree = g.tree sources x.tree;
  done = λ u w visit (k, l, a) e b. elim (g.fresh u visit e) [
    | inr f ↦ absurd (omega arith)
    | inl o ↦ elim (cases_eq visit.level level) [
      | inl q ↦ c k l u w a (ap (λ z. at_level z level) e ∙ eq-eqb visit.level level q)
      | inr d ↦ let t = x.top u visit o in some_kept ws fs old new level w (visit_at old w) g refl (x.done u w visit (k, l, a) o (omega arith))
    ]
  ];
  top = λ u visit e. elim (g.fresh u visit e) [ inl o ↦ let t = x.top u visit o in omega arith | inr f ↦ omega arith ];
}

pub explored_done : (ws : List Wire) (sources : List ℕ) (fs : List ℤ) (visits : List (Option Visit)) (level : ℕ) → Explored ws sources fs visits level →
    ((k : ℕ) → k < length ws → ClosedOver ws fs visits level k) → (u w : ℕ) → Residual ws fs u w → is_some (visit_at visits u) ≡ true → is_some (visit_at visits w) ≡ true
explored_done ws sources fs visits level x c u w (k, l, a) s = go (visit_at visits u) refl s
  where
    go : (o : Option Visit) → visit_at visits u ≡ o → is_some (visit_at visits u) ≡ true → is_some (visit_at visits w) ≡ true
    go None e h = absurd (false≢true (sym (ap is_some e) ∙ h))
    go (Some visit) e h = elim (cases_eq visit.level level) [
      | inl q ↦ c k l u w a (ap (λ z. at_level z level) e ∙ eq-eqb visit.level level q)
      | inr d ↦ let t = x.top u visit e in x.done u w visit (k, l, a) e (omega arith)
    ]

-- the sources below place i alone are visited
pub record StartedBelow (sources : List ℕ) (visits : List (Option Visit)) (i : ℕ) : Type 0 where
  pub only : (v : ℕ) (visit : Visit) → visit_at visits v ≡ Some visit → (has sources v ≡ true) × (visit ≡ record { level = 0; link = 0; width = 8589934592 })
  pub each : (j : ℕ) → j < i → is_some (visit_at visits (get_or sources j 0)) ≡ true

pub past : (visits : List (Option Visit)) (v : ℕ) → length visits ≤ v → visit_at visits v ≡ None
past [] v l = refl
past (x ∷ xs) zero l = absurd (omega arith)
past (x ∷ xs) (suc v) l = past xs v (omega arith)

pub started_none : (sources : List ℕ) (visits : List (Option Visit)) → ((v : ℕ) → v < length visits → visit_at visits v ≡ None) → StartedBelow sources visits 0
started_none sources visits n = record {
  only = λ v visit e. elim (cases_lt v (length visits)) [
    | inl l ↦ absurd (none_some (sym (n v l) ∙ e))
    | inr g ↦ absurd (none_some (sym (past visits v g) ∙ e))
  ];
  each = λ j l. absurd (omega arith);
}

pub started_more : (sources : List ℕ) (visits : List (Option Visit)) (i : ℕ) → i < length sources → get_or sources i 0 < length visits → StartedBelow sources visits i →
    StartedBelow sources (set visits (get_or sources i 0) (Some (record { level = 0; link = 0; width = 8589934592 }))) (i + 1)
started_more sources visits i l m b =
    let s = get_or sources i 0 in
    let y : Visit = record { level = 0; link = 0; width = 8589934592 } in
    record {
      only = λ v visit e. elim (cases_eq v s) [
        | inl q ↦ (
          (has_decides sources v).1 (i, l, any_default sources i v 0 l ∙ sym q),
          some_same (sym e ∙ (ap (visit_at (set visits s (Some y))) q ∙ get_or-set_same visits s (Some y) None m)),
        )
        | inr d ↦ b.only v visit (sym (get_or-set_other visits s v (Some y) None d) ∙ e)
      ];
      each = λ j k. elim (cases_eq (get_or sources j 0) s) [
        | inl q ↦ let e : visit_at (set visits s (Some y)) (get_or sources j 0) ≡ Some y = ap (visit_at (set visits s (Some y))) q ∙ get_or-set_same visits s (Some y) None m in ap is_some e
        | inr d ↦ let n : j < i = not_last j i k (λ e. d (ap (λ x. get_or sources x 0) e)) in
            let e = get_or-set_other visits s (get_or sources j 0) (Some y) None d in ap is_some e ∙ b.each j n
      ];
    }
  where
    not_last : (j i : ℕ) → j < i + 1 → (j ≡ i → ⊥) → j < i
    not_last j i l d = omega arith

-- nothing changes where one was visited before
pub started_same : (sources : List ℕ) (visits : List (Option Visit)) (i : ℕ) → is_some (visit_at visits (get_or sources i 0)) ≡ true → StartedBelow sources visits i → StartedBelow sources visits (i + 1)
started_same sources visits i h b = record {
  only = b.only;
  each = λ j k. let l : j ≤ i = omega arith in elim (eq-or-lt_of_le l) [ inl e ↦ subst (λ x. is_some (visit_at visits (get_or sources x 0)) ≡ true) (sym e) h | inr m ↦ b.each j m ];
}

pub started_all : (sources : List ℕ) (visits : List (Option Visit)) (i : ℕ) → StartedBelow sources visits i → length sources ≤ i →
    (v : ℕ) → has sources v ≡ true → is_some (visit_at visits v) ≡ true
started_all sources visits i b l v m =
    let (j, k, e) = (has_decides sources v).0 m in
    subst (λ x. is_some (visit_at visits x) ≡ true) (any_default sources j 0 v k ∙ e) (b.each j (omega arith))

pub falls_by : (n a b : ℕ) → a < b → b ≤ n → n - b < n - a
falls_by n a b l m = omega arith
