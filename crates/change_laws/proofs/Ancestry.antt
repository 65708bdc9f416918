-- Ancestors, entry by entry: a list of the same roots has the same, and each was asked for or retired.
use Rattle.std.proofs.Common.{◌≡◌, ℕ, Bool, true, eqb, List, [], ◌∷◌, ◌++◌, map, refl, sym, ◌∙◌, ap, subst, inl, inr, ◌⊎◌, eq-eqb}
use Rattle.std.specs.List.{filter, list_any}
use Rattle.std.proofs.lemmas.Bool.{eqb-true}
use Rattle.op_model.specs.declared.base.Dataset.{Dataset}
use Rattle.op_model.specs.declared.base.Base.{Base}
use Rattle.op_model.specs.declared.entry.Entry.{Entry}
use Rattle.graph_model.specs.Lists.{has}
use Rattle.graph_model.proofs.ListLemmas.{has_none, filter_has, filter_only, filter_same, any_from, any_only, same_bool}
use Rattle.op_model.specs.Answers.{share, leaves_at, ancestors}
use Rattle.op_model.specs.Labels.{root}
use Rattle.op_model.specs.Operations.{ends, first_entry}
use Rattle.op_model.specs.Legal.{Legal}
use Rattle.op_model.specs.Valid.{IsDataset, IsBase}
use Rattle.op_model.proofs.LegalLemmas.{ascending_has, map_has}
use Rattle.op_model.proofs.LinkLemmas.{append_cases, append_left, append_right}
use Rattle.op_model.proofs.LocalLemmas.{end_retired}
use Rattle.op_model.proofs.MadeLemmas.{map_only}
use Rattle.change_laws.specs.Visits.{linked_by}
use Rattle.change_laws.proofs.NearEnds.{known_end, made_roots, near_end}

-- both lists have the same numbers
abbrev pub Same : List ℕ → List ℕ → Type 0
Same xs ys = (x : ℕ) → has xs x ≡ has ys x

pub has_by : (xs ys : List ℕ) → Same xs ys → (x : ℕ) → has xs x ≡ true → has ys x ≡ true
has_by xs ys s x h = sym (s x) ∙ h

pub turned : (xs ys : List ℕ) → Same xs ys → Same ys xs
turned xs ys s x = sym (s x)

-- two that have the same, each behind a list
pub behind_same : (xs ys us vs : List ℕ) → Same xs ys → Same us vs → Same (xs ++ us) (ys ++ vs)
behind_same xs ys us vs s t x = same_bool (has (xs ++ us) x) (has (ys ++ vs) x) (to xs ys us vs s t) (to ys xs vs us (turned xs ys s) (turned us vs t))
  where
    to : (xs ys us vs : List ℕ) → Same xs ys → Same us vs → has (xs ++ us) x ≡ true → has (ys ++ vs) x ≡ true
    to xs ys us vs s t h = elim (append_cases xs us x h) [ inl k ↦ append_left ys vs x (has_by xs ys s x k) | inr k ↦ append_right ys vs x (has_by us vs t x k) ]

-- a number of both lists is shared
pub shared : (xs ys : List ℕ) (x : ℕ) → has xs x ≡ true → has ys x ≡ true → share xs ys ≡ true
unfolding share
shared xs ys x h k = any_from (λ u. has ys u) xs x h k

-- and a shared number is of both
pub share_only : (xs ys : List ℕ) → share xs ys ≡ true → (x : ℕ) × (has xs x ≡ true) × (has ys x ≡ true)
unfolding share
share_only xs ys h = any_only (λ u. has ys u) xs h

module _ (d : Dataset) (b : Base) where
  -- the roots of a list that the entry made
  abbrev pub heirs : Entry → List ℕ → List ℕ
  heirs e roots = filter (has e.made) roots

  abbrev pub test : Entry → List Entry → List ℕ → ℕ → Bool
  test e log roots r = list_any (λ s. share (leaves_at d b log r) (leaves_at d b (e ∷ log) s)) (heirs e roots)

  -- the roots that the entry retired and linked to some of a list
  abbrev pub found : Entry → List Entry → List ℕ → List ℕ
  found e log roots = filter (test e log roots) e.retired

  test_by : (e : Entry) (log : List Entry) (xs ys : List ℕ) → Same xs ys → (r : ℕ) → test e log xs r ≡ true → test e log ys r ≡ true
  test_by e log xs ys s r h =
      let p = any_only (λ s. share (leaves_at d b log r) (leaves_at d b (e ∷ log) s)) (heirs e xs) h in
      let q = filter_only (has e.made) xs p.0 p.1 in
      any_from (λ s. share (leaves_at d b log r) (leaves_at d b (e ∷ log) s)) (heirs e ys) p.0 (filter_has (has e.made) ys p.0 (has_by xs ys s p.0 q.0) q.1) p.2

  found_same : (e : Entry) (log : List Entry) (xs ys : List ℕ) → Same xs ys → found e log xs ≡ found e log ys
  found_same e log xs ys s =
      filter_same (test e log xs) (test e log ys) e.retired
      (λ r h. same_bool (test e log xs r) (test e log ys r) (test_by e log xs ys s r) (test_by e log ys xs (turned xs ys s) r))

  -- the ancestors of the same roots are the same
  pub ancestors_same : (log : List Entry) (xs ys : List ℕ) → Same xs ys → Same (ancestors d b log xs) (ancestors d b log ys)
  unfolding ancestors
  ancestors_same [] xs ys s = s
  ancestors_same (e ∷ log) xs ys s =
      ancestors_same log (xs ++ found e log xs) (ys ++ found e log ys)
      (behind_same xs ys (found e log xs) (found e log ys) s (λ x. ap (λ zs. has zs x) (found_same e log xs ys s)))

  -- a root is among its ancestors
  pub own_ancestor : (log : List Entry) (roots : List ℕ) (a : ℕ) → has roots a ≡ true → has (ancestors d b log roots) a ≡ true
  unfolding ancestors
  own_ancestor [] roots a h = h
  own_ancestor (e ∷ log) roots a h = own_ancestor log (roots ++ found e log roots) a (append_left roots (found e log roots) a h)

  -- an entry of the log retired the root
  abbrev pub IsRetired : List Entry → ℕ → Type 0
  IsRetired log a = (newer older : List Entry) × (g : Entry) × (log ≡ newer ++ g ∷ older) × (has g.retired a ≡ true)

  -- an ancestor was asked for, or an entry retired it
  pub origin : (log : List Entry) (roots : List ℕ) (a : ℕ) → has (ancestors d b log roots) a ≡ true → (has roots a ≡ true) ⊎ IsRetired log a
  unfolding ancestors
  origin [] roots a h = inl h
  origin (e ∷ log) roots a h =
      elim (origin log (roots ++ found e log roots) a h) [
        | inl k ↦ elim (append_cases roots (found e log roots) a k) [
          | inl m ↦ inl m
          | inr m ↦ inr ([], log, e, refl, (filter_only (test e log roots) e.retired a m).0)
        ]
        | inr r ↦ inr (e ∷ r.0, r.1, r.2, ap (λ xs. e ∷ xs) r.3, r.4)
      ]

  pub found_retired : (e : Entry) (log : List Entry) (roots : List ℕ) (a : ℕ) → has (found e log roots) a ≡ true → has e.retired a ≡ true
  found_retired e log roots a h = (filter_only (test e log roots) e.retired a h).0

  -- where an entry linked one to a list, it made one of the list
  pub found_made : (e : Entry) (log : List Entry) (roots : List ℕ) (a : ℕ) → has (found e log roots) a ≡ true → share e.made roots ≡ true
  found_made e log roots a h =
      let p = filter_only (test e log roots) e.retired a h in
      let q = any_only (λ s. share (leaves_at d b log a) (leaves_at d b (e ∷ log) s)) (heirs e roots) p.1 in
      let m = filter_only (has e.made) roots q.0 q.1 in
      shared e.made roots q.0 m.1 m.0

module _ (d : Dataset) (b : Base) (valid : IsDataset d) (base : IsBase d b) where
  has_leaf : (log : List Entry) (u : ℕ) → has b.supervoxels u ≡ true → has (leaves_at d b log (root d b log u)) u ≡ true
  unfolding leaves_at
  has_leaf log u h = filter_has (λ v. eqb (root d b log v) (root d b log u)) b.supervoxels u h (eq-eqb (root d b log u) (root d b log u) refl)

  is_leaf : (log : List Entry) (r u : ℕ) → has (leaves_at d b log r) u ≡ true → (has b.supervoxels u ≡ true) × (root d b log u ≡ r)
  unfolding leaves_at
  is_leaf log r u h = let p = filter_only (λ v. eqb (root d b log v) r) b.supervoxels u h in (p.0, eqb-true (root d b log u) r p.1)

  linked_found : (e f : Entry) (log : List Entry) (roots : List ℕ) (x : ℕ) → Legal d b (e ∷ f ∷ log) → has (linked_by d b e (f ∷ log) roots) x ≡ true → has (found d b e (f ∷ log) roots) x ≡ true
  unfolding linked_by
  linked_found e f log roots x legal h =
      let p = map_only (root d b (f ∷ log)) (filter (λ w. has roots (root d b (e ∷ f ∷ log) w)) (ends e.changed)) x h in
      let u : ℕ = p.0 in
      let q = filter_only (λ w. has roots (root d b (e ∷ f ∷ log) w)) (ends e.changed) u p.1 in
      let s : ℕ = root d b (e ∷ f ∷ log) u in
      let known = known_end d b valid base e (f ∷ log) u legal q.0 in
      let made : has e.made s ≡ true = subst (λ xs. has xs s ≡ true) (made_roots d b valid base e f log legal) (ascending_has (map (root d b (e ∷ f ∷ log)) (ends e.changed)) s (map_has (root d b (e ∷ f ∷ log)) (ends e.changed) u q.0)) in
      let both : share (leaves_at d b (f ∷ log) (root d b (f ∷ log) u)) (leaves_at d b (e ∷ f ∷ log) s) ≡ true = shared (leaves_at d b (f ∷ log) (root d b (f ∷ log) u)) (leaves_at d b (e ∷ f ∷ log) s) u (has_leaf (f ∷ log) u known) (has_leaf (e ∷ f ∷ log) u known) in
      subst (λ y. has (found d b e (f ∷ log) roots) y ≡ true) p.2
      (filter_has (test d b e (f ∷ log) roots) e.retired (root d b (f ∷ log) u) (end_retired d b e f log u legal q.0) (any_from (λ z. share (leaves_at d b (f ∷ log) (root d b (f ∷ log) u)) (leaves_at d b (e ∷ f ∷ log) z)) (heirs d b e roots) s (filter_has (has e.made) roots s q.1 made) both))

  found_linked : (e f : Entry) (log : List Entry) (roots : List ℕ) (x : ℕ) → Legal d b (e ∷ f ∷ log) → has (found d b e (f ∷ log) roots) x ≡ true → has (linked_by d b e (f ∷ log) roots) x ≡ true
  unfolding linked_by
  found_linked e f log roots x legal h =
      let p = filter_only (test d b e (f ∷ log) roots) e.retired x h in
      let q = any_only (λ s. share (leaves_at d b (f ∷ log) x) (leaves_at d b (e ∷ f ∷ log) s)) (filter (has e.made) roots) p.1 in
      let s : ℕ = q.0 in
      let m = filter_only (has e.made) roots s q.1 in
      let v = share_only (leaves_at d b (f ∷ log) x) (leaves_at d b (e ∷ f ∷ log) s) q.2 in
      let before = is_leaf (f ∷ log) x v.0 v.1 in
      let after = is_leaf (e ∷ f ∷ log) s v.0 v.2 in
      let n = near_end d b valid base e f log v.0 legal before.0 (subst (λ z. has e.made z ≡ true) (sym after.1) m.1) in
      let u : ℕ = n.0 in
      let kept : has (filter (λ w. has roots (root d b (e ∷ f ∷ log) w)) (ends e.changed)) u ≡ true = filter_has (λ w. has roots (root d b (e ∷ f ∷ log) w)) (ends e.changed) u n.1 (subst (λ z. has roots z ≡ true) (sym (n.3 ∙ after.1)) m.0) in
      subst (λ z. has (map (root d b (f ∷ log)) (filter (λ w. has roots (root d b (e ∷ f ∷ log) w)) (ends e.changed))) z ≡ true) (n.2 ∙ before.1)
      (map_has (root d b (f ∷ log)) (filter (λ w. has roots (root d b (e ∷ f ∷ log) w)) (ends e.changed)) u kept)

  -- the roots that an entry retired and linked to some are those that its ends had before
  pub linked_same : (e : Entry) (log : List Entry) (roots : List ℕ) → Legal d b (e ∷ log) → Same (found d b e log roots) (linked_by d b e log roots)
  unfolding linked_by first_entry ends
  linked_same e [] roots legal x =
      let r : e.retired ≡ [] = ap (λ z. z.retired) legal.0 in
      let c : e.changed ≡ [] = ap (λ z. z.changed) legal.0 in
      same_bool (has (found d b e [] roots) x) (has (linked_by d b e [] roots) x)
      (λ h. has_none x (subst (λ xs. has xs x ≡ true) r (filter_only (test d b e [] roots) e.retired x h).0))
      (λ h. let p = map_only (root d b []) (filter (λ w. has roots (root d b (e ∷ []) w)) (ends e.changed)) x h in let q = filter_only (λ w. has roots (root d b (e ∷ []) w)) (ends e.changed) p.0 p.1 in has_none p.0 (subst (λ cs. has (ends cs) p.0 ≡ true) c q.0))
  linked_same e (f ∷ log) roots legal x =
      same_bool (has (found d b e (f ∷ log) roots) x) (has (linked_by d b e (f ∷ log) roots) x) (found_linked e f log roots x legal) (linked_found e f log roots x legal)
