-- The walk back from roots meets just the entries that made or retired one of their ancestors.
use Rattle.std.proofs.Common.{◌≡◌, ℕ, Bool, true, false, cond, ◌||◌, List, [], ◌∷◌, ◌++◌, map, reverse, refl, ◌∙◌, ap, ap₂, subst, inl, inr, append-nil}
use Rattle.std.specs.List.{AllByRecursion, filter}
use Rattle.std.proofs.lemmas.Bool.{or_cases, or_left, or_right}
use Rattle.op_model.specs.declared.base.Dataset.{Dataset}
use Rattle.op_model.specs.declared.base.Base.{Base}
use Rattle.op_model.specs.declared.entry.Entry.{Entry}
use Rattle.graph_model.specs.Lists.{has}
use Rattle.graph_model.proofs.ListLemmas.{contra, filter_same, has_head, has_none, same_bool}
use Rattle.op_model.specs.Answers.{share, ancestors, changes, summary}
use Rattle.op_model.specs.Labels.{root}
use Rattle.op_model.specs.Operations.{ends, first_entry}
use Rattle.op_model.specs.Legal.{Legal}
use Rattle.op_model.specs.Valid.{IsDataset, IsBase}
use Rattle.op_model.proofs.LinkLemmas.{append_cases, append_left, append_right}
use Rattle.change_laws.specs.Laws.{ChangesAreVisited}
use Rattle.change_laws.specs.Visits.{linked_by, meets, visits}
use Rattle.change_laws.proofs.Ancestry.{Same, IsRetired, ancestors_same, behind_same, found, found_made, found_retired, has_by, linked_same, origin, own_ancestor, share_only, shared, turned}
use Rattle.change_laws.proofs.NearEnds.{gone, known_end, made_end, retired_end}

share_by : (us xs ys : List ℕ) → Same xs ys → share us xs ≡ true → share us ys ≡ true
share_by us xs ys s h = let p = share_only us xs h in shared us ys p.0 p.1 (has_by xs ys s p.0 p.2)

-- an entry meets the same roots alike
pub meets_same : (e : Entry) (xs ys : List ℕ) → Same xs ys → meets e xs ≡ meets e ys
unfolding meets
meets_same e xs ys s =
    ap₂ (λ (p q : Bool). p || q)
    (same_bool (share e.made xs) (share e.made ys) (share_by e.made xs ys s) (share_by e.made ys xs (turned xs ys s)))
    (same_bool (share e.retired xs) (share e.retired ys) (share_by e.retired xs ys s) (share_by e.retired ys xs (turned xs ys s)))

filter_alike : (s t : Entry → Bool) → ((e : Entry) → s e ≡ t e) → (log : List Entry) → filter s log ≡ filter t log
filter_alike s t f [] = refl
filter_alike s t f (e ∷ log) = ap₂ (λ (c : Bool) (xs : List Entry). cond c (e ∷ xs) xs) (f e) (filter_alike s t f log)

module _ (d : Dataset) (b : Base) (valid : IsDataset d) (base : IsBase d b) where
  -- an entry neither made nor retired a root that an older one retired
  pub made_once : (e : Entry) (log : List Entry) (a : ℕ) → Legal d b (e ∷ log) → has e.made a ≡ true → IsRetired d b log a → ⊥
  made_once e [] a legal h r = none r.0 r.3
    where
      none : (newer : List Entry) → [] ≡ newer ++ r.2 ∷ r.1 → ⊥
      none [] q = cc
      none (f ∷ newer) q = cc
  made_once e (f ∷ log) a legal h r =
      let u = made_end d b valid base e f log a legal h in
      let whole : e ∷ f ∷ log ≡ (e ∷ r.0) ++ r.2 ∷ r.1 = ap (λ xs. e ∷ xs) r.3 in
      gone d b valid base (e ∷ r.0) r.2 r.1 a u.0 (subst (Legal d b) whole legal) r.4 (known_end d b valid base e (f ∷ log) u.0 legal u.1) (subst (λ l. root d b l u.0 ≡ a) whole u.2)

  pub retired_once : (e : Entry) (log : List Entry) (a : ℕ) → Legal d b (e ∷ log) → has e.retired a ≡ true → IsRetired d b log a → ⊥
  unfolding first_entry
  retired_once e [] a legal h r = has_none a (subst (λ xs. has xs a ≡ true) (ap (λ z. z.retired) legal.0) h)
  retired_once e (f ∷ log) a legal h r =
      let u = retired_end d b valid base e f log a legal h in
      gone d b valid base r.0 r.2 r.1 a u.0 (subst (Legal d b) r.3 legal.1) r.4 (known_end d b valid base e (f ∷ log) u.0 legal u.1) (subst (λ l. root d b l u.0 ≡ a) r.3 u.2)

  -- an entry that meets an ancestor of roots meets the roots
  met_by : (e : Entry) (log : List Entry) (roots : List ℕ) → Legal d b (e ∷ log) → meets e (ancestors d b (e ∷ log) roots) ≡ true → meets e roots ≡ true
  unfolding meets ancestors
  met_by e log roots legal h =
      elim (or_cases (share e.made (ancestors d b (e ∷ log) roots)) (share e.retired (ancestors d b (e ∷ log) roots)) h) [
        | inl m ↦
            let p = share_only e.made (ancestors d b (e ∷ log) roots) m in
            from p.0 p.2 (λ k. or_left (share e.made roots) _ (shared e.made roots p.0 p.1 k)) (made_once e log p.0 legal p.1)
        | inr m ↦
            let p = share_only e.retired (ancestors d b (e ∷ log) roots) m in
            from p.0 p.2 (λ k. or_right (share e.made roots) _ (shared e.retired roots p.0 p.1 k)) (retired_once e log p.0 legal p.1)
      ]
    where
      from : (a : ℕ) → has (ancestors d b log (roots ++ found d b e log roots)) a ≡ true → (has roots a ≡ true → (share e.made roots || share e.retired roots) ≡ true) → (IsRetired d b log a → ⊥)
          → (share e.made roots || share e.retired roots) ≡ true
      from a k own older =
          elim (origin d b log (roots ++ found d b e log roots) a k) [
            | inl n ↦ elim (append_cases roots (found d b e log roots) a n) [ inl o ↦ own o | inr o ↦ or_left (share e.made roots) _ (found_made d b e log roots a o) ]
            | inr r ↦ absurd (older r)
          ]

  met_more : (e : Entry) (log : List Entry) (roots : List ℕ) → meets e roots ≡ true → meets e (ancestors d b log roots) ≡ true
  unfolding meets
  met_more e log roots h =
      elim (or_cases (share e.made roots) (share e.retired roots) h) [
        | inl m ↦ let p = share_only e.made roots m in or_left (share e.made (ancestors d b log roots)) _ (shared e.made (ancestors d b log roots) p.0 p.1 (own_ancestor d b log roots p.0 p.2))
        | inr m ↦ let p = share_only e.retired roots m in or_right (share e.made (ancestors d b log roots)) _ (shared e.retired (ancestors d b log roots) p.0 p.1 (own_ancestor d b log roots p.0 p.2))
      ]

  met_same : (e : Entry) (log : List Entry) (roots : List ℕ) → Legal d b (e ∷ log) → meets e (ancestors d b (e ∷ log) roots) ≡ meets e roots
  met_same e log roots legal = same_bool (meets e (ancestors d b (e ∷ log) roots)) (meets e roots) (met_by e log roots legal) (met_more e (e ∷ log) roots)

  -- behind the newest entry the ancestors are those of what its ends add
  older_same : (e : Entry) (log : List Entry) (roots : List ℕ) → Legal d b (e ∷ log) → Same (ancestors d b (e ∷ log) roots) (ancestors d b log (roots ++ linked_by d b e log roots))
  unfolding ancestors
  older_same e log roots legal =
      ancestors_same d b log (roots ++ found d b e log roots) (roots ++ linked_by d b e log roots)
      (behind_same roots roots (found d b e log roots) (linked_by d b e log roots) (λ x. refl) (linked_same d b valid base e log roots legal))

  step : (e : Entry) (log : List Entry) (roots : List ℕ) → Legal d b (e ∷ log)
      → filter (λ g. meets g (ancestors d b log (roots ++ linked_by d b e log roots))) log ≡ visits d b log (roots ++ linked_by d b e log roots)
      → filter (λ g. meets g (ancestors d b (e ∷ log) roots)) (e ∷ log) ≡ visits d b (e ∷ log) roots
  unfolding visits
  step e log roots legal ih =
      let rest = filter_alike (λ g. meets g (ancestors d b (e ∷ log) roots)) (λ g. meets g (ancestors d b log (roots ++ linked_by d b e log roots)))
      (λ g. meets_same g (ancestors d b (e ∷ log) roots) (ancestors d b log (roots ++ linked_by d b e log roots)) (older_same e log roots legal)) log ∙ ih in
      ap₂ (λ (c : Bool) (xs : List Entry). cond c (e ∷ xs) xs) (met_same e log roots legal) rest

  all_met : (log : List Entry) (roots : List ℕ) → Legal d b log → filter (λ g. meets g (ancestors d b log roots)) log ≡ visits d b log roots
  unfolding visits
  all_met [] roots legal = absurd legal
  all_met (e ∷ []) roots legal = step e [] roots legal refl
  all_met (e ∷ f ∷ log) roots legal = step e (f ∷ log) roots legal (all_met (f ∷ log) (roots ++ linked_by d b e (f ∷ log) roots) legal.1)

pub visited : ChangesAreVisited
unfolding changes meets
visited d b valid base log roots legal = ap (λ es. reverse (map summary es)) (all_met d b valid base log roots legal)

module _ (d : Dataset) (b : Base) where
  linked_alike : (e : Entry) (log : List Entry) (xs ys : List ℕ) → Same xs ys → linked_by d b e log xs ≡ linked_by d b e log ys
  unfolding linked_by
  linked_alike e log xs ys s =
      ap (map (root d b log))
      (filter_same (λ u. has xs (root d b (e ∷ log) u)) (λ u. has ys (root d b (e ∷ log) u)) (ends e.changed) (λ u h. s (root d b (e ∷ log) u)))

  -- the walk visits the same for a list of the same roots
  pub visits_alike : (log : List Entry) (xs ys : List ℕ) → Same xs ys → visits d b log xs ≡ visits d b log ys
  unfolding visits
  visits_alike [] xs ys s = refl
  visits_alike (e ∷ log) xs ys s =
      ap₂ (λ (c : Bool) (es : List Entry). cond c (e ∷ es) es) (meets_same e xs ys s)
      (visits_alike log (xs ++ linked_by d b e log xs) (ys ++ linked_by d b e log ys)
      (behind_same xs ys (linked_by d b e log xs) (linked_by d b e log ys) s (λ x. ap (λ zs. has zs x) (linked_alike e log xs ys s))))

module _ (d : Dataset) (b : Base) (valid : IsDataset d) (base : IsBase d b) where
  -- an entry that makes none of the roots links none to them
  linked_none : (e : Entry) (log : List Entry) (roots : List ℕ) → Legal d b (e ∷ log) → meets e roots ≡ false → linked_by d b e log roots ≡ []
  unfolding meets
  linked_none e log roots legal n =
      is_nil (linked_by d b e log roots)
      (λ x h. contra (meets e roots) (made (found_made d b e log roots x (has_by (linked_by d b e log roots) (found d b e log roots) (turned (found d b e log roots) (linked_by d b e log roots) (linked_same d b valid base e log roots legal)) x h))) n)
    where
      made : share e.made roots ≡ true → meets e roots ≡ true
      made h = or_left (share e.made roots) _ h

      is_nil : (xs : List ℕ) → ((x : ℕ) → has xs x ≡ true → ⊥) → xs ≡ []
      is_nil [] f = refl
      is_nil (x ∷ xs) f = absurd (f x (has_head x xs))

  pub skipped : (newer older : List Entry) (roots : List ℕ) → Legal d b (newer ++ older) → AllByRecursion (λ e. meets e roots ≡ false) newer → visits d b (newer ++ older) roots ≡ visits d b older roots
  unfolding visits
  skipped [] older roots legal a = refl
  skipped (e ∷ newer) older roots legal a =
      let more : roots ++ linked_by d b e (newer ++ older) roots ≡ roots = ap (λ xs. roots ++ xs) (linked_none e (newer ++ older) roots legal a.0) ∙ append-nil roots in
      ap (λ (c : Bool). cond c (e ∷ visits d b (newer ++ older) (roots ++ linked_by d b e (newer ++ older) roots)) (visits d b (newer ++ older) (roots ++ linked_by d b e (newer ++ older) roots))) a.0
      ∙ (ap (visits d b (newer ++ older)) more ∙ rest newer older legal a.1 (skipped newer older roots))
    where
      rest : (newer older : List Entry) → Legal d b (e ∷ newer ++ older) → AllByRecursion (λ e. meets e roots ≡ false) newer
          → (Legal d b (newer ++ older) → AllByRecursion (λ e. meets e roots ≡ false) newer → visits d b (newer ++ older) roots ≡ visits d b older roots)
          → visits d b (newer ++ older) roots ≡ visits d b older roots
      rest [] older l a ih = refl
      rest (f ∷ newer) older l a ih = ih l.1 a

  -- an older entry meets what an entry linked only where it made some of it
  pub linked_unretired : (e g : Entry) (newer older : List Entry) (roots : List ℕ) → Legal d b (e ∷ newer ++ g ∷ older)
      → meets g (roots ++ linked_by d b e (newer ++ g ∷ older) roots) ≡ (meets g roots || share g.made (linked_by d b e (newer ++ g ∷ older) roots))
  unfolding meets
  linked_unretired e g newer older roots legal = same_bool (share g.made (roots ++ linked) || share g.retired (roots ++ linked)) ((share g.made roots || share g.retired roots) || share g.made linked) to back
    where
      linked : List ℕ
      linked = linked_by d b e (newer ++ g ∷ older) roots

      to : (share g.made (roots ++ linked) || share g.retired (roots ++ linked)) ≡ true → ((share g.made roots || share g.retired roots) || share g.made linked) ≡ true
      to h =
          elim (or_cases (share g.made (roots ++ linked)) (share g.retired (roots ++ linked)) h) [
            | inl m ↦
                let p = share_only g.made (roots ++ linked) m in
                elim (append_cases roots linked p.0 p.2) [
                  | inl k ↦ or_left (share g.made roots || share g.retired roots) _ (or_left (share g.made roots) _ (shared g.made roots p.0 p.1 k))
                  | inr k ↦ or_right (share g.made roots || share g.retired roots) _ (shared g.made linked p.0 p.1 k)
                ]
            | inr m ↦
                let p = share_only g.retired (roots ++ linked) m in
                elim (append_cases roots linked p.0 p.2) [
                  | inl k ↦ or_left (share g.made roots || share g.retired roots) _ (or_right (share g.made roots) _ (shared g.retired roots p.0 p.1 k))
                  | inr k ↦
                      let f = has_by linked (found d b e (newer ++ g ∷ older) roots) (turned (found d b e (newer ++ g ∷ older) roots) linked (linked_same d b valid base e (newer ++ g ∷ older) roots legal)) p.0 k in
                      absurd (retired_once d b valid base e (newer ++ g ∷ older) p.0 legal (found_retired d b e (newer ++ g ∷ older) roots p.0 f) (newer, older, g, refl, p.1))
                ]
          ]

      back : ((share g.made roots || share g.retired roots) || share g.made linked) ≡ true → (share g.made (roots ++ linked) || share g.retired (roots ++ linked)) ≡ true
      back h =
          elim (or_cases (share g.made roots || share g.retired roots) (share g.made linked) h) [
            | inl o ↦ elim (or_cases (share g.made roots) (share g.retired roots) o) [
              | inl m ↦ let p = share_only g.made roots m in or_left (share g.made (roots ++ linked)) _ (shared g.made (roots ++ linked) p.0 p.1 (append_left roots linked p.0 p.2))
              | inr m ↦ let p = share_only g.retired roots m in or_right (share g.made (roots ++ linked)) _ (shared g.retired (roots ++ linked) p.0 p.1 (append_left roots linked p.0 p.2))
            ]
            | inr m ↦ let p = share_only g.made linked m in or_left (share g.made (roots ++ linked)) _ (shared g.made (roots ++ linked) p.0 p.1 (append_right roots linked p.0 p.2))
          ]
