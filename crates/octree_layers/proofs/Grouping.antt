-- A list by ascending numbers is made of the parts that have one number each, and the numbers of nodes begin anew with each part.
use Rattle.std.proofs.Common.{◌≡◌, ℕ, suc, ◌+◌, ◌<◌, ◌≤◌, Bool, true, false, cond, not, ◌&&◌, eqb, leb, List, [], ◌∷◌, ◌++◌, length, map, get_or, Some, refl, sym, ◌∙◌, ap, inl, inr, arith, eq-eqb}
use Rattle.std.specs.List.{AllByRecursion, All, filter, flat_map, find}
use Rattle.std.specs.List.Sorted.{IsNonDecreasingBy}
use Rattle.std.proofs.lemmas.List.{map-append}
use Rattle.std.proofs.lemmas.List.Elements.{All-from_recursion, recursion_from_All}
use Rattle.std.proofs.lemmas.List.Kept.{IsNonDecreasingBy-filter}
use Rattle.std.proofs.lemmas.Bool.{eqb-true, eqb-false, ne_eqb, le-leb, leb-true, leb-false, false_from_ne_true, cases_Bool}
use Rattle.graph_model.specs.Lists.{has}
use Rattle.graph_model.proofs.ListLemmas.{has_cases, has_none, contra}
use Rattle.op_model.proofs.LegalLemmas.{all_has}
use Rattle.record_rows.proofs.DifferLemmas.{Differ, all_more, all_filter}
use Rattle.octree_layers.specs.declared.numbering.Owner.{Owner}
use Rattle.octree_layers.specs.declared.numbering.Made.{Made}
use Rattle.octree_layers.specs.Numbers.{number_behind, numbered, overflow}
use Rattle.octree_layers.proofs.Placing.{none_kept}
use Rattle.octree_layers.proofs.Joining.{filter_both}

pub flat_same : {X Y : Type 0} (f g : X → List Y) (cs : List X) → AllByRecursion (λ c. f c ≡ g c) cs → flat_map f cs ≡ flat_map g cs
flat_same f g [] a = refl
flat_same f g (c ∷ cs) a = ap (λ ys. ys ++ flat_map f cs) a.0 ∙ ap (λ ys. g c ++ ys) (flat_same f g cs a.1)

pub map_flat : {X Y Z : Type 0} (h : Y → Z) (f : X → List Y) (cs : List X) → map h (flat_map f cs) ≡ flat_map (λ c. map h (f c)) cs
map_flat h f [] = refl
map_flat h f (c ∷ cs) = map-append h (f c) (flat_map f cs) ∙ ap (λ ys. map h (f c) ++ ys) (map_flat h f cs)

not_false : (b : Bool) → not b ≡ true → b ≡ false
not_false true e = sym e
not_false false e = refl

module _ {X : Type 0} (n : X → ℕ) where
  -- those of the least number stand first
  split_front : (c : ℕ) (xs : List X) → IsNonDecreasingBy n xs → All (λ x. c ≤ n x) xs → filter (λ x. eqb (n x) c) xs ++ filter (λ x. not (eqb (n x) c)) xs ≡ xs
  split_front c [] r a = refl
  split_front c (x ∷ xs) r a = go (eqb (n x) c) refl (split_front c xs (λ i j d l m. r (suc i) (suc j) d (omega arith) (omega arith)) (λ i d l. a (suc i) d (omega arith)))
    where
      front : List X
      front = filter (λ y. eqb (n y) c) xs

      back : List X
      back = filter (λ y. not (eqb (n y) c)) xs

      later : (i : ℕ) (d : X) → i < length xs → n x ≤ n (get_or xs i d)
      later i d l = r 0 (suc i) d (omega arith) (omega arith)

      go : (k : Bool) → eqb (n x) c ≡ k → filter (λ y. eqb (n y) c) xs ++ filter (λ y. not (eqb (n y) c)) xs ≡ xs
          → cond k (x ∷ filter (λ y. eqb (n y) c) xs) (filter (λ y. eqb (n y) c) xs) ++ cond (not k) (x ∷ filter (λ y. not (eqb (n y) c)) xs) (filter (λ y. not (eqb (n y) c)) xs) ≡ x ∷ xs
      go true e ih = ap (λ ys. x ∷ ys) ih
      go false e ih =
          let low : c ≤ n x = a 0 x (omega arith) in
          let other = eqb-false (n x) c e in
          let none : front ≡ [] = none_kept (λ y. eqb (n y) c) xs (λ i d l. ne_eqb _ _ (λ q. other (let m = later i d l in omega arith))) in
          ap (λ ys. ys ++ (x ∷ back)) none ∙ ap (λ ys. x ∷ ys) (sym (ap (λ ys. ys ++ back) none) ∙ ih)

  pub grouped : (cs : List ℕ) → Differ (λ x y. x < y) cs → (xs : List X) → IsNonDecreasingBy n xs → All (λ x. has cs (n x) ≡ true) xs → flat_map (λ c. filter (λ x. eqb (n x) c) xs) cs ≡ xs
  grouped [] u [] r a = refl
  grouped [] u (x ∷ xs) r a = has_none (n x) (a 0 x (omega arith))
  grouped (c ∷ cs) u xs r a =
      ap (λ ys. filter (λ x. eqb (n x) c) xs ++ ys)
      (flat_same (λ e. filter (λ x. eqb (n x) e) xs) (λ e. filter (λ x. eqb (n x) e) rest) cs (all_more (λ e. c < e) (λ e. filter (λ x. eqb (n x) e) xs ≡ filter (λ x. eqb (n x) e) rest) cs same u.0)
      ∙ grouped cs u.1 rest (IsNonDecreasingBy-filter n (λ x. not (eqb (n x) c)) xs r) others)
      ∙ split_front c xs r low
    where
      rest : List X
      rest = filter (λ x. not (eqb (n x) c)) xs

      above : (x : ℕ) → has cs x ≡ true → c < x
      above x h = all_has (λ y. c < y) cs x u.0 h

      low : All (λ x. c ≤ n x) xs
      low i d l = elim (has_cases c cs (n (get_or xs i d)) (a i d l)) [ inl e ↦ omega arith | inr h ↦ let m = above (n (get_or xs i d)) h in omega arith ]

      same : (e : ℕ) → c < e → filter (λ x. eqb (n x) e) xs ≡ filter (λ x. eqb (n x) e) rest
      same e m =
          let tests : (λ x. eqb (n x) e) ≡ (λ x. not (eqb (n x) c) && eqb (n x) e) = λ i x. one (n x) i in
          ap (λ t. filter t xs) tests ∙ sym (filter_both (λ x. eqb (n x) e) (λ x. not (eqb (n x) c)) xs)
        where
          one : (k : ℕ) → eqb k e ≡ (not (eqb k c) && eqb k e)
          one k = elim (cases_Bool (eqb k c)) [
            | inl t ↦ let f : eqb k e ≡ false = ne_eqb k e (λ q. let p = eqb-true k c t in omega arith) in f ∙ sym (ap (λ s. not s && eqb k e) t)
            | inr f ↦ sym (ap (λ s. not s && eqb k e) f)
          ]

      others : All (λ x. has cs (n x) ≡ true) rest
      others =
          All-from_recursion (λ x. has cs (n x) ≡ true) rest
          (all_more (λ x. (has (c ∷ cs) (n x) ≡ true) × (not (eqb (n x) c) ≡ true)) (λ x. has cs (n x) ≡ true) rest
          (λ x p. elim (has_cases c cs (n x) p.0) [ inl e ↦ contra (eqb (n x) c) (eq-eqb (n x) c (sym e)) (not_false _ p.1) | inr h ↦ h ])
          (all_filter (λ x. not (eqb (n x) c)) (λ x. has (c ∷ cs) (n x) ≡ true) xs (recursion_from_All (λ x. has (c ∷ cs) (n x) ≡ true) xs a)))

-- the nodes of one chunk with numbers from k on
unfoldable pub up_from : ℕ → List Owner → List Made
up_from k [] = []
up_from k (o ∷ os) = record { id = o.chunk + k; chunk = o.chunk; least = o.least } ∷ up_from (k + 1) os

abbrev pub In : ℕ → List Owner → Type 0
In c = AllByRecursion (λ o. o.chunk ≡ c)

behind_same : (c k x : ℕ) → x ≡ c → number_behind c k x ≡ k + 1
behind_same c k x e = ap (λ t. cond t (k + 1) 1) (eq-eqb x c e)

behind_other : (last l x c : ℕ) → x ≡ c → (c ≡ last → ⊥) → number_behind last l x ≡ 1
behind_other last l x c e f = ap (λ t. cond t (l + 1) 1) (ne_eqb x last (λ q. f (sym e ∙ q)))

num_head : (a l c m : ℕ) (o : Owner) (os : List Owner) → number_behind a l o.chunk ≡ number_behind c m o.chunk → numbered a l (o ∷ os) ≡ numbered c m (o ∷ os)
unfolding numbered
num_head a l c m o os e = ap (λ k. let made : Made = record { id = o.chunk + k; chunk = o.chunk; least = o.least } in made ∷ numbered o.chunk k os) e

over_head : (limit a l c m : ℕ) (o : Owner) (os : List Owner) → number_behind a l o.chunk ≡ number_behind c m o.chunk → overflow limit a l (o ∷ os) ≡ overflow limit c m (o ∷ os)
unfolding overflow
over_head limit a l c m o os e = ap (λ k. cond (leb limit k) (Some o.chunk) (overflow limit o.chunk k os)) e

num_in : (c k : ℕ) (os rest : List Owner) → In c os → numbered c k (os ++ rest) ≡ up_from (k + 1) os ++ numbered c (k + length os) rest
unfolding numbered up_from
num_in c k [] rest i = ap (λ m. numbered c m rest) (let e : k ≡ k + 0 = omega arith in e)
num_in c k (o ∷ os) rest i =
    let made : ℕ → Made = λ m. record { id = o.chunk + m; chunk = o.chunk; least = o.least } in
    let s : k + 1 + length os ≡ k + suc (length os) = omega arith in
    ap (λ m. made m ∷ numbered o.chunk m (os ++ rest)) (behind_same c k o.chunk i.0)
    ∙ ap (λ ms. made (k + 1) ∷ ms) (ap (λ x. numbered x (k + 1) (os ++ rest)) i.0 ∙ (num_in c (k + 1) os rest i.1 ∙ ap (λ m. up_from (k + 1 + 1) os ++ numbered c m rest) s))

over_in : (limit c k : ℕ) (os rest : List Owner) → In c os → k < limit → overflow limit c k (os ++ rest) ≡ cond (leb limit (k + length os)) (Some c) (overflow limit c (k + length os) rest)
unfolding overflow
over_in limit c k [] rest i l =
    let e : k ≡ k + 0 = omega arith in
    ap (λ m. overflow limit c m rest) e ∙ sym (ap (λ t. cond t (Some c) (overflow limit c (k + 0) rest)) (false_from_ne_true _ (λ h. let m = leb-true _ _ h in omega arith)))
over_in limit c k (o ∷ os) rest i l =
    ap (λ m. cond (leb limit m) (Some o.chunk) (overflow limit o.chunk m (os ++ rest))) (behind_same c k o.chunk i.0) ∙ go (leb limit (k + 1)) refl (over_in limit c (k + 1) os rest i.1)
  where
    s : k + 1 + length os ≡ k + suc (length os)
    s = omega arith

    go : (t : Bool) → leb limit (k + 1) ≡ t
        → (k + 1 < limit → overflow limit c (k + 1) (os ++ rest) ≡ cond (leb limit (k + 1 + length os)) (Some c) (overflow limit c (k + 1 + length os) rest))
        → cond t (Some o.chunk) (overflow limit o.chunk (k + 1) (os ++ rest)) ≡ cond (leb limit (k + suc (length os))) (Some c) (overflow limit c (k + suc (length os)) rest)
    go true e ih =
        ap (λ x. Some x) i.0 ∙ sym (ap (λ t. cond t (Some c) (overflow limit c (k + suc (length os)) rest)) (le-leb limit (k + suc (length os)) (let m = leb-true _ _ e in omega arith)))
    go false e ih =
        ap (λ x. overflow limit x (k + 1) (os ++ rest)) i.0
        ∙ (ih (let m = leb-false _ _ e in omega arith) ∙ ap (λ m. cond (leb limit m) (Some c) (overflow limit c m rest)) s)

module _ (g : ℕ → List Owner) where
  apart : (c : ℕ) (cs : List ℕ) → AllByRecursion (λ e. c < e) cs → AllByRecursion (λ e. e ≡ c → ⊥) cs
  apart c cs = all_more (λ e. c < e) (λ e. e ≡ c → ⊥) cs (λ e l q. omega arith)

  pub num_groups : (cs : List ℕ) → Differ (λ x y. x < y) cs → AllByRecursion (λ c. In c (g c)) cs → (last l : ℕ) → AllByRecursion (λ c. c ≡ last → ⊥) cs
      → numbered last l (flat_map g cs) ≡ flat_map (λ c. up_from 1 (g c)) cs
  unfolding numbered up_from
  num_groups [] u a last l f = refl
  num_groups (c ∷ cs) u a last l f = one (g c) a.0 (num_groups cs u.1 a.1)
    where
      one : (os : List Owner) → In c os
          → ((last l : ℕ) → AllByRecursion (λ e. e ≡ last → ⊥) cs → numbered last l (flat_map g cs) ≡ flat_map (λ e. up_from 1 (g e)) cs)
          → numbered last l (os ++ flat_map g cs) ≡ up_from 1 os ++ flat_map (λ e. up_from 1 (g e)) cs
      one [] i ih = ih last l f.1
      one (o ∷ os) i ih =
          num_head last l c 0 o (os ++ flat_map g cs) (behind_other last l o.chunk c i.0 f.0 ∙ sym (behind_same c 0 o.chunk i.0))
          ∙ (num_in c 0 (o ∷ os) (flat_map g cs) i
          ∙ ap (λ ms. up_from 1 (o ∷ os) ++ ms) (ih c (0 + length (o ∷ os)) (apart c cs u.0)))

  pub over_groups : (limit : ℕ) → 0 < limit → (cs : List ℕ) → Differ (λ x y. x < y) cs → AllByRecursion (λ c. In c (g c)) cs → (last l : ℕ) → AllByRecursion (λ c. c ≡ last → ⊥) cs
      → overflow limit last l (flat_map g cs) ≡ find (λ c. leb limit (length (g c))) cs
  unfolding overflow
  over_groups limit some [] u a last l f = refl
  over_groups limit some (c ∷ cs) u a last l f = one (g c) a.0 (over_groups limit some cs u.1 a.1)
    where
      one : (os : List Owner) → In c os
          → ((last l : ℕ) → AllByRecursion (λ e. e ≡ last → ⊥) cs → overflow limit last l (flat_map g cs) ≡ find (λ e. leb limit (length (g e))) cs)
          → overflow limit last l (os ++ flat_map g cs) ≡ cond (leb limit (length os)) (Some c) (find (λ e. leb limit (length (g e))) cs)
      one [] i ih =
          ih last l f.1
          ∙ sym (ap (λ t. cond t (Some c) (find (λ e. leb limit (length (g e))) cs)) (false_from_ne_true _ (λ h. let m = leb-true limit 0 h in omega arith)))
      one (o ∷ os) i ih =
          let s : 0 + length (o ∷ os) ≡ length (o ∷ os) = omega arith in
          over_head limit last l c 0 o (os ++ flat_map g cs) (behind_other last l o.chunk c i.0 f.0 ∙ sym (behind_same c 0 o.chunk i.0))
          ∙ (over_in limit c 0 (o ∷ os) (flat_map g cs) i some
          ∙ (ap (λ x. cond (leb limit (0 + length (o ∷ os))) (Some c) x) (ih c (0 + length (o ∷ os)) (apart c cs u.0))
          ∙ ap (λ m. cond (leb limit m) (Some c) (find (λ e. leb limit (length (g e))) cs)) s))
