-- The children of an entry's links that stand already, and their places.
use Rattle.std.proofs.Common.{◌≡◌, ℕ, zero, suc, ◌+◌, ◌<◌, ◌≤◌, Bool, true, false, cond, eqb, List, [], ◌∷◌, ◌++◌, length, map, take, set, replicate, get_or, Some, refl, sym, ◌∙◌, ap, subst, inl, inr, arith, append-nil, eq-eqb, length-set}
use Rattle.std.specs.List.{All, AllByRecursion, list_any, slice_get}
use Rattle.std.proofs.lemmas.Bool.{eqb-true, cases_eq, cases_lt}
use Rattle.std.proofs.lemmas.Grind.{flat_map-append}
use Rattle.std.proofs.lemmas.List.{get_or-set_same, get_or-set_other, length-replicate, same_lists, take_more}
use Rattle.std.proofs.lemmas.List.Elements.{recursion_from_All}
use Rattle.graph_model.specs.Lists.{has}
use Rattle.graph_model.proofs.ListLemmas.{any_default, contra, has_cases, has_head, has_none, has_tail}
use Rattle.op_model.specs.declared.base.Dataset.{Dataset}
use Rattle.op_model.specs.declared.base.Base.{Base}
use Rattle.op_model.specs.declared.entry.Entry.{Entry}
use Rattle.op_model.specs.Operations.{ascending}
use Rattle.op_model.specs.Valid.{IsAscending}
use Rattle.op_model.proofs.LegalLemmas.{ascending_has}
use Rattle.op_model.proofs.LinkLemmas.{append_cases}
use Rattle.op_model.proofs.MadeLemmas.{ascending_only}
use Rattle.record_rows.specs.Rows.{Row}
use Rattle.record_rows.specs.Chains.{has_id}
use Rattle.record_rows.specs.LogRows.{rows_of}
use Rattle.record_rows.specs.Words.{place_from}
use Rattle.record_rows.proofs.DifferLemmas.{all_more}
use Rattle.record_rows.proofs.ImageLemmas.{length-map}
use Rattle.record_rows.proofs.NodePlaces.{found_from}
use Rattle.row_append.proofs.Leaving.{place_none}
use Rattle.layer_laws.proofs.OrderLemmas.{get_has}
use Rattle.layer_laws.proofs.PlaceLemmas.{at_map, at_one}
use Rattle.entry_parts.specs.declared.made.MadeLink.{MadeLink}
use Rattle.entry_parts.specs.Made.{IsPlacedChild}
use Rattle.entry_rows.specs.States.{AreAt}
use Rattle.octree_layers.specs.Places.{place_of}
use Rattle.octree_layers.proofs.Placing.{place_at}
use Rattle.entry_lists.specs.Links.{AreHeld, IsToldBy, kept_ids, kept_of, put_place}
use Rattle.entry_lists.proofs.Ascents.{ascends}

pub above_none : (n : ℕ) → eqb n 0 ≡ false → 0 < n
above_none n e = elim (cases_lt 0 n) [ inl l ↦ l | inr g ↦ contra (eqb n 0) (eq-eqb n 0 (omega (arith, g))) e ]

kept_append : (ls : List MadeLink) (x : MadeLink) → kept_ids (ls ++ x ∷ []) ≡ kept_ids ls ++ kept_of x
kept_append ls x = flat_map-append kept_of ls (x ∷ []) ∙ ap (λ ys. kept_ids ls ++ ys) (append-nil (kept_of x))

-- the child of one link more
pub kept_next : (ls : List MadeLink) (k : ℕ) (x : MadeLink) (xs after : List ℕ) → k < length ls → x ≡ get_or ls k x → xs ≡ kept_ids (take k ls) → after ≡ xs ++ kept_of x → after ≡ kept_ids (take (k + 1) ls)
kept_next ls k x xs after l q h e =
    e ∙ (ap (λ ys. ys ++ kept_of x) h ∙ (sym (kept_append (take k ls) x) ∙ ap kept_ids (ap (λ y. take k ls ++ y ∷ []) q ∙ sym (take_more ls k x l))))

-- what holds of the child of each link that leads from a record, holds of each kept one
pub kept_holds : (P : ℕ → Type 0) (ls : List MadeLink) → AllByRecursion (λ (x : MadeLink). 0 < x.child_at → P x.child) ls → (v : ℕ) → has (kept_ids ls) v ≡ true → P v
unfolding kept_of
kept_holds P [] a v h = has_none v h
kept_holds P (x ∷ ls) a v h = go (eqb x.child_at 0) refl h (λ g. kept_holds P ls a.1 v g)
  where
    go : (t : Bool) → eqb x.child_at 0 ≡ t → has (cond t [] (x.child ∷ []) ++ kept_ids ls) v ≡ true → (has (kept_ids ls) v ≡ true → P v) → P v
    go true e g ih = ih g
    go false e g ih = elim (has_cases x.child (kept_ids ls) v g) [ inl q ↦ subst P q (a.0 (above_none x.child_at e)) | inr m ↦ ih m ]

-- and each such child is kept
pub kept_known : (ls : List MadeLink) → AllByRecursion (λ (x : MadeLink). 0 < x.child_at → has (kept_ids ls) x.child ≡ true) ls
unfolding kept_of
kept_known [] = tt
kept_known (x ∷ ls) = (
  λ l. own (eqb x.child_at 0) refl l,
  all_more (λ (y : MadeLink). 0 < y.child_at → has (kept_ids ls) y.child ≡ true) (λ (y : MadeLink). 0 < y.child_at → has (kept_ids (x ∷ ls)) y.child ≡ true) ls (λ y h l. later (eqb x.child_at 0) y (h l)) (kept_known ls),
)
  where
    own : (t : Bool) → eqb x.child_at 0 ≡ t → 0 < x.child_at → has (cond t [] (x.child ∷ []) ++ kept_ids ls) x.child ≡ true
    own true e l = let z = eqb-true x.child_at 0 e in absurd (omega (arith, z, l))
    own false e l = has_head x.child (kept_ids ls)

    later : (t : Bool) (y : MadeLink) → has (kept_ids ls) y.child ≡ true → has (cond t [] (x.child ∷ []) ++ kept_ids ls) y.child ≡ true
    later true y h = h
    later false y h = has_tail x.child (kept_ids ls) y.child h

pub kept_few : (ls : List MadeLink) → length (kept_ids ls) ≤ length ls
unfolding kept_of
kept_few [] = omega arith
kept_few (x ∷ ls) = go (eqb x.child_at 0) (kept_few ls)
  where
    go : (t : Bool) → length (kept_ids ls) ≤ length ls → length (cond t [] (x.child ∷ []) ++ kept_ids ls) ≤ length (x ∷ ls)
    go true h = omega (arith, h)
    go false h = omega (arith, h)

-- in the list of kept children, ascending, that of one of the links stands
pub kept_stands : (kept : List ℕ) (ls : List MadeLink) → kept ≡ ascending (kept_ids ls) → (k : ℕ) (x : MadeLink) → k < length ls → x ≡ get_or ls k x → 0 < x.child_at → has kept x.child ≡ true
kept_stands kept ls e k x l q low =
    subst (λ vs. has vs x.child ≡ true) (sym e) (ascending_has (kept_ids ls) x.child (at ls k (kept_known ls) l q))
  where
    at : (ys : List MadeLink) (j : ℕ) → AllByRecursion (λ (y : MadeLink). 0 < y.child_at → has (kept_ids ls) y.child ≡ true) ys → j < length ys → x ≡ get_or ys j x → has (kept_ids ls) x.child ≡ true
    at [] j a m p = absurd (omega (arith, m))
    at (y ∷ ys) zero a m p = subst (λ (z : MadeLink). has (kept_ids ls) z.child ≡ true) (sym p) (a.0 (subst (λ (z : MadeLink). 0 < z.child_at) p low))
    at (y ∷ ys) (suc j) a m p = at ys j a.1 (omega (arith, m)) p

-- while the places are put: with a function that tells those of all links, the places of the children of these links are told by their ids
pub record ArePut (kept : List ℕ) (whole done : List MadeLink) (places : List ℕ) : Type 0 where
  pub count : length places ≡ length kept
  pub told : (f : ℕ → ℕ) → All (IsToldBy f) whole → (i : ℕ) → i < length kept → has (kept_ids done) (get_or kept i 0) ≡ true → get_or places i 0 ≡ f (get_or kept i 0)

pub none_put : (kept : List ℕ) (whole : List MadeLink) (places : List ℕ) → places ≡ replicate (length kept) 0 → ArePut kept whole (take 0 whole) places
none_put kept whole places e = record { count = ap length e ∙ length-replicate (length kept) 0; told = λ f a i l h. has_none (get_or kept i 0) h }

more_put : (kept : List ℕ) (whole done : List MadeLink) (x : MadeLink) (places : List ℕ) → IsAscending kept → (0 < x.child_at → has kept x.child ≡ true) → ((f : ℕ → ℕ) → All (IsToldBy f) whole → IsToldBy f x)
    → ArePut kept whole done places → ArePut kept whole (done ++ x ∷ []) (put_place kept places x)
unfolding put_place kept_of
more_put kept whole done x places asc known own put = go (eqb x.child_at 0) refl (kept_append done x)
  where
    go : (t : Bool) → eqb x.child_at 0 ≡ t → kept_ids (done ++ x ∷ []) ≡ kept_ids done ++ kept_of x → ArePut kept whole (done ++ x ∷ []) (cond t places (set places (place_of kept x.child) x.child_at))
    go true e q = record {
      count = put.count;
      told = λ f a i l h. put.told f a i l (subst (λ vs. has vs (get_or kept i 0) ≡ true) (q ∙ (ap (λ t. kept_ids done ++ cond t [] (x.child ∷ [])) e ∙ append-nil (kept_ids done))) h);
    }
    go false e q =
        let low = above_none x.child_at e in
        let p = place_at kept x.child (known low) in
        let n = put.count in
        let same : kept_ids (done ++ x ∷ []) ≡ kept_ids done ++ x.child ∷ [] = q ∙ ap (λ t. kept_ids done ++ cond t [] (x.child ∷ [])) e in
        record {
          count = length-set places (place_of kept x.child) x.child_at ∙ put.count;
          told = λ f a i l h. elim (cases_eq i (place_of kept x.child)) [
            | inl z ↦
                ap (λ k. get_or (set places (place_of kept x.child) x.child_at) k 0) z
                ∙ (get_or-set_same places (place_of kept x.child) x.child_at 0 (let m = p.0 in omega (arith, n, m))
                ∙ (sym (own f a low) ∙ ap f (sym p.1 ∙ ap (λ k. get_or kept k 0) (sym z))))
            | inr z ↦
                get_or-set_other places (place_of kept x.child) i x.child_at 0 z
                ∙ elim (append_cases (kept_ids done) (x.child ∷ []) (get_or kept i 0) (subst (λ vs. has vs (get_or kept i 0) ≡ true) same h)) [
                  | inl g ↦ put.told f a i l g
                  | inr g ↦ elim (has_cases x.child [] (get_or kept i 0) g) [
                    | inl w ↦ absurd (z (at_one kept i (place_of kept x.child) asc l p.0 (sym w ∙ sym p.1)))
                    | inr none ↦ has_none (get_or kept i 0) none
                  ]
                ]
          ];
        }

-- the place of the child of one link more
pub put_next : (kept : List ℕ) (whole : List MadeLink) (k : ℕ) (x : MadeLink) (places after : List ℕ) → kept ≡ ascending (kept_ids whole) → k < length whole → x ≡ get_or whole k x → after ≡ put_place kept places x
    → ArePut kept whole (take k whole) places → ArePut kept whole (take (k + 1) whole) after
put_next kept whole k x places after e l q p put =
    subst (ArePut kept whole (take (k + 1) whole)) (sym p) (subst (λ ys. ArePut kept whole ys (put_place kept places x)) (ap (λ y. take k whole ++ y ∷ []) q ∙ sym (take_more whole k x l))
    (more_put kept whole (take k whole) x places (subst IsAscending (sym e) (ascends (kept_ids whole))) (kept_stands kept whole e k x l q) (λ f a. subst (IsToldBy f) (sym q) (a k x l)) put))

-- at the end each place is told by the child's id
pub all_put : (kept : List ℕ) (whole : List MadeLink) (places : List ℕ) → kept ≡ ascending (kept_ids whole) → ArePut kept whole whole places → (f : ℕ → ℕ) → All (IsToldBy f) whole → places ≡ map f kept
all_put kept whole places e put f a =
    let n = put.count in
    same_lists places (map f kept) (put.count ∙ sym (length-map f kept)) (λ k d l.
    let m : k < length kept = omega (arith, n, l) in
    any_default places k d 0 l
    ∙ (put.told f a k m (ascending_only (kept_ids whole) (get_or kept k 0) (subst (λ vs. has vs (get_or kept k 0) ≡ true) e (get_has kept k m)))
    ∙ (sym (at_map f kept k m) ∙ any_default (map f kept) k 0 d (let z = length-map f kept in omega (arith, z, m)))))

-- what tells the places of the children that stand
abbrev pub place_in : List Row → ℕ → ℕ
place_in rows v = place_from (has_id v) 0 rows

pub all_told : (rows : List Row) (made : List ℕ) (ls : List MadeLink) → All (IsPlacedChild rows made) ls → All (IsToldBy (place_in rows)) ls
all_told rows made ls a = λ k d l low. (a k d l).kept low

pub kept_low : (rows : List Row) (made : List ℕ) (ls : List MadeLink) → All (IsPlacedChild rows made) ls → (v : ℕ) → has (kept_ids ls) v ≡ true → 0 < place_in rows v
kept_low rows made ls a v h =
    kept_holds (λ w. 0 < place_in rows w) ls (all_more (IsPlacedChild rows made) (λ (x : MadeLink). 0 < x.child_at → 0 < place_in rows x.child) ls (λ x p low. subst (λ n. 0 < n) (sym (p.kept low)) low) (recursion_from_All (IsPlacedChild rows made) ls a)) v h

pub any_low : (rows : List Row) (v : ℕ) → 0 < place_in rows v → list_any (has_id v) rows ≡ true
any_low rows v low = go (list_any (has_id v) rows) refl
  where
    go : (t : Bool) → list_any (has_id v) rows ≡ t → t ≡ true
    go true e = refl
    go false e = let z = place_none (has_id v) 0 rows e in absurd (omega (arith, low, z))

module _ (rows : List Row) (made : List ℕ) (ls : List MadeLink) (a : All (IsPlacedChild rows made) ls) (kept places : List ℕ) (e : kept ≡ ascending (kept_ids ls)) (same : places ≡ map (place_in rows) kept) where
  low_at : (i : ℕ) → i < length kept → 0 < place_in rows (get_or kept i 0)
  low_at i l = kept_low rows made ls a (get_or kept i 0) (ascending_only (kept_ids ls) (get_or kept i 0) (subst (λ vs. has vs (get_or kept i 0) ≡ true) e (get_has kept i l)))

  place_is : (i : ℕ) → i < length kept → get_or places i 0 ≡ place_in rows (get_or kept i 0)
  place_is i l = ap (λ vs. get_or vs i 0) same ∙ at_map (place_in rows) kept i l

  -- the records of the kept children stand at their places
  pub kept_at : AreAt has_id kept rows places
  kept_at = record {
    count = ap length same ∙ length-map (place_in rows) kept;
    each = λ i l. (sym (place_is i l), subst (λ n. 0 < n) (sym (place_is i l)) (low_at i l));
  }

pub are_held : (d : Dataset) (b : Base) (log : List Entry) (made : List ℕ) (ls : List MadeLink) → All (IsPlacedChild (rows_of d b log) made) ls → (kept places : List ℕ) → kept ≡ ascending (kept_ids ls) → places ≡ map (place_in (rows_of d b log)) kept
    → AreHeld d b log kept places
are_held d b log made ls a kept places e same = record {
  count = ap length same ∙ length-map (place_in (rows_of d b log)) kept;
  each = λ i l.
      let v : ℕ = get_or kept i 0 in
      let f = found_from (has_id v) (rows_of d b log) 0 (rows_of d b log) refl (any_low (rows_of d b log) v (low_at (rows_of d b log) made ls a kept places e same i l)) in
      (f.0, subst (λ n. slice_get (rows_of d b log) n ≡ Some f.0) (sym (place_is (rows_of d b log) made ls a kept places e same i l)) f.1, f.2);
}
