-- What the first and the last place of a test are.
use Rattle.std.proofs.Common.{◌≡◌, ℕ, zero, suc, ◌+◌, ◌≤◌, Bool, true, false, cond, List, [], ◌∷◌, Option, Some, None, refl, sym, ◌∙◌, ap, subst, inl, inr, ◌⊎◌, arith}
use Rattle.std.specs.List.{slice_get, list_any, last_or}
use Rattle.std.proofs.lemmas.Bool.{false≢true, or_left, or_right}
use Rattle.record_rows.specs.Rows.{Row}
use Rattle.record_rows.specs.Words.{place_from}
use Rattle.record_rows.specs.Readings.{first_place, last_place, members, place_of}
use Rattle.record_rows.proofs.NodePlaces.{found_from}
use Rattle.record_rows.proofs.WalkLemmas.{place_of-some}
use Rattle.row_append.proofs.Leaving.{any_at}

-- the j-th record passes the test, and none behind it does
abbrev IsLast : (Row → Bool) → List Row → ℕ → Row → Type 0
IsLast test rows j row = (slice_get rows j ≡ Some row) × (test row ≡ true) × ((q : ℕ) (other : Row) → slice_get rows q ≡ Some other → test other ≡ true → q ≤ j)

abbrev Told : (Row → Bool) → ℕ → List Row → Option ℕ → Option ℕ → Type 0
Told test k rows o found = ((found ≡ o) × (list_any test rows ≡ false)) ⊎ ((j : ℕ) × (row : Row) × (found ≡ Some (k + j)) × IsLast test rows j row)

later : (test : Row → Bool) (r : Row) (rows : List Row) (j : ℕ) (row : Row) → IsLast test rows j row → IsLast test (r ∷ rows) (suc j) row
later test r rows j row a = (a.0, a.1, go)
  where
    go : (q : ℕ) (other : Row) → slice_get (r ∷ rows) q ≡ Some other → test other ≡ true → q ≤ suc j
    go zero other h t = omega arith
    go (suc q) other h t = let l = a.2 q other h t in omega arith

only : (test : Row → Bool) (r : Row) (rows : List Row) → test r ≡ true → list_any test rows ≡ false → IsLast test (r ∷ rows) 0 r
only test r rows t n = (refl, t, go)
  where
    go : (q : ℕ) (other : Row) → slice_get (r ∷ rows) q ≡ Some other → test other ≡ true → q ≤ 0
    go zero other h u = omega arith
    go (suc q) other h u = absurd (false≢true (sym (any_at test rows q other n h) ∙ u))

last_told : (test : Row → Bool) (k : ℕ) (rows : List Row) (o found : Option ℕ) → last_or o (members test k rows) ≡ found → Told test k rows o found
unfolding members
last_told test k [] o found e = inl (sym e, refl)
last_told test k (r ∷ rows) o found e = go (test r) refl e (λ x f. last_told test (k + 1) rows x found f)
  where
    behind : (Told test (k + 1) rows o found) → test r ≡ false → Told test k (r ∷ rows) o found
    behind (inl a) t = inl (a.0, rw t a.1)
    behind (inr z) t = inr (suc z.0, z.1, z.2 ∙ ap (λ n. Some n) (let q : k + 1 + z.0 ≡ k + suc z.0 = omega arith in q), later test r rows z.0 z.1 z.3)

    here : (Told test (k + 1) rows (Some k) found) → test r ≡ true → Told test k (r ∷ rows) o found
    here (inl a) t = inr (0, r, a.0 ∙ ap (λ n. Some n) (let q : k ≡ k + 0 = omega arith in q), only test r rows t a.1)
    here (inr z) t = inr (suc z.0, z.1, z.2 ∙ ap (λ n. Some n) (let q : k + 1 + z.0 ≡ k + suc z.0 = omega arith in q), later test r rows z.0 z.1 z.3)

    go : (t : Bool) → test r ≡ t → last_or o (cond t (k ∷ members test (k + 1) rows) (members test (k + 1) rows)) ≡ found
        → ((x : Option ℕ) → last_or x (members test (k + 1) rows) ≡ found → Told test (k + 1) rows x found) → Told test k (r ∷ rows) o found
    go true t f ih = here (ih (Some k) f) t
    go false t f ih = behind (ih o f) t

-- the last place holds a record that passes the test, and none that does stands behind it
pub last_some : (test : Row → Bool) (rows : List Row) (p : ℕ) {found : Option ℕ} → found ≡ last_place test rows → found ≡ Some p → (row : Row) × IsLast test rows p row
unfolding last_place
last_some test rows p {found = found} e f = go (last_told test 0 rows None found (sym e)) f
  where
    go : Told test 0 rows None found → found ≡ Some p → (row : Row) × IsLast test rows p row
    go (inl a) f = absurd (let q : None ≡ Some p = sym a.0 ∙ f in cc)
    go (inr z) f = (z.1, subst (λ j. IsLast test rows j z.1) (let q : Some (0 + z.0) ≡ Some p = sym z.2 ∙ f in let m : 0 + z.0 ≡ p = cc in omega (arith, m)) z.3)

-- where there is none, no record passes the test
pub last_none : (test : Row → Bool) (rows : List Row) {found : Option ℕ} → found ≡ last_place test rows → ((p : ℕ) → found ≡ Some p → ⊥) → list_any test rows ≡ false
unfolding last_place
last_none test rows {found = found} e n = go (last_told test 0 rows None found (sym e))
  where
    go : Told test 0 rows None found → list_any test rows ≡ false
    go (inl a) = a.1
    go (inr z) = absurd (n (0 + z.0) z.2)

any_there : (test : Row → Bool) (rows : List Row) (p : ℕ) (row : Row) → slice_get rows p ≡ Some row → test row ≡ true → list_any test rows ≡ true
any_there test [] p row h t = cc
any_there test (r ∷ rows) zero row h t = let q : r ≡ row = cc in or_left (test r) _ (ap test q ∙ t)
any_there test (r ∷ rows) (suc p) row h t = or_right (test r) _ (any_there test rows p row h t)

-- where a record behind the header passes a test, the first place holds one that does
pub first_some : (test : Row → Bool) (rows : List Row) (header : Row) {found : Option ℕ} → slice_get rows 0 ≡ Some header → test header ≡ false → found ≡ first_place test rows → (q : ℕ) (row : Row) → slice_get rows q ≡ Some row → test row ≡ true
    → (p : ℕ) × (first : Row) × (found ≡ Some p) × (slice_get rows p ≡ Some first) × (test first ≡ true)
unfolding first_place
first_some test rows header {found = found} h t e q row k u = go (place_from test 0 rows) refl (found_from test rows 0 rows refl (any_there test rows q row k u))
  where
    go : (n : ℕ) → place_from test 0 rows ≡ n → ((r : Row) × (slice_get rows (place_from test 0 rows) ≡ Some r) × (test r ≡ true)) → (p : ℕ) × (first : Row) × (found ≡ Some p) × (slice_get rows p ≡ Some first) × (test first ≡ true)
    go zero z f = absurd (let w : slice_get rows 0 ≡ Some f.0 = subst (λ n. slice_get rows n ≡ Some f.0) z f.1 in let g : header ≡ f.0 = same header f.0 (sym h ∙ w) in false≢true (sym t ∙ (ap test g ∙ f.2)))
      where
        same : (x y : Row) → Some x ≡ Some y → x ≡ y
        same x y e = cc
    go (suc n) z f = (suc n, f.0, e ∙ (ap place_of z ∙ place_of-some (suc n) (omega arith)), subst (λ m. slice_get rows m ≡ Some f.0) z f.1, f.2)
