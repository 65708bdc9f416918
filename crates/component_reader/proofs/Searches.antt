-- A binary search in ascending numbers.
use Rattle.std.proofs.Common.{◌≡◌, ℕ, zero, suc, ◌<◌, ◌≤◌, List, [], ◌∷◌, length, get_or, Result, Ok, Err, is_ok, sym, ◌∙◌, inl, inr, arith, nat_cmp}
use Rattle.std.specs.List.Sorted.{IsBinarySearchResult}
use Rattle.std.specs.List.{AllByRecursion}
use Rattle.std.proofs.lemmas.List.Sorted.{searched}
use Rattle.std.proofs.lemmas.Bool.{cases_lt, false_from_ne_true}
use Rattle.graph_model.specs.Lists.{has}
use Rattle.graph_model.proofs.ListLemmas.{any_default}
use Rattle.graph_model.proofs.Walks.{has_decides}
use Rattle.op_model.specs.Valid.{IsAscending}
use Rattle.record_rows.proofs.DifferLemmas.{Differ}
use Rattle.record_rows.proofs.OnceLemmas.{ascending_differ}

at_all : (P : ℕ → Type 0) (xs : List ℕ) (k : ℕ) → AllByRecursion P xs → k < length xs → P (get_or xs k 0)
at_all P [] k a l = absurd (omega arith)
at_all P (x ∷ xs) zero a l = a.0
at_all P (x ∷ xs) (suc k) a l = at_all P xs k a.1 (omega arith)

rises : (xs : List ℕ) → Differ (λ x y. x < y) xs → (i j : ℕ) → i ≤ j → j < length xs → get_or xs i 0 ≤ get_or xs j 0
rises [] a i j h l = absurd (omega arith)
rises (x ∷ xs) a zero zero h l = omega arith
rises (x ∷ xs) a zero (suc j) h l = let m = at_all (λ y. x < y) xs j a.0 (omega arith) in omega arith
rises (x ∷ xs) a (suc i) zero h l = absurd (omega arith)
rises (x ∷ xs) a (suc i) (suc j) h l = rises xs a.1 i j (omega arith) (omega arith)

pub found : (xs : List ℕ) (x : ℕ) → IsAscending xs → (r : Result ℕ ℕ) → IsBinarySearchResult (λ y. nat_cmp y x) xs r → is_ok r ≡ has xs x
found xs x a (Ok i) h =
    let f = searched xs x (Ok i) h (rises xs (ascending_differ xs a)) in
    sym ((has_decides xs x).1 (i, f.0, any_default xs i x 0 f.0 ∙ f.1))
found xs x a (Err i) h =
    sym (false_from_ne_true _ (λ t.
    let f = searched xs x (Err i) h (rises xs (ascending_differ xs a)) in
    let (k, l, e) = (has_decides xs x).0 t in
    let z = any_default xs k x 0 l in
    elim (cases_lt k i) [ inl b ↦ let g = f.1 k b in omega arith | inr b ↦ let g = f.2 k b l in omega arith ]))
