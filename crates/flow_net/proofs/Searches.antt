-- A binary search in ascending numbers, and the first number that passes.
use Rattle.std.proofs.Common.{◌≡◌, ℕ, zero, suc, ◌+◌, ◌-◌, ◌<◌, ◌≤◌, Bool, true, false, List, length, get_or, map, Result, Ok, Err, is_ok, Option, Some, None, cond, is_some, sym, refl, ap, ◌∙◌, inl, inr, arith, eq-or-lt_of_le, nat_cmp, add-one}
use Rattle.std.specs.List.Sorted.{IsBinarySearchResult}
use Rattle.std.proofs.lemmas.List.Sorted.{searched}
use Rattle.std.proofs.lemmas.List.{get_or-map}
use Rattle.std.proofs.lemmas.Bool.{cases_lt, false_from_ne_true}
use Rattle.flow_net.specs.declared.Link.{Link}
use Rattle.graph_model.specs.Wires.{wire, no_wire}
use Rattle.graph_model.specs.Lists.{has}
use Rattle.graph_model.proofs.ListLemmas.{any_default}
use Rattle.flow_net.specs.Net.{IsAscending, first_below, wire_of}
use Rattle.graph_model.proofs.Walks.{has_decides}
use Rattle.graph_model.proofs.FirstOpen.{some_none, some_same}

pub rises : (xs : List ℕ) → IsAscending xs → (i j : ℕ) → i ≤ j → j < length xs → get_or xs i 0 ≤ get_or xs j 0
rises xs a i j h l = elim (eq-or-lt_of_le h) [
  | inl e ↦ rw e (omega arith)
  | inr s ↦ let k = a i j s l in omega arith
]

pub found : (xs : List ℕ) (x : ℕ) → IsAscending xs → (r : Result ℕ ℕ) → IsBinarySearchResult (λ y. nat_cmp y x) xs r → is_ok r ≡ has xs x
found xs x a (Ok i) h =
    let f = searched xs x (Ok i) h (rises xs a) in
    sym ((has_decides xs x).1 (i, f.0, any_default xs i x 0 f.0 ∙ f.1))
found xs x a (Err i) h = sym (false_from_ne_true _ (λ t.
    let f = searched xs x (Err i) h (rises xs a) in
    let (k, l, e) = (has_decides xs x).0 t in
    let z = any_default xs k x 0 l in
    elim (cases_lt k i) [ inl b ↦ let g = f.1 k b in omega arith | inr b ↦ let g = f.2 k b l in omega arith ]))

pub first_below_more : (p : ℕ → Bool) (i : ℕ) → first_below p i ≡ None → p i ≡ false → first_below p (i + 1) ≡ None
first_below_more p i n f = rw (add-one, n, f) refl

pub first_below_hit : (p : ℕ → Bool) (i m : ℕ) → first_below p i ≡ None → p i ≡ true → i < m → first_below p m ≡ Some i
first_below_hit p i zero n t l = absurd (omega arith)
first_below_hit p i (suc m) n t l = let b : i ≤ m = omega arith in elim (eq-or-lt_of_le b) [
  | inl e ↦ let n' : first_below p m ≡ None = ap (first_below p) (sym e) ∙ n in
      let t' : p m ≡ true = ap p (sym e) ∙ t in rw (n', t') (ap Some (sym e))
  | inr s ↦ rw (first_below_hit p i m n t s) refl
]

pub wire_is : (ls : List Link) (i : ℕ) (d : Link) → i < length ls → wire (map wire_of ls) i ≡ wire_of (get_or ls i d)
wire_is ls i d l = get_or-map wire_of ls i d no_wire l

pub below_none_at : (p : ℕ → Bool) (m : ℕ) → first_below p m ≡ None → (k : ℕ) → k < m → p k ≡ false
below_none_at p zero e k l = absurd (omega arith)
below_none_at p (suc m) e k l = let b : k ≤ m = omega arith in let s = last_two (first_below p m) (p m) m e in elim (eq-or-lt_of_le b) [
  | inl h ↦ ap p h ∙ s.1
  | inr h ↦ below_none_at p m s.0 k h
]
  where
    last_two : (o : Option ℕ) (b : Bool) (m : ℕ) → cond (is_some o) o (cond b (Some m) None) ≡ None → (o ≡ None) × (b ≡ false)
    last_two None false m e = (refl, refl)
    last_two None true m e = absurd (some_none e)
    last_two (Some a) b m e = absurd (some_none e)

pub below_none_from : (p : ℕ → Bool) (m : ℕ) → ((k : ℕ) → k < m → p k ≡ false) → first_below p m ≡ None
below_none_from p zero h = refl
below_none_from p (suc m) h = let i = below_none_from p m (λ k l. h k (omega arith)) in let z = h m (omega arith) in rw (i, z) refl

-- a number that passes, with none before it that does
pub first_below_at : (p : ℕ → Bool) (k m : ℕ) → p k ≡ true → ((j : ℕ) → j < k → p j ≡ false) → k < m → first_below p m ≡ Some k
first_below_at p k m t h l = first_below_hit p k m (below_none_from p k h) t l

pub first_below_same : (p q : ℕ → Bool) (m : ℕ) → ((k : ℕ) → k < m → p k ≡ q k) → first_below p m ≡ first_below q m
first_below_same p q zero h = refl
first_below_same p q (suc m) h = rw (first_below_same p q m (λ k l. h k (omega arith)), h m (omega arith)) refl

-- what the first number that passes says
pub first_below_some : (p : ℕ → Bool) (m k : ℕ) → first_below p m ≡ Some k → (k < m) × (p k ≡ true) × ((j : ℕ) → j < k → p j ≡ false)
first_below_some p zero k e = absurd (some_none (sym e))
first_below_some p (suc m) k e = go (first_below_some p m k) (first_below p m) refl (p m) refl e
  where
    go : (first_below p m ≡ Some k → (k < m) × (p k ≡ true) × ((j : ℕ) → j < k → p j ≡ false)) → (o : Option ℕ) → first_below p m ≡ o → (b : Bool) → p m ≡ b → cond (is_some o) o (cond b (Some m) None) ≡ Some k →
        (k < suc m) × (p k ≡ true) × ((j : ℕ) → j < k → p j ≡ false)
    go ih (Some i) f b g s = let h = ih (f ∙ s) in (omega (arith, h.0), h.1, h.2)
    go ih None f true g s = let h : m ≡ k = some_same s in (omega arith, ap p (sym h) ∙ g, λ j l. below_none_at p m f j (omega arith))
    go ih None f false g s = absurd (some_none (sym s))

-- a search goes on from where another ended
pub first_below_on : (p : ℕ → Bool) (a count : ℕ) → first_below p a ≡ None → first_below (λ i. p (a + i)) count ≡ None → first_below p (a + count) ≡ None
first_below_on p a count e f = below_none_from p (a + count) (λ k l. elim (cases_lt k a) [
  | inl b ↦ below_none_at p a e k b
  | inr b ↦ let s : a + (k - a) ≡ k = omega arith in ap p (sym s) ∙ below_none_at (λ i. p (a + i)) count f (k - a) (omega arith)
])

pub first_below_past : (p : ℕ → Bool) (a count n i : ℕ) → first_below p a ≡ None → first_below (λ i. p (a + i)) count ≡ Some i → a + count ≤ n →
    first_below p n ≡ Some (a + i)
first_below_past p a count n i e f l =
    let h = first_below_some (λ i. p (a + i)) count i f in
    first_below_at p (a + i) n h.1 (λ j b. elim (cases_lt j a) [
      | inl c ↦ below_none_at p a e j c
      | inr c ↦ let s : a + (j - a) ≡ j = omega arith in ap p (sym s) ∙ h.2 (j - a) (omega arith)
    ]) (omega (arith, h.0))
