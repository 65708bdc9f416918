-- What links carry, and sums of it at vertices.
use Rattle.std.proofs.Common.{◌≡◌, ℕ, ◌+◌, ◌*◌, ◌<◌, ◌≤◌, Bool, true, false, cond, List, length, get_or, map, nat_eq, ℤ, pos, negsuc, sym, refl, ap, ap₂, ◌∙◌, arith, add-one, le_refl}
use Rattle.flow_net.specs.declared.Link.{Link}
use Rattle.graph_model.specs.Wires.{Wire, wire}
use Rattle.graph_model.specs.Flows.{amount, forth, back, run_out, run_in}
use Rattle.flow_net.specs.Net.{wire_of, first_below}
use Rattle.flow_net.specs.Sums.{IsCarry, AreSums, AddsAt, differs}
use Rattle.flow_net.specs.Verdict.{unbalanced}
use Rattle.flow_net.proofs.Searches.{wire_is, first_below_same}

one_way : (z : ℤ) → 0 < back z → forth z ≡ 0
one_way (pos n) h = absurd (omega arith)
one_way (negsuc n) h = refl

first_only : (p q : Bool) (n : ℕ) → cond p n 0 + cond q 0 0 ≡ cond p n 0
first_only true true n = omega arith
first_only true false n = omega arith
first_only false true n = refl
first_only false false n = refl

last_only : (p q : Bool) (n : ℕ) → cond p 0 0 + cond q n 0 ≡ cond q n 0
last_only true true n = omega arith
last_only true false n = refl
last_only false true n = omega arith
last_only false false n = refl

out_first : (p q : Bool) (n : ℕ) → cond p (cond q 0 n) (cond q 0 0) ≡ cond p (cond q 0 n) 0
out_first true q n = refl
out_first false true n = refl
out_first false false n = refl

in_first : (p q : Bool) (n : ℕ) → cond p (cond q 0 0) (cond q n 0) ≡ cond q (cond p 0 n) 0
in_first true true n = refl
in_first true false n = refl
in_first false true n = refl
in_first false false n = refl

module _ (ws : List Wire) (fs : List ℤ) (k a b : ℕ) (size : ℕ) where
  carries_on : (wire ws k).a ≡ a → (wire ws k).b ≡ b → forth (amount fs k) ≡ size → back (amount fs k) ≡ 0 → IsCarry ws fs k a b size
  carries_on p q f g = record {
    run_out_is = λ v. rw (p, q, f, g) (first_only (nat_eq a v) (nat_eq b v) size);
    run_in_is = λ v. rw (p, q, f, g) (last_only (nat_eq a v) (nat_eq b v) size);
    carried_out_is = λ side. rw (p, q, f, g) (out_first (side a) (side b) size);
    carried_in_is = λ side. rw (p, q, f, g) (in_first (side a) (side b) size);
  }

  carries_back : (wire ws k).a ≡ b → (wire ws k).b ≡ a → forth (amount fs k) ≡ 0 → back (amount fs k) ≡ size → IsCarry ws fs k a b size
  carries_back p q f g = record {
    run_out_is = λ v. rw (p, q, f, g) (last_only (nat_eq b v) (nat_eq a v) size);
    run_in_is = λ v. rw (p, q, f, g) (first_only (nat_eq b v) (nat_eq a v) size);
    carried_out_is = λ side. rw (p, q, f, g) (in_first (side b) (side a) size);
    carried_in_is = λ side. rw (p, q, f, g) (out_first (side b) (side a) size);
  }

pub carry_forth : (ls : List Link) (fs : List ℤ) (k size : ℕ) (d : Link) → k < length ls → forth (get_or fs k (pos 0)) ≡ size → back (get_or fs k (pos 0)) ≡ 0 →
    IsCarry (map wire_of ls) fs k (get_or ls k d).a (get_or ls k d).b size
carry_forth ls fs k size d l f g =
    let e = wire_is ls k d l in
    carries_on (map wire_of ls) fs k _ _ size (ap (λ (w : Wire). w.a) e) (ap (λ (w : Wire). w.b) e) f g

pub carry_back : (ls : List Link) (fs : List ℤ) (k size : ℕ) (d : Link) → k < length ls → back (get_or fs k (pos 0)) ≡ size → 0 < size →
    IsCarry (map wire_of ls) fs k (get_or ls k d).b (get_or ls k d).a size
carry_back ls fs k size d l g h =
    let e = wire_is ls k d l in
    let f = one_way (get_or fs k (pos 0)) (omega arith) in
    carries_back (map wire_of ls) fs k _ _ size (ap (λ (w : Wire). w.a) e) (ap (λ (w : Wire). w.b) e) f g

-- sums over one link more
pub sums_more : (run : ℕ → ℕ → ℕ) (m first v size : ℕ) (old new : List ℕ) → length new ≡ length old → ((u : ℕ) → run u m ≡ cond (nat_eq v u) size 0) →
    AreSums run m first old → AddsAt first v size old new → AreSums run (m + 1) first new
sums_more run m first v size old new e r s a i l =
    let l' : i < length old = omega arith in
    rw add-one (a i l ∙ ap₂ (λ x y. x + y) (s i l') (sym (r (first + i))))

cond_most : (b : Bool) (n : ℕ) → cond b n 0 ≤ n
cond_most true n = le_refl n
cond_most false n = omega arith

pub small_more : (first v size most m : ℕ) (old new : List ℕ) → length new ≡ length old → size ≤ most →
    ((i : ℕ) → i < length old → get_or old i 0 ≤ most * m) → AddsAt first v size old new → (i : ℕ) → i < length new → get_or new i 0 ≤ most * (m + 1)
small_more first v size most m old new e b h a i l =
    let p = h i (omega arith) in
    let q = a i l in
    let r = cond_most (nat_eq v (first + i)) size in
    omega arith

-- equal sums at places are balanced vertices
pub same_differs : (ws : List Wire) (sources sinks : List ℕ) (fs : List ℤ) (into out : List ℕ) (m first count : ℕ) → length ws ≡ m → count ≤ length into → count ≤ length out →
    AreSums (run_in ws fs) m first into → AreSums (run_out ws fs) m first out →
    first_below (differs sources sinks into out first) count ≡ first_below (λ i. unbalanced ws sources sinks fs (first + i)) count
same_differs ws sources sinks fs into out m first count e p q a b = first_below_same _ _ count (λ i l.
    let x = a i (omega arith) in
    let y = b i (omega arith) in
    rw (x, y, e) refl)
