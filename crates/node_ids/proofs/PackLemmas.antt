-- Packing and unpacking undo each other.
use Rattle.std.proofs.Common.{◌≡◌, ℕ, Bool, true, false, ◌<◌, ◌≤◌, ◌^◌, ◌-◌, ◌*◌, ◌%◌, ◌/◌, leb, cond, Result, Ok, Err, ap, subst, arith, refl}
use Rattle.std.proofs.lemmas.Bool.{leb-true, le-leb}
use Rattle.std.proofs.lemmas.Nat.{pow_pos}
use Rattle.node_ids.specs.declared.Parts.{Parts}
use Rattle.node_ids.specs.Ids.{LayoutForm, IsLayout, width, greatest, id_of, parts_over, parts_of, PartsFit}
use Rattle.node_ids.specs.Packing.{packed}
use Rattle.node_ids.proofs.IdLemmas.{id_tells, parts_make}

below : (a k : ℕ) → a ≤ 2 ^ k - 1 → a < 2 ^ k
below a k h = omega (arith, pow_pos k)

at_most : (a k : ℕ) → a % 2 ^ k ≤ 2 ^ k - 1
at_most a k = let p : 0 < 2 ^ k = pow_pos k in omega arith

-- an answer that isn't the error passed the test
passed : {E : Type 0} (test : Bool) (answer : Result ℕ E) (error : E) (id : ℕ) → cond test answer (Err error) ≡ Ok id → (test ≡ true) × (answer ≡ Ok id)
passed true answer error id e = (refl, e)
passed false answer error id e = absurd (cc)

packed_parts : (f : LayoutForm) (p : Parts) (id : ℕ) → p.layer < 2 ^ 8 → packed f p ≡ Ok id → PartsFit (width f p.layer) p × (id_of f p ≡ id)
unfolding packed
packed_parts f p id layer e =
    let w : ℕ = width f p.layer in
    let x = passed (leb p.x (2 ^ w - 1)) _ _ id e in
    let y = passed (leb p.y (2 ^ w - 1)) _ _ id x.1 in
    let z = passed (leb p.z (2 ^ w - 1)) _ _ id y.1 in
    let g = passed (leb p.segment (greatest f p.layer)) _ _ id z.1 in (
      record {
        layer = layer;
        x = below p.x w (leb-true _ _ x.0);
        y = below p.y w (leb-true _ _ y.0);
        z = below p.z w (leb-true _ _ z.0);
        segment = below p.segment (56 - 3 * w) (leb-true _ _ g.0);
      },
      same_ok g.1,
    )
  where
    same_ok : {E : Type 0} {a b : ℕ} → ◌≡◌ {A = Result ℕ E} (Ok a) (Ok b) → a ≡ b
    same_ok e = cc

pub packs_unpacked : (f : LayoutForm) (id : ℕ) → IsLayout f → packed f (parts_of f id) ≡ Ok id
unfolding packed parts_of parts_over
packs_unpacked f id is =
    let w : ℕ = width f (id / 2 ^ 56) in
    let x = le-leb _ _ (at_most (id / 2 ^ (56 - w)) w) in
    let y = le-leb _ _ (at_most (id / 2 ^ (56 - 2 * w)) w) in
    let z = le-leb _ _ (at_most (id / 2 ^ (56 - 3 * w)) w) in
    let g = le-leb _ _ (at_most id (56 - 3 * w)) in
    rw (x, y, z, g) (ap Ok (parts_make f id is.3))

pub unpacks_packed : (f : LayoutForm) (p : Parts) (id : ℕ) → IsLayout f → p.layer < 2 ^ 8 → packed f p ≡ Ok id → parts_of f id ≡ p
unpacks_packed f p id is layer e =
    let k = packed_parts f p id layer e in
    subst (λ n. parts_of f n ≡ p) k.1 (id_tells f p is.3 k.0)
