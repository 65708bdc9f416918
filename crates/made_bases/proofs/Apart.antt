-- Supervoxels with different numbers have different ids.
use Rattle.std.proofs.Common.{◌≡◌, ◌∙◌, ℕ, ◌+◌, ◌*◌, ◌/◌, ◌%◌, ◌<◌, false, eqb, ne_eqb, sym, ap, ap₂, arith}
use Rattle.std.proofs.Math.Nat.{div-div-eq-div-mul, mod-eq-sub-div-mul, div-mul-le_self}
use Rattle.node_ids.specs.Ids.{parts_of}
use Rattle.node_ids.specs.declared.Parts.{Parts}
use Rattle.made_input.specs.Edges.{IsWish, chunks, parts, supervoxel}
use Rattle.made_input.specs.declared.wish.Wish.{Wish}
use Rattle.made_input.proofs.Places.{parts_told}

-- a number from what it leaves and how often it is divided
again : (n m : ℕ) → n ≡ n / m * m + n % m
again n m = omega (arith, mod-eq-sub-div-mul n m, div-mul-le_self n m)

same_from : (m a b : ℕ) → a / m ≡ b / m → a % m ≡ b % m → a ≡ b
same_from m a b q r = again a m ∙ ap₂ (λ x y. x * m + y) q r ∙ sym (again b m)

same_number : (w : Wish) (j k : ℕ) → parts w j ≡ parts w k → j ≡ k
unfolding parts
same_number w j k e =
    let c = chunks w in
    let x : j % c % w.grid.x ≡ k % c % w.grid.x = ap (λ (p : Parts). p.x) e in
    let y : j % c / w.grid.x % w.grid.y ≡ k % c / w.grid.x % w.grid.y = ap (λ (p : Parts). p.y) e in
    let z : j % c / (w.grid.x * w.grid.y) ≡ k % c / (w.grid.x * w.grid.y) = ap (λ (p : Parts). p.z) e in
    let s : j / c + 1 ≡ k / c + 1 = ap (λ (p : Parts). p.segment) e in
    let deep : j % c / w.grid.x / w.grid.y ≡ k % c / w.grid.x / w.grid.y = div-div-eq-div-mul (j % c) w.grid.x w.grid.y ∙ z ∙ sym (div-div-eq-div-mul (k % c) w.grid.x w.grid.y) in
    let column = same_from w.grid.y (j % c / w.grid.x) (k % c / w.grid.x) deep y in
    let inside = same_from w.grid.x (j % c) (k % c) column x in
    same_from c j k (omega (arith, s)) inside

pub id_same : (w : Wish) → IsWish w → (j k : ℕ) → j < w.size → k < w.size → supervoxel w j ≡ supervoxel w k → j ≡ k
id_same w ok j k lj lk e = same_number w j k (sym (parts_told w ok j lj) ∙ ap (parts_of w.layout) e ∙ parts_told w ok k lk)

pub ids_apart : (w : Wish) → IsWish w → (j k : ℕ) → j < k → k < w.size → eqb (supervoxel w j) (supervoxel w k) ≡ false
ids_apart w ok j k less lt = ne_eqb (supervoxel w j) (supervoxel w k) (λ e. omega (arith, id_same w ok j k (omega (arith, less, lt)) lt e, less))
