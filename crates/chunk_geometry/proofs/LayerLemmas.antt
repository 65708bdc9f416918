-- The first layer at which a test is true, the top layer and the level.
use Rattle.std.proofs.Common.{◌≡◌, ℕ, zero, suc, Bool, true, false, ◌<◌, ◌≤◌, ◌^◌, ◌+◌, ◌-◌, ◌*◌, ◌/◌, ◌&&◌, leb, eqb, sym, ap, subst, ◌∙◌, inl, inr, arith}
use Rattle.std.proofs.lemmas.Bool.{cond_both, and_parts, and_from, leb-true, le-leb, ltb-true, eqb-true, eq-eqb, false≢true, cases_order, cases_lt}
use Rattle.std.proofs.Math.Nat.{div-eq_of_lt}
use Rattle.std.proofs.Math.Pow.{pow_mono}
use Rattle.std.proofs.lemmas.Nat.{pow-add}
use Rattle.chunk_geometry.specs.Cells.{Cells}
use Rattle.chunk_geometry.specs.declared.Cell.{Cell}
use Rattle.chunk_geometry.specs.Chunks.{chunk_at, widest, first_from, top_from, top_layer}
use Rattle.chunk_geometry.specs.Grids.{in_grid}
use Rattle.chunk_geometry.specs.Levels.{same_cell, level}

module _ (test : ℕ → Bool) where
  first_high : (layer more : ℕ) → first_from test layer more ≤ layer + more
  first_high layer zero = omega arith
  first_high layer (suc more) =
      cond_both (test layer) layer (first_from test (layer + 1) more) (λ n. n ≤ layer + suc more) (λ e. omega arith) (λ e. omega (arith, first_high (layer + 1) more))

  first_low : (layer more : ℕ) → layer ≤ first_from test layer more
  first_low layer zero = omega arith
  first_low layer (suc more) =
      cond_both (test layer) layer (first_from test (layer + 1) more) (λ n. layer ≤ n) (λ e. omega arith) (λ e. omega (arith, first_low (layer + 1) more))

  above : (layer found : ℕ) → layer ≤ found → test layer ≡ false → test found ≡ true → layer + 1 ≤ found
  above layer found low e is = elim (cases_order layer found) [
    | inl same ↦ absurd (false≢true (sym e ∙ ap test same ∙ is))
    | inr other ↦ elim other [ inl less ↦ omega arith | inr more ↦ absurd (omega arith) ]
  ]

  first_least : (layer more found : ℕ) → layer ≤ found → test found ≡ true → first_from test layer more ≤ found
  first_least layer zero found low is = low
  first_least layer (suc more) found low is =
      cond_both (test layer) layer (first_from test (layer + 1) more) (λ n. n ≤ found) (λ e. low) (λ e. first_least (layer + 1) more found (above layer found low e is) is)

  first_true : (layer more found : ℕ) → layer ≤ found → found ≤ layer + more → test found ≡ true → test (first_from test layer more) ≡ true
  first_true layer zero found low high is = subst (λ n. test n ≡ true) (omega arith) is
  first_true layer (suc more) found low high is =
      cond_both (test layer) layer (first_from test (layer + 1) more) (λ n. test n ≡ true) (λ e. e)
      (λ e. first_true (layer + 1) more found (above layer found low e is) (omega arith) is)

  -- what is least among the layers at which the test is true is the first
  first_is : (layer more found : ℕ) → layer ≤ found → found ≤ layer + more → test found ≡ true
      → ((other : ℕ) → layer ≤ other → test other ≡ true → found ≤ other) → found ≡ first_from test layer more
  first_is layer more found low high is least =
      omega (arith, first_least layer more found low is, least (first_from test layer more) (first_low layer more) (first_true layer more found low high is))

pub top_high : (g : Cells) → top_layer g ≤ 18
unfolding top_layer top_from
top_high g = first_high (λ layer. leb (widest g) (2 ^ (layer - 2))) 2 16

pub top_low : (g : Cells) → 2 ≤ top_layer g
unfolding top_layer top_from
top_low g = first_low (λ layer. leb (widest g) (2 ^ (layer - 2))) 2 16

pub top_fits : (g : Cells) → widest g ≤ 65536 → widest g ≤ 2 ^ (top_layer g - 2)
unfolding top_layer top_from
top_fits g small = leb-true _ _ (first_true (λ layer. leb (widest g) (2 ^ (layer - 2))) 2 16 18 (omega arith) (omega arith) (le-leb _ _ small))

pub top_is : (g : Cells) (found : ℕ) → 2 ≤ found → found ≤ 18 → widest g ≤ 2 ^ (found - 2)
    → ((other : ℕ) → 2 ≤ other → widest g ≤ 2 ^ (other - 2) → found ≤ other) → found ≡ top_layer g
unfolding top_layer top_from
top_is g found low high fits least =
    first_is (λ layer. leb (widest g) (2 ^ (layer - 2))) 2 16 found low high (le-leb _ _ fits) (λ other l e. least other l (leb-true _ _ e))

-- where a number's logarithm to the base 2 is known, the least power that reaches the number after it
pub log_fits : (w log : ℕ) → w - 1 < 2 * 2 ^ log → w ≤ 2 ^ (3 + log - 2)
log_fits w log h =
    let e : 2 ^ (3 + log - 2) ≡ 2 * 2 ^ log = ap (λ n. 2 ^ n) (omega arith) ∙ pow-add 2 1 log in
    omega arith

pub log_least : (w log layer : ℕ) → 2 ≤ w → 2 ^ log ≤ w - 1 → w ≤ 2 ^ (layer - 2) → 3 + log ≤ layer
log_least w log layer wide low fits = elim (cases_lt (layer - 2) (log + 1)) [
  | inl less ↦ let m : 2 ^ (layer - 2) ≤ 2 ^ log = pow_mono (omega arith) in absurd (omega arith)
  | inr more ↦ omega arith
]

pub cell_same : (a b : Cell) → same_cell a b ≡ true → a ≡ b
cell_same a b e =
    let k = and_parts (eqb a.x b.x) (eqb a.y b.y && eqb a.z b.z) e in
    let m = and_parts (eqb a.y b.y) (eqb a.z b.z) k.1 in
    let x : a.x ≡ b.x = eqb-true _ _ k.0 in
    let y : a.y ≡ b.y = eqb-true _ _ m.0 in
    let z : a.z ≡ b.z = eqb-true _ _ m.1 in
    λ i. record { x = x i; y = y i; z = z i }

pub same_of_cell : (a b : Cell) → a ≡ b → same_cell a b ≡ true
same_of_cell a b e =
    and_from _ _ (eq-eqb a.x b.x (ap (λ (c : Cell). c.x) e)) (and_from _ _ (eq-eqb a.y b.y (ap (λ (c : Cell). c.y) e)) (eq-eqb a.z b.z (ap (λ (c : Cell). c.z) e)))

pub level_is : (a b : Cell) (found : ℕ) → 2 ≤ found → found ≤ 18 → chunk_at found a ≡ chunk_at found b
    → ((other : ℕ) → 2 ≤ other → chunk_at other a ≡ chunk_at other b → found ≤ other) → found ≡ level a b
unfolding level
level_is a b found low high joint least =
    first_is (λ layer. same_cell (chunk_at layer a) (chunk_at layer b)) 2 16 found low high (same_of_cell _ _ joint) (λ other l e. least other l (cell_same _ _ e))

-- where the whole grid is one chunk, that is the first
pub first_chunk : (g : Cells) (base : Cell) (layer : ℕ) → widest g ≤ 2 ^ (layer - 2) → in_grid g base ≡ true → chunk_at layer base ≡ record { x = 0; y = 0; z = 0 }
unfolding chunk_at
first_chunk g base layer fits held =
    let k = and_parts _ _ held in
    let m = and_parts _ _ k.0 in
    let bx : base.x < g.x = ltb-true _ _ m.0 in
    let by : base.y < g.y = ltb-true _ _ m.1 in
    let bz : base.z < g.z = ltb-true _ _ k.1 in
    let x : base.x / 2 ^ (layer - 2) ≡ 0 = div-eq_of_lt (omega arith) in
    let y : base.y / 2 ^ (layer - 2) ≡ 0 = div-eq_of_lt (omega arith) in
    let z : base.z / 2 ^ (layer - 2) ≡ 0 = div-eq_of_lt (omega arith) in
    λ i. record { x = x i; y = y i; z = z i }

pub top_chunk : (g : Cells) (base : Cell) → widest g ≤ 65536 → in_grid g base ≡ true → chunk_at (top_layer g) base ≡ record { x = 0; y = 0; z = 0 }
top_chunk g base small held = first_chunk g base (top_layer g) (top_fits g small) held

pub one_chunk : (g : Cells) (a b : Cell) (layer : ℕ) → widest g ≤ 2 ^ (layer - 2) → in_grid g a ≡ true → in_grid g b ≡ true → chunk_at layer a ≡ chunk_at layer b
one_chunk g a b layer fits held other = first_chunk g a layer fits held ∙ sym (first_chunk g b layer fits other)
