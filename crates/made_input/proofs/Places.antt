-- Where the supervoxels lie.
use Rattle.std.proofs.Common.{◌≡◌, ℕ, ◌+◌, ◌-◌, ◌*◌, ◌/◌, ◌%◌, ◌^◌, ◌<◌, ◌≤◌, max, Bool, cond, true, false, ◌&&◌, eqb, leb, le-leb, Ok, refl, sym, subst, arith}
use Rattle.std.proofs.Math.Nat.{div-lt_iff_lt-mul, mod-lt, mul_comm}
use Rattle.std.proofs.lemmas.Nat.{mul-le}
use Rattle.node_ids.specs.Ids.{LayoutForm, PartsFit, parts_of, segments_over, width}
use Rattle.node_ids.specs.Packing.{packed}
use Rattle.node_ids.proofs.IdLemmas.{id_tells}
use Rattle.made_input.specs.Edges.{IsWish, chunks, parts, supervoxel}
use Rattle.made_input.specs.declared.wish.Wish.{Wish}

width_one : (f : LayoutForm) → width f 1 ≡ f.bits
unfolding width
width_one f = go (eqb f.version 2)
  where
    go : (b : Bool) → cond (b && false) (max 1 (f.bits + 2 - 1)) f.bits ≡ f.bits
    go true = refl
    go false = refl

module _ (w : Wish) (ok : IsWish w) where
  pub some_chunks : 1 ≤ chunks w
  some_chunks = mul-le 1 1 (w.grid.x * w.grid.y) w.grid.z (mul-le 1 1 w.grid.x w.grid.y ok.x.0 ok.y.0) ok.z.0

  module _ (k : ℕ) (lt : k < w.size) where
    n : ℕ
    n = k % chunks w

    column : 1 ≤ w.grid.x * w.grid.y
    column = mul-le 1 1 w.grid.x w.grid.y ok.x.0 ok.y.0

    above : k % chunks w / (w.grid.x * w.grid.y) < w.grid.z
    above = (div-lt_iff_lt-mul {k = w.grid.x * w.grid.y} {x = k % chunks w} {y = w.grid.z} column).1 (subst (λ m. k % chunks w < m) (mul_comm (w.grid.x * w.grid.y) w.grid.z) (mod-lt k some_chunks))

    segment : k / chunks w < segments_over w.layout.bits - 1
    segment = (div-lt_iff_lt-mul {k = chunks w} {x = k} {y = segments_over w.layout.bits - 1} some_chunks).1
        (subst (λ m. k < m) (mul_comm (chunks w) (segments_over w.layout.bits - 1)) (omega (arith, lt, ok.size.2)))

    pub fits : PartsFit (width w.layout 1) (parts w k)
    unfolding parts
    fits = subst (λ b. PartsFit b (parts w k)) (sym (width_one w.layout)) (record {
      layer = omega arith;
      x = omega (arith, mod-lt (k % chunks w) {m = w.grid.x} ok.x.0, ok.x.1);
      y = omega (arith, mod-lt (k % chunks w / w.grid.x) {m = w.grid.y} ok.y.0, ok.y.1);
      z = omega (arith, above, ok.z.1);
      segment = omega (arith, segment);
    })

    pub above_told : ((parts w k).x < w.grid.x) × ((parts w k).y < w.grid.y) × ((parts w k).z < w.grid.z)
    unfolding parts
    above_told = (mod-lt (k % chunks w) {m = w.grid.x} ok.x.0, mod-lt (k % chunks w / w.grid.x) {m = w.grid.y} ok.y.0, above)

    -- unpacking tells where it lies
    pub parts_told : parts_of w.layout (supervoxel w k) ≡ parts w k
    unfolding parts
    parts_told = id_tells w.layout (parts w k) ok.layout.3 fits

    pub packs : packed w.layout (parts w k) ≡ Ok (supervoxel w k)
    unfolding packed parts
    packs =
        let p = parts w k in
        let m = 2 ^ width w.layout 1 - 1 in
        let s = segments_over (width w.layout 1) - 1 in
        let x : leb p.x m ≡ true = le-leb p.x m (omega (arith, fits.x)) in
        let y : leb p.y m ≡ true = le-leb p.y m (omega (arith, fits.y)) in
        let z : leb p.z m ≡ true = le-leb p.z m (omega (arith, fits.z)) in
        let t : leb p.segment s ≡ true = le-leb p.segment s (omega (arith, fits.segment)) in
        rw (x, y, z, t) refl
