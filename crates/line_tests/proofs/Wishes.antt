-- Wishes that can be met.
use Rattle.std.proofs.Common.{◌≡◌, ℕ, ◌-◌, ◌*◌, ◌^◌, ◌≤◌, ap, sym, subst, arith}
use Rattle.std.proofs.lemmas.Nat.{mul-le}
use Rattle.made_input.specs.Edges.{IsWish, chunks}
use Rattle.made_input.specs.declared.wish.Wish.{Wish}

-- a wish with 8 bits for each coordinate, which has room in any grid
pub is_wish : (w : Wish) → w.layout.bits ≡ 8 → w.layout.version ≡ 1 → (1 ≤ w.grid.x) × (w.grid.x ≤ 256) → (1 ≤ w.grid.y) × (w.grid.y ≤ 256) → (1 ≤ w.grid.z) × (w.grid.z ≤ 256)
    → (1 ≤ w.size) × (w.size ≤ 1000000) → (1 ≤ w.clients) × (w.clients ≤ 64) → w.requests ≤ 100000 → IsWish w
is_wish w b v x y z s c r =
    let p : 2 ^ w.layout.bits ≡ 256 = ap (λ n. 2 ^ n) b in
    let m : 2 ^ (56 - 3 * w.layout.bits) ≡ 4294967296 = ap (λ n. 2 ^ (56 - 3 * n)) b in
    let some : 1 ≤ chunks w = mul-le 1 1 (w.grid.x * w.grid.y) w.grid.z (mul-le 1 1 w.grid.x w.grid.y x.0 y.0) z.0 in
    let room : 1 * 4294967295 ≤ chunks w * 4294967295 = mul-le 1 4294967295 (chunks w) 4294967295 some (omega arith) in
    record {
      layout = (omega (arith, v), omega (arith, v), omega (arith, b), omega (arith, b));
      x = (x.0, omega (arith, p, x.1));
      y = (y.0, omega (arith, p, y.1));
      z = (z.0, omega (arith, p, z.1));
      size = (s.0, s.1, subst (λ q. w.size ≤ chunks w * (q - 1)) (sym m) (omega (arith, room, s.1)));
      requests = r;
      clients = c;
    }
