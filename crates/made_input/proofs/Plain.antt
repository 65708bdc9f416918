-- The fields of the tables have no mark in them.
use Rattle.std.proofs.Common.{◌≡◌, ◌∙◌, ℕ, zero, suc, ◌+◌, ◌-◌, ◌*◌, ◌%◌, ◌/◌, ◌^◌, ◌<◌, ◌≤◌, Bool, cond, true, false, not, ◌&&◌, ◌||◌, eqb, leb, ltb, ne_eqb, ltb-true, List, [], ◌∷◌, ◌++◌, map, codes, decimal, refl, ap, ap₂, subst, arith, pow-add, le_trans}
use Rattle.std.specs.List.{All, AllByRecursion, list_all}
use Rattle.std.proofs.Math.Nat.{mod-lt}
use Rattle.std.proofs.Math.Pow.{pow_mono}
use Rattle.std.proofs.lemmas.Bool.{and_parts}
use Rattle.std.proofs.lemmas.Fmt.{decimal_by_steps}
use Rattle.std.proofs.lemmas.List.Folds.{list_all-append}
use Rattle.std.proofs.lemmas.List.{map-append}
use Rattle.std.proofs.lemmas.Nat.{mul-le}
use Rattle.node_ids.specs.Ids.{id_of, id_over, width}
use Rattle.node_ids.proofs.IdLemmas.{width_low}
use Rattle.made_input.specs.Draws.{next, shown}
use Rattle.made_input.specs.Edges.{IsMade, IsWish, Made, chunks, edges_below, has_neighbour, parts, supervoxel, with_inner, with_outer}
use Rattle.made_input.specs.Rows.{Text, is_mark, is_plain_field, is_plain_row}
use Rattle.made_input.specs.Texts.{edge_fields, edge_rows, numbers_below, supervoxel_rows}
use Rattle.made_input.specs.declared.edges.MadeEdge.{MadeEdge}
use Rattle.made_input.specs.declared.wish.Wish.{Wish}
use Rattle.made_input.proofs.Places.{fits}

-- ---- digits

digit_plain : (d : ℕ) → d < 10 → not (is_mark (48 + d)) ≡ true
digit_plain d lt =
    let a : eqb (48 + d) 44 ≡ false = ne_eqb (48 + d) 44 (λ e. omega (arith, e)) in
    let b : eqb (48 + d) 34 ≡ false = ne_eqb (48 + d) 34 (λ e. omega (arith, e)) in
    let c : eqb (48 + d) 13 ≡ false = ne_eqb (48 + d) 13 (λ e. omega (arith, e)) in
    let e : eqb (48 + d) 10 ≡ false = ne_eqb (48 + d) 10 (λ e. omega (arith, e)) in
    (λ i. not ((a i || b i) || (c i || e i)))

plain_more : (ds : Text) (b : ℕ) → is_plain_field ds ≡ true → not (is_mark b) ≡ true → is_plain_field (ds ++ b ∷ []) ≡ true
plain_more [] b h e = cc h
plain_more (x ∷ xs) b h e = list_all-append (λ b. not (is_mark b)) (x ∷ xs) (b ∷ []) ∙ ap₂ (λ p q. p && (q && true)) h e

pub plain_decimal : (n : ℕ) → n < 2 ^ 64 → is_plain_field (decimal n) ≡ true
plain_decimal n lt =
    decimal_by_steps (λ n ds. is_plain_field ds ≡ true) (λ n few. ap (λ b. b && true) (digit_plain n few))
    (λ n ds many h. plain_more ds (48 + n % 10) h (digit_plain (n % 10) (mod-lt n {m = 10} (omega arith)))) n lt

-- ---- ids

grown : (a : ℕ) → a ≤ 56 → 2 ^ a ≤ 2 ^ 56
grown a le = pow_mono {i = a} {j = 56} le

below : (W a : ℕ) (x : ℕ) → x < 2 ^ W → W + a ≤ 56 → x * 2 ^ a ≤ 2 ^ 56
below W a x lt le =
    le_trans (mul-le x (2 ^ a) (2 ^ W) (2 ^ a) (omega (arith, lt)) (omega arith)) (subst (λ m. m ≤ 2 ^ 56) (pow-add 2 W a) (grown (W + a) le))

id_bound : (W x y z s : ℕ) → 3 * W ≤ 56 → x < 2 ^ W → y < 2 ^ W → z < 2 ^ W → s < 2 ^ (56 - 3 * W)
    → 1 * 2 ^ 56 + x * 2 ^ (56 - W) + y * 2 ^ (56 - 2 * W) + z * 2 ^ (56 - 3 * W) + s < 2 ^ 64
id_bound W x y z s three lx ly lz ls =
    omega (arith, below W (56 - W) x lx (omega (arith, three)), below W (56 - 2 * W) y ly (omega (arith, three)), below W (56 - 3 * W) z lz (omega (arith, three)), ls, grown (56 - 3 * W) (omega arith))

pub id_small : (w : Wish) → IsWish w → (k : ℕ) → k < w.size → supervoxel w k < 2 ^ 64
unfolding id_of id_over parts
id_small w ok k lt =
    let f = fits w ok k lt in
    let p = parts w k in
    id_bound (width w.layout 1) p.x p.y p.z p.segment (width_low w.layout ok.layout.3 1) f.x f.y f.z f.segment

pub id_plain : (w : Wish) → IsWish w → (k : ℕ) → k < w.size → is_plain_field (decimal (supervoxel w k)) ≡ true
id_plain w ok k lt = plain_decimal (supervoxel w k) (id_small w ok k lt)

-- ---- rows

numbers_plain : (w : Wish) → IsWish w → (k : ℕ) → k ≤ w.size → list_all is_plain_row (map (λ k. decimal (supervoxel w k) ∷ []) (numbers_below k)) ≡ true
unfolding numbers_below
numbers_plain w ok zero le = refl
numbers_plain w ok (suc k) le =
    ap (list_all is_plain_row) (map-append (λ k. decimal (supervoxel w k) ∷ []) (numbers_below k) (k ∷ []))
    ∙ list_all-append is_plain_row (map (λ k. decimal (supervoxel w k) ∷ []) (numbers_below k)) ((decimal (supervoxel w k) ∷ []) ∷ [])
    ∙ ap₂ (λ a b. a && ((b && true) && true)) (numbers_plain w ok k (omega (arith, le))) (id_plain w ok k (omega (arith, le)))

pub supervoxels_plain : (w : Wish) → IsWish w → list_all is_plain_row (supervoxel_rows w) ≡ true
unfolding supervoxel_rows
supervoxels_plain w ok = numbers_plain w ok w.size (omega arith)

abbrev AllMade : Wish → Made → Type 0
AllMade w made = AllByRecursion (IsMade w) made.0

one_more : (w : Wish) (es : List MadeEdge) (e : MadeEdge) → AllByRecursion (IsMade w) es → IsMade w e → AllByRecursion (IsMade w) (es ++ e ∷ [])
one_more w [] e a p = (p, tt)
one_more w (x ∷ xs) e a p = (a.0, one_more w xs e a.1 p)

pub affinity_few : (s : ℕ) → (1 ≤ 1 + shown 100 s) × (1 + shown 100 s ≤ 100)
unfolding shown
affinity_few s = (omega arith, omega (arith, mod-lt (s / 2 ^ 33) {m = 100} (omega arith)))

inner_made : (w : Wish) (k : ℕ) (made : Made) → k < w.size → AllMade w made → AllMade w (with_inner w k made)
unfolding with_inner
inner_made w k made lt h = go (leb (chunks w) k)
  where
    e : MadeEdge
    e = record { a = k - chunks w; b = k; affinity = 1 + shown 100 (next made.1); active = not (eqb (shown 8 (next (next made.1))) 0) }

    go : (b : Bool) → AllMade w (cond b (made.0 ++ e ∷ [], next (next made.1)) made)
    go true = let f = affinity_few (next made.1) in one_more w made.0 e h (omega (arith, lt), lt, f.0, f.1)
    go false = h

pub neighbour_near : (w : Wish) (k : ℕ) → has_neighbour w k ≡ true → k + 1 < w.size
neighbour_near w k n = ltb-true (k + 1) w.size (and_parts (ltb ((k % chunks w) % w.grid.x + 1) w.grid.x) (ltb (k + 1) w.size) n).1

outer_made : (w : Wish) (k : ℕ) (made : Made) → k < w.size → AllMade w made → AllMade w (with_outer w k made)
unfolding with_outer
outer_made w k made lt h = go (has_neighbour w k) refl
  where
    e : MadeEdge
    e = record { a = k; b = k + 1; affinity = 1 + shown 100 (next (next made.1)); active = eqb (shown 2 (next (next (next made.1)))) 0 }

    there : (t : Bool) → k + 1 < w.size → AllMade w (cond t (made.0 ++ e ∷ [], next (next (next made.1))) (made.0, next made.1))
    there true n = let f = affinity_few (next (next made.1)) in one_more w made.0 e h (lt, n, f.0, f.1)
    there false n = h

    go : (b : Bool) → has_neighbour w k ≡ b → AllMade w (cond b (cond (eqb (shown 4 (next made.1)) 0) (made.0 ++ e ∷ [], next (next (next made.1))) (made.0, next made.1)) made)
    go true n = there (eqb (shown 4 (next made.1)) 0) (neighbour_near w k n)
    go false n = h

pub edges_made : (w : Wish) (k : ℕ) → k ≤ w.size → AllMade w (edges_below w k)
unfolding edges_below
edges_made w zero le = tt
edges_made w (suc k) le = outer_made w k (with_inner w k (edges_below w k)) (omega (arith, le)) (inner_made w k (edges_below w k) (omega (arith, le)) (edges_made w k (omega (arith, le))))

fields_plain : (w : Wish) → IsWish w → (e : MadeEdge) → IsMade w e → is_plain_row (edge_fields w e) ≡ true
unfolding edge_fields
fields_plain w ok e h =
    let state : is_plain_field (cond e.active (codes "1") (codes "0")) ≡ true = go e.active in
    (λ i. id_plain w ok e.a h.0 i && (id_plain w ok e.b h.1 i && (plain_decimal e.affinity (omega (arith, h.3)) i && (state i && true))))
  where
    go : (b : Bool) → is_plain_field (cond b (codes "1") (codes "0")) ≡ true
    go true = refl
    go false = refl

all_fields_plain : (w : Wish) → IsWish w → (es : List MadeEdge) → AllByRecursion (IsMade w) es → list_all is_plain_row (map (edge_fields w) es) ≡ true
all_fields_plain w ok [] h = refl
all_fields_plain w ok (e ∷ es) h = ap₂ (λ a b. a && b) (fields_plain w ok e h.0) (all_fields_plain w ok es h.1)

pub edges_plain : (w : Wish) → IsWish w → list_all is_plain_row (edge_rows w) ≡ true
unfolding edge_rows
edges_plain w ok = all_fields_plain w ok (edges_below w w.size).0 (edges_made w w.size (omega arith))

each_made : (w : Wish) (es : List MadeEdge) → AllByRecursion (IsMade w) es → All (IsMade w) es
each_made w [] h k d lt = absurd (omega (arith, lt))
each_made w (e ∷ es) h zero d lt = h.0
each_made w (e ∷ es) h (suc k) d lt = each_made w es h.1 k d (omega (arith, lt))

pub all_made : (w : Wish) (es : List MadeEdge) (s : ℕ) → edges_below w w.size ≡ (es, s) → All (IsMade w) es
all_made w es s e = each_made w es (subst (λ (m : Made). AllByRecursion (IsMade w) m.0) e (edges_made w w.size (omega arith)))
