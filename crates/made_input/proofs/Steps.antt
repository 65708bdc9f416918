-- One supervoxel more.
use Rattle.std.proofs.Common.{◌≡◌, ◌∙◌, ℕ, zero, suc, ◌+◌, ◌-◌, ◌*◌, ◌≤◌, Bool, cond, true, false, not, eqb, leb, List, [], ◌∷◌, ◌++◌, length, ap, subst, arith}
use Rattle.std.proofs.lemmas.List.{length-append}
use Rattle.made_input.specs.Draws.{next, shown}
use Rattle.made_input.specs.Edges.{IsWish, Made, chunks, edges_below, has_neighbour, with_inner, with_outer}
use Rattle.made_input.specs.declared.edges.MadeEdge.{MadeEdge}
use Rattle.made_input.specs.declared.wish.Wish.{Wish}

pub next_edges : (w : Wish) (k : ℕ) (made inner outer : Made) → edges_below w k ≡ made → with_inner w k made ≡ inner → with_outer w k inner ≡ outer → edges_below w (k + 1) ≡ outer
unfolding edges_below
next_edges w k made inner outer a b c =
    let one : k + 1 ≡ suc k = omega arith in
    ap (edges_below w) one ∙ ap (λ m. with_outer w k (with_inner w k m)) a ∙ ap (with_outer w k) b ∙ c

-- ---- how many edges there are

abbrev count : Made → ℕ
count made = length made.0

one_at_most : (b : Bool) (es : List MadeEdge) (e : MadeEdge) (s t : ℕ) → count (cond b (es ++ e ∷ [], s) (es, t)) ≤ length es + 1
one_at_most true es e s t = omega (arith, length-append es (e ∷ []))
one_at_most false es e s t = omega arith

one_if_there : (a b : Bool) (es : List MadeEdge) (e : MadeEdge) (s t u : ℕ) → count (cond a (cond b (es ++ e ∷ [], s) (es, t)) (es, u)) ≤ length es + 1
one_if_there true b es e s t u = one_at_most b es e s t
one_if_there false b es e s t u = omega arith

inner_few : (w : Wish) (k : ℕ) (made : Made) → count (with_inner w k made) ≤ count made + 1
unfolding with_inner
inner_few w k made =
    one_at_most (leb (chunks w) k) made.0
    (record { a = k - chunks w; b = k; affinity = 1 + shown 100 (next made.1); active = not (eqb (shown 8 (next (next made.1))) 0) }) (next (next made.1)) made.1

outer_few : (w : Wish) (k : ℕ) (made : Made) → count (with_outer w k made) ≤ count made + 1
unfolding with_outer
outer_few w k made =
    one_if_there (has_neighbour w k) (eqb (shown 4 (next made.1)) 0) made.0
    (record { a = k; b = k + 1; affinity = 1 + shown 100 (next (next made.1)); active = eqb (shown 2 (next (next (next made.1)))) 0 })
    (next (next (next made.1))) (next made.1) made.1

few_edges : (w : Wish) (k : ℕ) → count (edges_below w k) ≤ 2 * k
unfolding edges_below
few_edges w zero = omega arith
few_edges w (suc k) = omega (arith, few_edges w k, inner_few w k (edges_below w k), outer_few w k (with_inner w k (edges_below w k)))

pub few_made : (w : Wish) → IsWish w → (es : List MadeEdge) (s : ℕ) → edges_below w w.size ≡ (es, s) → length es ≤ 2000000
few_made w ok es s e = omega (arith, subst (λ m. count m ≤ 2 * w.size) e (few_edges w w.size), ok.size.1)
