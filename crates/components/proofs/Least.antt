-- What pairs meet, and that labels which are spread from all vertices are the least members.
use Rattle.std.proofs.Common.{◌≡◌, ◌==◌, ℕ, suc, ◌<◌, Bool, true, false, ◌&&◌, ◌||◌, List, [], ◌∷◌, length, get_or, sym, refl, ◌∙◌, inl, inr, ◌⊎◌, arith, eqb-true, eq-eqb}
use Rattle.std.specs.List.{list_any, range_with_len}
use Rattle.std.proofs.lemmas.Bool.{or_cases, and_parts, false≢true}
use Rattle.std.proofs.Math.Bool.{or-true}
use Rattle.std.proofs.lemmas.List.Folds.{list_any_at}
use Rattle.std.proofs.lemmas.List.FromFn.{get_or-range_with_len, length-range_with_len}
use Rattle.graph_model.specs.Lists.{has}
use Rattle.graph_model.proofs.Walks.{reach_keeps, has_decides}
use Rattle.components.specs.Joining.{meet, AreLeastMembers}
use Rattle.components.specs.Chains.{pair}
use Rattle.components.specs.Spreading.{Met, IsSpread}

or_turn : (p q : Bool) → (p || q) ≡ true → (q || p) ≡ true
or_turn true q e = or-true q
or_turn false q e = rw e refl

any_place : {X : Type 0} (test : X → Bool) (xs : List X) (d : X) → list_any test xs ≡ true → (k : ℕ) × (k < length xs) × (test (get_or xs k d) ≡ true)
any_place test [] d h = absurd (false≢true h)
any_place test (x ∷ xs) d h = elim (or_cases (test x) (list_any test xs) h) [
  | inl t ↦ (0, omega arith, t)
  | inr r ↦ let (k, l, t) = any_place test xs d r in (suc k, omega arith, t)
]

-- where two meet there is their pair
pub meet_place : (pairs : List (ℕ × ℕ)) (u v : ℕ) → meet pairs u v ≡ true → (k : ℕ) × (k < length pairs)
    × (((pair pairs k).0 ≡ u) × ((pair pairs k).1 ≡ v) ⊎ ((pair pairs k).0 ≡ v) × ((pair pairs k).1 ≡ u))
unfolding meet
meet_place pairs u v m =
    let (k, l, e) = any_place (λ (q : ℕ × ℕ). (q.0 == u && q.1 == v) || (q.0 == v && q.1 == u)) pairs (0, 0) m in (
      k,
      l,
      elim (or_cases _ _ e) [
        | inl h ↦ let s = and_parts _ _ h in inl (eqb-true _ _ s.0, eqb-true _ _ s.1)
        | inr h ↦ let s = and_parts _ _ h in inr (eqb-true _ _ s.0, eqb-true _ _ s.1)
      ],
    )

pub meet_back : (pairs : List (ℕ × ℕ)) (u v : ℕ) → meet pairs u v ≡ true → meet pairs v u ≡ true
unfolding meet
meet_back pairs u v m =
    let (k, l, e) = any_place (λ (q : ℕ × ℕ). (q.0 == u && q.1 == v) || (q.0 == v && q.1 == u)) pairs (0, 0) m in
    let p = get_or pairs k (0, 0) in
    list_any_at (λ (q : ℕ × ℕ). (q.0 == v && q.1 == u) || (q.0 == u && q.1 == v)) pairs k (0, 0) l
    (or_turn (p.0 == u && p.1 == v) (p.0 == v && p.1 == u) e)

-- the pair at a place joins its two
pub meet_at : (pairs : List (ℕ × ℕ)) (k : ℕ) → k < length pairs → meet pairs (pair pairs k).0 (pair pairs k).1 ≡ true
unfolding meet
meet_at pairs k l =
    let p = get_or pairs k (0, 0) in
    list_any_at (λ (q : ℕ × ℕ). (q.0 == p.0 && q.1 == p.1) || (q.0 == p.1 && q.1 == p.0)) pairs k (0, 0) l
    (let a = eq-eqb p.0 p.0 refl in let b = eq-eqb p.1 p.1 refl in rw (a, b) refl)

pub has_below : (n v : ℕ) → v < n → has (range_with_len 0 n) v ≡ true
has_below n v l =
    let z = length-range_with_len 0 n in
    (has_decides (range_with_len 0 n) v).1 (v, omega arith, let e = get_or-range_with_len 0 n v v l in omega arith)

below_has : (n v : ℕ) → has (range_with_len 0 n) v ≡ true → v < n
below_has n v t =
    let (k, l, e) = (has_decides (range_with_len 0 n) v).0 t in
    let z = length-range_with_len 0 n in
    let m : k < n = omega arith in
    let g = get_or-range_with_len 0 n k v m in
    omega arith

-- where all have labels and nobody waits, the labels are the least members
pub spread_is_least : (n : ℕ) (pairs : List (ℕ × ℕ)) (labels : List ℕ) → IsSpread n pairs n n labels [] → AreLeastMembers n pairs labels
spread_is_least n pairs labels i = record {
  count = i.count;
  joined = λ v l. (has_below n v l, i.met v l (i.below v l));
  lowest = λ v w l j.
      let along : (w < n) × (get_or labels v 0 ≡ get_or labels w 0) =
      reach_keeps (Met n pairs) (λ t. (t < n) × (get_or labels v 0 ≡ get_or labels t 0))
      (λ p q m h. let b = below_has n q m.1 in (b, h.1 ∙ sym (i.closed p q h.0 (i.below p h.0) refl (λ s. absurd (let c = h.0 in omega arith)) b m.0)))
      v w j.1 (l, refl) in
      let c = i.low w along.0 (i.below w along.0) in
      let e = along.1 in
      omega arith;
}
