-- Edges of pairs that differ, put one by one into an ascending list, are the same edges.
use Rattle.std.proofs.Common.{◌≡◌, Bool, true, false, cond, ◌||◌, List, [], ◌∷◌, ◌++◌, map, refl, sym, ◌∙◌, ap, ap₂, subst, inl, inr, append-nil}
use Rattle.std.specs.Prelude.{IsPermutation, IsSortedBy}
use Rattle.std.specs.List.{AllByRecursion}
use Rattle.std.proofs.lemmas.Bool.{cases_Bool, false≢true, or_parts}
use Rattle.std.proofs.lemmas.List.Sorted.{IsPermutation-refl, IsPermutation-trans, IsPermutation-cons, IsPermutation-middle, IsPermutation-append_right}
use Rattle.op_model.specs.declared.base.Pair.{Pair}
use Rattle.op_model.specs.declared.base.Edge.{Edge}
use Rattle.op_model.specs.Edges.{same_pair, pair_before, put_edge, put_edges}
use Rattle.op_model.proofs.EdgeLemmas.{same_pair_self}
use Rattle.op_model.proofs.EdgeOrders.{sorted_same}
use Rattle.op_model.proofs.OrderLemmas.{Sorted, puts_sorted}
use Rattle.record_rows.proofs.DifferLemmas.{Differ, all_more, all_each, all_both}
use Rattle.edge_rows.proofs.EdgeLists.{known, known_put, same_eq, not_before, given}

-- the two are edges of two pairs
abbrev pub OtherPair : Edge → Edge → Type 0
OtherPair e f = same_pair e.pair f.pair ≡ false

pub sorted_differ : (fs : List Edge) → Sorted fs → Differ OtherPair fs
sorted_differ [] s = tt
sorted_differ (f ∷ fs) s = (all_more (λ g. pair_before f.pair g.pair ≡ true) (OtherPair f) fs (λ g h. (not_before f.pair g.pair h).1) s.0, sorted_differ fs s.1)

put_alike : (e : Edge) (fs : List Edge) → known fs e.pair ≡ false → IsPermutation (put_edge e fs) (e ∷ fs)
unfolding put_edge known
put_alike e [] h = IsPermutation-refl (e ∷ [])
put_alike e (f ∷ fs) h =
    let o = or_parts (same_pair f.pair e.pair) (known fs e.pair) h in
    go (same_pair f.pair e.pair) o.0 (pair_before e.pair f.pair) (put_alike e fs o.1)
  where
    go : (s : Bool) → s ≡ false → (t : Bool) → IsPermutation (put_edge e fs) (e ∷ fs) → IsPermutation (cond s (record f { active = e.active } ∷ fs) (cond t (e ∷ f ∷ fs) (f ∷ put_edge e fs))) (e ∷ f ∷ fs)
    go true q t p = absurd (false≢true (sym q))
    go false q true p = IsPermutation-refl (e ∷ f ∷ fs)
    go false q false p = IsPermutation-trans _ _ _ (IsPermutation-cons f _ _ p) (IsPermutation-middle (f ∷ []) e fs)

puts_alike : (es fs : List Edge) → Differ OtherPair es → AllByRecursion (λ e. known fs e.pair ≡ false) es → IsPermutation (put_edges es fs) (es ++ fs)
unfolding put_edges
puts_alike [] fs d u = IsPermutation-refl fs
puts_alike (e ∷ es) fs d u =
    let still : AllByRecursion (λ x. known (put_edge e fs) x.pair ≡ false) es =
    all_more (λ x. OtherPair e x × (known fs x.pair ≡ false)) (λ x. known (put_edge e fs) x.pair ≡ false) es
    (λ x k. known_put x.pair e fs ∙ ap₂ (λ s t. s || t) k.0 k.1)
    (all_both (OtherPair e) (λ x. known fs x.pair ≡ false) es d.0 u.1) in
    IsPermutation-trans _ _ _ (puts_alike es (put_edge e fs) d.1 still) (IsPermutation-trans _ _ _ (IsPermutation-append_right es _ _ (put_alike e fs u.0)) (IsPermutation-middle es e fs))

-- edges of pairs that differ, once they are sorted, are those of an ascending list that they were put into
pub sorted_puts : (es sorted : List Edge) → Differ OtherPair es → IsPermutation es sorted → IsSortedBy (λ (e : Edge) (f : Edge). pair_before e.pair f.pair) sorted → sorted ≡ put_edges es []
unfolding known
sorted_puts es sorted d p s =
    let alike : IsPermutation (put_edges es []) (es ++ []) = puts_alike es [] d (all_each (λ e. known [] e.pair ≡ false) es (λ e. refl)) in
    let turned : IsPermutation (put_edges es []) sorted = IsPermutation-trans _ _ _ (subst (IsPermutation (put_edges es [])) (append-nil es) alike) p in
    sorted_same (put_edges es []) sorted turned s (puts_sorted es [] tt)

-- a pair that is known is none that isn't
pub known_other : (fs : List Edge) (p q : Pair) → known fs p ≡ true → known fs q ≡ false → same_pair p q ≡ false
known_other fs p q k n = elim (cases_Bool (same_pair p q)) [
  | inl t ↦ absurd (false≢true (sym n ∙ (sym (ap (known fs) (same_eq p q t)) ∙ k)))
  | inr f ↦ f
]

puts_keep : (p : Pair) (es fs : List Edge) → known fs p ≡ true → known (put_edges es fs) p ≡ true
unfolding put_edges
puts_keep p [] fs k = k
puts_keep p (e ∷ es) fs k = puts_keep p es (put_edge e fs) (known_put p e fs ∙ (ap (λ t. same_pair e.pair p || t) k ∙ or_true (same_pair e.pair p)))
  where
    or_true : (t : Bool) → (t || true) ≡ true
    or_true true = refl
    or_true false = refl

-- the pairs of edges that were put in are known
pub puts_known : (es fs : List Edge) → AllByRecursion (λ e. known (put_edges es fs) e.pair ≡ true) es
unfolding put_edges
puts_known [] fs = tt
puts_known (e ∷ es) fs = (puts_keep e.pair es (put_edge e fs) (known_put e.pair e fs ∙ ap (λ t. t || known fs e.pair) (same_pair_self e.pair)), puts_known es (put_edge e fs))

-- states given anew leave the pairs as they are
pub known_given : (states : Pair → Bool) (p : Pair) (fs : List Edge) → known (map (given states) fs) p ≡ known fs p
unfolding known given
known_given states p [] = refl
known_given states p (f ∷ fs) = ap (λ t. same_pair f.pair p || t) (known_given states p fs)
