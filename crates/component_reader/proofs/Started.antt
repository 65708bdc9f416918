-- Edges that lead from the supervoxels of an ascending list, taken one supervoxel after the other.
use Rattle.std.proofs.Common.{◌≡◌, ℕ, ◌<◌, ◌≤◌, Bool, true, false, cond, ◌&&◌, ◌||◌, eqb, ltb, List, [], ◌∷◌, ◌++◌, refl, sym, ◌∙◌, ap, arith, inl, inr, eq-eqb}
use Rattle.std.specs.List.{AllByRecursion, filter}
use Rattle.std.proofs.lemmas.Bool.{false≢true, or_cases, or_parts, and_parts, eqb-true, ltb-true, ne_eqb}
use Rattle.op_model.specs.declared.base.Pair.{Pair}
use Rattle.op_model.specs.declared.base.Edge.{Edge}
use Rattle.op_model.specs.Edges.{pair_before}
use Rattle.graph_model.specs.Lists.{has}
use Rattle.op_model.proofs.OrderLemmas.{Sorted}
use Rattle.record_rows.specs.Walks.{is_end, edges_at}
use Rattle.record_rows.proofs.DifferLemmas.{all_more}
use Rattle.component_reader.specs.Among.{leads}
use Rattle.component_reader.specs.Taking.{starts}

and_none : (t : Bool) → (t && false) ≡ false
and_none true = refl
and_none false = refl

or_none : (t : Bool) → t ≡ (t || false)
or_none true = refl
or_none false = refl

-- a pair that is before another has no greater lesser end
before_low : (p q : Pair) → pair_before p q ≡ true → p.a ≤ q.a
unfolding pair_before
before_low p q h = elim (or_cases (ltb p.a q.a) (eqb p.a q.a && ltb p.b q.b) h) [
  | inl l ↦ let m = ltb-true p.a q.a l in omega arith
  | inr e ↦ let m = eqb-true p.a q.a (and_parts (eqb p.a q.a) (ltb p.b q.b) e).0 in omega arith
]

-- all of these are less than the number
abbrev pub Below : ℕ → List ℕ → Type 0
Below v xs = AllByRecursion (λ x. x < v) xs

has_below : (v : ℕ) (xs : List ℕ) (y : ℕ) → Below v xs → v ≤ y → has xs y ≡ false
has_below v [] y a l = refl
has_below v (x ∷ xs) y a l =
    let n : eqb x y ≡ false = ne_eqb x y (λ e. absurd (let m : x ≡ y = e in let b : x < v = a.0 in omega arith)) in
    rw n (has_below v xs y a.1 l)

has_back : (xs : List ℕ) (v y : ℕ) → has (xs ++ v ∷ []) y ≡ (has xs y || eqb v y)
has_back [] v y = sym (or_none (eqb v y))
has_back (x ∷ xs) v y = ap (λ t. eqb x y || t) (has_back xs v y) ∙ go (eqb x y)
  where
    go : (t : Bool) → (t || (has xs y || eqb v y)) ≡ ((t || has xs y) || eqb v y)
    go true = refl
    go false = refl

-- none of these edges leads from supervoxels that are all less than their lesser ends
none_leads : (to vs : List ℕ) (v : ℕ) (es : List Edge) → Below v vs → AllByRecursion (λ e. v ≤ e.pair.a) es → filter (leads vs to) es ≡ []
unfolding leads
none_leads to vs v [] b a = refl
none_leads to vs v (e ∷ es) b a =
    let n : has vs e.pair.a ≡ false = has_below v vs e.pair.a b a.0 in
    rw (n, and_none e.active) (none_leads to vs v es b a.1)

-- the edges from one more supervoxel, which is greater than all before it, come behind theirs
pub leads_more : (to vs : List ℕ) (v : ℕ) (es : List Edge) → Sorted es → Below v vs → filter (leads vs to) es ++ filter (starts to v) es ≡ filter (leads (vs ++ v ∷ []) to) es
unfolding leads starts
leads_more to vs v [] s b = refl
leads_more to vs v (e ∷ es) s b =
    go (has vs e.pair.a) refl (eqb v e.pair.a) refl e.active (has to e.pair.b) (leads_more to vs v es s.1 b)
    ∙ sym (ap (λ t. cond ((e.active && t) && has to e.pair.b) (e ∷ whole) whole) (has_back vs v e.pair.a))
  where
    front : List Edge
    front = filter (leads vs to) es

    own : List Edge
    own = filter (starts to v) es

    whole : List Edge
    whole = filter (leads (vs ++ v ∷ []) to) es

    go : (p : Bool) → has vs e.pair.a ≡ p → (q : Bool) → eqb v e.pair.a ≡ q → (t u : Bool) → front ++ own ≡ whole
        → cond ((t && p) && u) (e ∷ front) front ++ cond ((t && q) && u) (e ∷ own) own ≡ cond ((t && (p || q)) && u) (e ∷ whole) whole
    go true h true g t u ih = absurd (let m = eqb-true v e.pair.a g in false≢true (sym (has_below v vs e.pair.a b (omega arith)) ∙ h))
    go true h false g true true ih = ap (λ xs. e ∷ xs) ih
    go true h false g true false ih = ih
    go true h false g false u ih = ih
    go false h true g true true ih =
        let later : AllByRecursion (λ f. v ≤ f.pair.a) es =
        all_more (λ f. pair_before e.pair f.pair ≡ true) (λ f. v ≤ f.pair.a) es (λ f k. let m = before_low e.pair f.pair k in let q = eqb-true v e.pair.a g in omega arith) s.0 in
        let n : front ≡ [] = none_leads to vs v es b later in
        ap (λ xs. xs ++ e ∷ own) n ∙ ap (λ xs. e ∷ xs) (sym (ap (λ xs. xs ++ own) n) ∙ ih)
    go false h true g true false ih = ih
    go false h true g false u ih = ih
    go false h false g true u ih = ih
    go false h false g false u ih = ih

-- no edge leads from none
pub leads_none : (to : List ℕ) (es : List Edge) → filter (leads [] to) es ≡ []
unfolding leads
leads_none to [] = refl
leads_none to (e ∷ es) = rw (and_none e.active) (leads_none to es)

-- those that start at a supervoxel are among its own
pub own_starts : (to : List ℕ) (v : ℕ) (es : List Edge) → filter (starts to v) (edges_at es v) ≡ filter (starts to v) es
unfolding starts edges_at is_end
own_starts to v [] = refl
own_starts to v (e ∷ es) = go (eqb e.pair.a v || eqb e.pair.b v) refl (own_starts to v es)
  where
    own : List Edge
    own = filter (starts to v) es

    go : (t : Bool) → (eqb e.pair.a v || eqb e.pair.b v) ≡ t → filter (starts to v) (edges_at es v) ≡ own
        → filter (starts to v) (cond t (e ∷ edges_at es v) (edges_at es v)) ≡ cond ((e.active && eqb v e.pair.a) && has to e.pair.b) (e ∷ own) own
    go true h ih = ap (λ xs. cond ((e.active && eqb v e.pair.a) && has to e.pair.b) (e ∷ xs) xs) ih
    go false h ih =
        let n : eqb v e.pair.a ≡ false = ne_eqb v e.pair.a (λ q. absurd (false≢true (sym (or_parts _ _ h).0 ∙ eq-eqb e.pair.a v (sym q)))) in
        rw (n, and_none e.active) ih
