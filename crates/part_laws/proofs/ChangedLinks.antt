-- Which pairs are active once some have changed.
use Rattle.std.proofs.Common.{◌≡◌, ℕ, Bool, true, false, cond, not, ◌&&◌, ◌||◌, eqb, ltb, List, [], ◌∷◌, ◌++◌, map, refl, sym, ◌∙◌, ap, subst, arith, eq-eqb, inl, inr}
use Rattle.std.specs.List.{AllByRecursion, filter, list_any}
use Rattle.std.proofs.lemmas.Bool.{and_parts, and_from, eqb-true, false_from_ne_true, ltb-true, or_cases, or_parts}
use Rattle.op_model.specs.declared.base.Pair.{Pair}
use Rattle.op_model.specs.declared.base.Weight.TheVariants.{Affinity}
use Rattle.op_model.specs.declared.base.Edge.{Edge}
use Rattle.op_model.specs.declared.entry.Changed.{Changed}
use Rattle.graph_model.proofs.ListLemmas.{same_bool}
use Rattle.op_model.specs.Cuts.{PairsAscend}
use Rattle.op_model.specs.Edges.{pair_before, put_changed, put_edge, same_pair}
use Rattle.op_model.specs.Valid.{PairsDiffer}
use Rattle.op_model.proofs.OrderLemmas.{After, Sorted, before_trans, put_sorted}
use Rattle.part_laws.specs.Touched.{active_edge, changes}

same_back : (p q : Pair) → same_pair p q ≡ true → same_pair q p ≡ true
unfolding same_pair
same_back p q h =
    let s = and_parts (eqb p.a q.a) (eqb p.b q.b) h in
    and_from _ _ (eq-eqb q.a p.a (sym (eqb-true p.a q.a s.0))) (eq-eqb q.b p.b (sym (eqb-true p.b q.b s.1)))

pub same_swap : (p q : Pair) → same_pair p q ≡ same_pair q p
same_swap p q = same_bool (same_pair p q) (same_pair q p) (same_back p q) (same_back q p)

pub same_is : (p q : Pair) → same_pair p q ≡ true → p ≡ q
unfolding same_pair
same_is p q h =
    let s = and_parts (eqb p.a q.a) (eqb p.b q.b) h in
    let x : p.a ≡ q.a = eqb-true p.a q.a s.0 in
    let y : p.b ≡ q.b = eqb-true p.b q.b s.1 in
    λ i. record { a = x i; b = y i }

pub before_apart : (p q : Pair) → pair_before p q ≡ true → same_pair q p ≡ false
unfolding pair_before same_pair
before_apart p q h = false_from_ne_true _ (λ k.
    let s = and_parts (eqb q.a p.a) (eqb q.b p.b) k in
    let x : q.a ≡ p.a = eqb-true q.a p.a s.0 in
    let y : q.b ≡ p.b = eqb-true q.b p.b s.1 in
    elim (or_cases (ltb p.a q.a) (eqb p.a q.a && ltb p.b q.b) h) [
      | inl l ↦ let m = ltb-true p.a q.a l in omega (arith, m, x)
      | inr e ↦ let m = ltb-true p.b q.b (and_parts (eqb p.a q.a) (ltb p.b q.b) e).1 in omega (arith, m, y)
    ])

or_swap : (a b c : Bool) → (a || (b || c)) ≡ (b || (a || c))
or_swap true true c = refl
or_swap true false c = refl
or_swap false true c = refl
or_swap false false c = refl

or_group : (a b c : Bool) → (a || (b || c)) ≡ ((b || a) || c)
or_group true true c = refl
or_group true false c = refl
or_group false true c = refl
or_group false false c = refl

not_or : (a b c : Bool) → (not a && (not b && c)) ≡ (not (a || b) && c)
not_or true b c = refl
not_or false b c = refl

any_same : {X : Type 0} (s t : X → Bool) (xs : List X) → ((x : X) → s x ≡ t x) → list_any s xs ≡ list_any t xs
any_same s t xs h = λ i. list_any (λ x. h x i) xs

-- what edges after the pair say isn't changed by leaving the pair out
any_apart : (T : Pair → Bool → Bool) (p : Pair) (fs : List Edge) → After p fs → list_any (λ f. not (same_pair f.pair p) && T f.pair f.active) fs ≡ list_any (λ f. T f.pair f.active) fs
any_apart T p [] a = refl
any_apart T p (f ∷ fs) a =
    ap (λ k. (not k && T f.pair f.active) || list_any (λ g. not (same_pair g.pair p) && T g.pair g.active) fs) (before_apart p f.pair a.0)
    ∙ ap (λ k. T f.pair f.active || k) (any_apart T p fs a.1)

after_more : (p q : Pair) (fs : List Edge) → pair_before p q ≡ true → After q fs → After p fs
after_more p q [] h a = tt
after_more p q (f ∷ fs) h a = (before_trans p q f.pair h a.0, after_more p q fs h a.1)

-- an edge that is put into others takes the place of the one of its pair
any_put : (T : Pair → Bool → Bool) (e : Edge) (fs : List Edge) → Sorted fs
    → list_any (λ f. T f.pair f.active) (put_edge e fs) ≡ (T e.pair e.active || list_any (λ f. not (same_pair f.pair e.pair) && T f.pair f.active) fs)
unfolding put_edge
any_put T e [] a = refl
any_put T e (f ∷ fs) a = go (same_pair f.pair e.pair) refl (pair_before e.pair f.pair) refl (any_put T e fs a.1)
  where
    left : Edge → Bool
    left g = not (same_pair g.pair e.pair) && T g.pair g.active

    go : (s : Bool) → same_pair f.pair e.pair ≡ s → (t : Bool) → pair_before e.pair f.pair ≡ t
        → list_any (λ g. T g.pair g.active) (put_edge e fs) ≡ (T e.pair e.active || list_any (λ g. not (same_pair g.pair e.pair) && T g.pair g.active) fs)
        → list_any (λ g. T g.pair g.active) (cond s (record f { active = e.active } ∷ fs) (cond t (e ∷ f ∷ fs) (f ∷ put_edge e fs)))
        ≡ (T e.pair e.active || ((not s && T f.pair f.active) || list_any (λ g. not (same_pair g.pair e.pair) && T g.pair g.active) fs))
    go true q t r ih =
        let same : f.pair ≡ e.pair = same_is f.pair e.pair q in
        ap (λ p. T p e.active || list_any (λ g. T g.pair g.active) fs) same
        ∙ ap (λ k. T e.pair e.active || k) (sym (any_apart T e.pair fs (subst (λ p. After p fs) same a.0)))
    go false q true r ih =
        ap (λ k. T e.pair e.active || (T f.pair f.active || k)) (sym (any_apart T e.pair fs (after_more e.pair f.pair fs r a.0)))
    go false q false r ih =
        ap (λ k. T f.pair f.active || k) ih ∙ or_swap (T f.pair f.active) (T e.pair e.active) (list_any (λ g. not (same_pair g.pair e.pair) && T g.pair g.active) fs)

-- each changed pair once
abbrev pub ChangesDiffer : List Changed → Type 0
ChangesDiffer [] = Unit {0}
ChangesDiffer (c ∷ cs) = (changes cs c.pair ≡ false) × ChangesDiffer cs

-- what holds of some edge once the pairs have changed
pub any_changed : (T : Pair → Bool → Bool) (affinity : ℕ) (cs : List Changed) (fs : List Edge) → Sorted fs → ChangesDiffer cs
    → list_any (λ f. T f.pair f.active) (put_changed affinity cs fs) ≡ (list_any (λ c. T c.pair c.active) cs || list_any (λ f. not (changes cs f.pair) && T f.pair f.active) fs)
unfolding put_changed changes
any_changed T affinity [] fs a differ = refl
any_changed T affinity (c ∷ cs) fs a differ =
    let e : Edge = record { pair = c.pair; weight = Affinity affinity; active = c.active } in
    let S : Pair → Bool → Bool = λ p k. not (changes cs p) && T p k in
    let rest : Bool = list_any (λ f. not (same_pair f.pair c.pair) && S f.pair f.active) fs in
    any_changed T affinity cs (put_edge e fs) (put_sorted e fs a) differ.1
    ∙ (ap (λ k. list_any (λ x. T x.pair x.active) cs || k) (any_put S e fs a ∙ ap (λ k. (not k && T c.pair c.active) || rest) differ.0)
    ∙ (or_group (list_any (λ x. T x.pair x.active) cs) (T c.pair c.active) rest
    ∙ ap (λ k. (T c.pair c.active || list_any (λ x. T x.pair x.active) cs) || k)
    (any_same (λ f. not (same_pair f.pair c.pair) && S f.pair f.active) (λ f. not (same_pair c.pair f.pair || changes cs f.pair) && T f.pair f.active) fs
    (λ f. ap (λ k. not k && S f.pair f.active) (same_swap f.pair c.pair) ∙ not_or (same_pair c.pair f.pair) (changes cs f.pair) (T f.pair f.active)))))

ascend_tail : (p : Pair) (cs : List Changed) → PairsAscend (p ∷ map (λ c. c.pair) cs) → PairsAscend (map (λ c. c.pair) cs)
ascend_tail p [] a = tt
ascend_tail p (c ∷ cs) a = a.1

ascend_apart : (p q : Pair) (cs : List Changed) → (pair_before p q ≡ true) → PairsAscend (q ∷ map (λ c. c.pair) cs) → changes cs p ≡ false
unfolding changes
ascend_apart p q [] h a = refl
ascend_apart p q (c ∷ cs) h a =
    let k : pair_before p c.pair ≡ true = before_trans p q c.pair h a.0 in
    ap (λ x. x || list_any (λ f. same_pair f.pair p) cs) (before_apart p c.pair k) ∙ ascend_apart p c.pair cs k a.1

first_apart : (p : Pair) (cs : List Changed) → PairsAscend (p ∷ map (λ c. c.pair) cs) → changes cs p ≡ false
unfolding changes
first_apart p [] a = refl
first_apart p (c ∷ cs) a = ap (λ x. x || list_any (λ f. same_pair f.pair p) cs) (before_apart p c.pair a.0) ∙ ascend_apart p c.pair cs a.0 a.1

pub ascend_differ : (cs : List Changed) → PairsAscend (map (λ c. c.pair) cs) → ChangesDiffer cs
ascend_differ [] a = tt
ascend_differ (c ∷ cs) a = (first_apart c.pair cs a, ascend_differ cs (ascend_tail c.pair cs a))

sorted_apart : (p : Pair) (fs : List Edge) → After p fs → list_any (λ f. same_pair f.pair p) fs ≡ false
sorted_apart p [] a = refl
sorted_apart p (f ∷ fs) a = ap (λ x. x || list_any (λ g. same_pair g.pair p) fs) (before_apart p f.pair a.0) ∙ sorted_apart p fs a.1

pub sorted_differ : (fs : List Edge) → Sorted fs → PairsDiffer fs
sorted_differ [] a = tt
sorted_differ (f ∷ fs) a = (sorted_apart f.pair fs a.0, sorted_differ fs a.1)

after_bonds : (affinity : ℕ) (p : Pair) (fs : List Edge) → After p fs → After p (map (λ f. active_edge affinity f.pair) fs)
after_bonds affinity p [] a = tt
after_bonds affinity p (f ∷ fs) a = (a.0, after_bonds affinity p fs a.1)

pub sorted_bonds : (affinity : ℕ) (fs : List Edge) → Sorted fs → Sorted (map (λ f. active_edge affinity f.pair) fs)
sorted_bonds affinity [] a = tt
sorted_bonds affinity (f ∷ fs) a = (after_bonds affinity f.pair fs a.0, sorted_bonds affinity fs a.1)

-- a pair that isn't changed isn't one of those that become active
pub gained_apart : (affinity : ℕ) (p : Pair) (cs : List Changed) → changes cs p ≡ false → list_any (λ f. same_pair f.pair p) (map (λ c. active_edge affinity c.pair) (filter (λ c. c.active) cs)) ≡ false
unfolding changes
gained_apart affinity p [] h = refl
gained_apart affinity p (c ∷ cs) h = go c.active (gained_apart affinity p cs s.1)
  where
    s : (same_pair c.pair p ≡ false) × (list_any (λ f. same_pair f.pair p) cs ≡ false)
    s = or_parts (same_pair c.pair p) (list_any (λ f. same_pair f.pair p) cs) h

    go : (k : Bool) → list_any (λ f. same_pair f.pair p) (map (λ x. active_edge affinity x.pair) (filter (λ x. x.active) cs)) ≡ false
        → list_any (λ f. same_pair f.pair p) (map (λ x. active_edge affinity x.pair) (cond k (c ∷ filter (λ x. x.active) cs) (filter (λ x. x.active) cs))) ≡ false
    go true ih = ap (λ x. x || list_any (λ f. same_pair f.pair p) (map (λ y. active_edge affinity y.pair) (filter (λ y. y.active) cs))) s.0 ∙ ih
    go false ih = ih

pub gained_differ : (affinity : ℕ) (cs : List Changed) → ChangesDiffer cs → PairsDiffer (map (λ c. active_edge affinity c.pair) (filter (λ c. c.active) cs))
gained_differ affinity [] a = tt
gained_differ affinity (c ∷ cs) a = go c.active (gained_differ affinity cs a.1)
  where
    go : (k : Bool) → PairsDiffer (map (λ x. active_edge affinity x.pair) (filter (λ x. x.active) cs))
        → PairsDiffer (map (λ x. active_edge affinity x.pair) (cond k (c ∷ filter (λ x. x.active) cs) (filter (λ x. x.active) cs)))
    go true ih = (gained_apart affinity c.pair cs a.0, ih)
    go false ih = ih

pub differ_append : (xs ys : List Edge) → PairsDiffer xs → PairsDiffer ys → AllByRecursion (λ x. list_any (λ f. same_pair f.pair x.pair) ys ≡ false) xs → PairsDiffer (xs ++ ys)
differ_append [] ys a c h = c
differ_append (x ∷ xs) ys a c h = (first xs a.0, differ_append xs ys a.1 c h.1)
  where
    first : (zs : List Edge) → list_any (λ f. same_pair f.pair x.pair) zs ≡ false → list_any (λ f. same_pair f.pair x.pair) (zs ++ ys) ≡ false
    first [] e = h.0
    first (z ∷ zs) e =
        let s = or_parts (same_pair z.pair x.pair) (list_any (λ f. same_pair f.pair x.pair) zs) e in
        ap (λ k. k || list_any (λ f. same_pair f.pair x.pair) (zs ++ ys)) s.0 ∙ first zs s.1
