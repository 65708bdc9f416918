-- One step of each loop over the nodes of a layer.
use Rattle.std.proofs.Common.{◌≡◌, ℕ, zero, suc, ◌+◌, ◌-◌, ◌*◌, ◌%◌, ◌^◌, ◌<◌, ◌≤◌, Bool, true, false, cond, not, ◌&&◌, eqb, leb, List, [], ◌∷◌, ◌++◌, length, map, drop, get_or, Some, None, refl, sym, ◌∙◌, ap, arith, add-one, append-nil, append_assoc}
use Rattle.std.proofs.Common.{is_lt, nat_cmp}
use Rattle.std.specs.List.{filter, range_with_len}
use Rattle.std.proofs.Math.Pow.{pow_mono}
use Rattle.std.proofs.Math.Nat.{mod-eq_of_lt}
use Rattle.std.proofs.lemmas.Nat.{pow_pos}
use Rattle.std.proofs.lemmas.List.{at_drop_more, map-append}
use Rattle.std.proofs.lemmas.List.Elements.{filter-append}
use Rattle.op_model.specs.declared.base.Dataset.{Dataset}
use Rattle.op_model.specs.declared.base.Base.{Base}
use Rattle.octree_layers.specs.declared.numbering.Owner.{Owner}
use Rattle.octree_layers.specs.declared.numbering.Made.{Made}
use Rattle.octree_layers.specs.Numbers.{owner, owner_at, number_behind, numbered, overflow}

pub over_more : (limit last label : ℕ) (os : List Owner) (i : ℕ) (o : Owner) (n : ℕ) → i < length os → o ≡ get_or os i o → n ≡ number_behind last label o.chunk
    → overflow limit last label (drop i os) ≡ cond (leb limit n) (Some o.chunk) (overflow limit o.chunk n (drop (i + 1) os))
unfolding overflow
over_more limit last label os i o n l is e =
    at_drop_more (overflow limit last label) os i o l
    ∙ (ap (λ (x : Owner). overflow limit last label (x ∷ drop (i + 1) os)) (sym is)
    ∙ ap (λ k. cond (leb limit k) (Some o.chunk) (overflow limit o.chunk k (drop (i + 1) os))) (sym e))

pub num_more : (last label : ℕ) (os : List Owner) (i : ℕ) (o : Owner) (n : ℕ) → i < length os → o ≡ get_or os i o → n ≡ number_behind last label o.chunk
    → numbered last label (drop i os) ≡ record { id = o.chunk + n; chunk = o.chunk; least = o.least } ∷ numbered o.chunk n (drop (i + 1) os)
unfolding numbered
num_more last label os i o n l is e =
    at_drop_more (numbered last label) os i o l
    ∙ (ap (λ (x : Owner). numbered last label (x ∷ drop (i + 1) os)) (sym is)
    ∙ ap (λ k. let m : Made = record { id = o.chunk + k; chunk = o.chunk; least = o.least } in m ∷ numbered o.chunk k (drop (i + 1) os)) (sym e))

pub num_step : (last label : ℕ) (os : List Owner) (i : ℕ) (o : Owner) (n x : ℕ) (done more whole : List Made) → i < length os → o ≡ get_or os i o → n ≡ number_behind last label o.chunk → x ≡ o.chunk + n
    → done ++ numbered last label (drop i os) ≡ whole → more ≡ done ++ record { id = x; chunk = o.chunk; least = o.least } ∷ []
    → more ++ numbered o.chunk n (drop (i + 1) os) ≡ whole
num_step last label os i o n x done more whole l is e id p m =
    let made : Made = record { id = o.chunk + n; chunk = o.chunk; least = o.least } in
    ap (λ ms. ms ++ numbered o.chunk n (drop (i + 1) os)) (m ∙ ap (λ k. let made : Made = record { id = k; chunk = o.chunk; least = o.least } in done ++ made ∷ []) id)
    ∙ (append_assoc done (made ∷ []) (numbered o.chunk n (drop (i + 1) os))
    ∙ (ap (λ ms. done ++ ms) (sym (num_more last label os i o n l is e)) ∙ p))

pub none_left : {X : Type 0} (xs : List X) (i : ℕ) → length xs ≤ i → drop i xs ≡ []
none_left [] zero l = refl
none_left [] (suc i) l = refl
none_left (x ∷ xs) zero l = absurd (omega arith)
none_left (x ∷ xs) (suc i) l = none_left xs i (omega arith)

pub num_end : (last label : ℕ) (os : List Owner) (i : ℕ) (done whole : List Made) → length os ≤ i → done ++ numbered last label (drop i os) ≡ whole → done ≡ whole
unfolding numbered
num_end last label os i done whole l p = sym (append-nil done) ∙ (ap (λ xs. done ++ numbered last label xs) (sym (none_left os i l)) ∙ p)

pub over_end : (limit last label : ℕ) (os : List Owner) (i : ℕ) → length os ≤ i → overflow limit last label (drop i os) ≡ None
unfolding overflow
over_end limit last label os i l = ap (overflow limit last label) (none_left os i l)

pub behind_low : (last label c n i : ℕ) → n ≡ number_behind last label c → label ≤ i → n ≤ i + 1
behind_low last label c n i e l = go (eqb c last) e
  where
    go : (k : Bool) → n ≡ cond k (label + 1) 1 → n ≤ i + 1
    go true h = omega arith
    go false h = omega arith

range_longer : (a n : ℕ) → range_with_len a (suc n) ≡ range_with_len a n ++ (a + n) ∷ []
range_longer a zero = ap (λ k. k ∷ []) (let e : a ≡ a + zero = omega arith in e)
range_longer a (suc n) = ap (λ ks. a ∷ ks) (range_longer (a + 1) n ∙ ap (λ k. range_with_len (a + 1) n ++ k ∷ []) (let e : a + 1 + n ≡ a + suc n = omega arith in e))

pub range_more : (n : ℕ) → range_with_len 0 (n + 1) ≡ range_with_len 0 n ++ n ∷ []
range_more n = rw add-one (range_longer 0 n ∙ ap (λ k. range_with_len 0 n ++ k ∷ []) (let e : 0 + n ≡ n = omega arith in e))

pub owners_more : (d : Dataset) (b : Base) (layer : ℕ) (firsts : List ℕ) (i : ℕ) (done more : List Owner)
    → done ≡ map (owner d b layer) (filter (λ k. eqb (get_or firsts k 0) k) (range_with_len 0 i)) → more ≡ done ++ owner_at d b layer firsts i
    → more ≡ map (owner d b layer) (filter (λ k. eqb (get_or firsts k 0) k) (range_with_len 0 (i + 1)))
owners_more d b layer firsts i done more p m =
    m ∙ (ap (λ os. os ++ owner_at d b layer firsts i) p
    ∙ (ap (λ os. map f (filter t (range_with_len 0 i)) ++ os) (one (t i))
    ∙ (sym (map-append f (filter t (range_with_len 0 i)) (filter t (i ∷ [])))
    ∙ ap (map f) (sym (filter-append t (range_with_len 0 i) (i ∷ [])) ∙ ap (filter t) (sym (range_more i))))))
  where
    f : ℕ → Owner
    f = owner d b layer

    t : ℕ → Bool
    t k = eqb (get_or firsts k 0) k

    one : (k : Bool) → cond k (f i ∷ []) [] ≡ map f (cond k (i ∷ []) [])
    one true = refl
    one false = refl

-- a stable sort by a number leaves those of each number as they stood
pub kept_order : {X : Type 0} (n : X → ℕ) (make : ℕ → X) → ((c : ℕ) → n (make c) ≡ c) → (old new : List X)
    → ((x : X) → filter (λ y. not (is_lt (nat_cmp (n x) (n y))) && not (is_lt (nat_cmp (n y) (n x)))) new ≡ filter (λ y. not (is_lt (nat_cmp (n x) (n y))) && not (is_lt (nat_cmp (n y) (n x)))) old)
    → (c : ℕ) → filter (λ x. eqb (n x) c) new ≡ filter (λ x. eqb (n x) c) old
kept_order n make made old new f c =
    let same : (λ y. eqb (n y) c) ≡ (λ y. not (is_lt (nat_cmp (n (make c)) (n y))) && not (is_lt (nat_cmp (n y) (n (make c))))) = λ i y. tie (n (make c)) (n y) (made c) i in
    ap (λ t. filter t new) same ∙ (f (make c) ∙ ap (λ t. filter t old) (sym same))
  where
    tie : (k y : ℕ) → k ≡ c → eqb y c ≡ (not (is_lt (nat_cmp k y)) && not (is_lt (nat_cmp y k)))
    tie k y e = grind arith

pub power_range : (w : ℕ) → 1 ≤ w → (1 ≤ 1 * 2 ^ (56 - 3 * w) % 18446744073709551616) × (1 * 2 ^ (56 - 3 * w) % 18446744073709551616 ≤ 72057594037927936)
power_range w h =
    let k : 56 - 3 * w ≤ 56 = omega arith in
    let m : 2 ^ (56 - 3 * w) ≤ 2 ^ 56 = pow_mono k in
    let p : 0 < 2 ^ (56 - 3 * w) = pow_pos (56 - 3 * w) in
    let e : 1 * 2 ^ (56 - 3 * w) % 18446744073709551616 ≡ 1 * 2 ^ (56 - 3 * w) = mod-eq_of_lt (omega arith) in
    (omega (arith, e), omega (arith, e))
