-- Children of different ids, sorted by ids and then by parents, stand in groups whose ids ascend.
use Rattle.std.proofs.Common.{◌≡◌, ℕ, zero, suc, ◌+◌, ◌<◌, ◌≤◌, Bool, true, false, cond, ◌&&◌, ◌||◌, eqb, List, [], ◌∷◌, length, map, get_or, refl, sym, ◌∙◌, ap, subst, inl, inr, arith, eq-eqb}
use Rattle.std.specs.List.{All, AllByRecursion, filter, flat_map, list_any, range_with_len}
use Rattle.std.specs.List.Sorted.{IsNonDecreasingBy}
use Rattle.std.proofs.lemmas.Bool.{cases_eq, eqb-true, ne_eqb, or_left, or_right, or_cases, false≢true}
use Rattle.std.proofs.lemmas.List.Elements.{recursion_from_All}
use Rattle.std.proofs.lemmas.List.Sorted.{All-permutation, list_any-IsPermutation}
use Rattle.graph_model.specs.Lists.{has}
use Rattle.op_model.specs.Valid.{IsAscending}
use Rattle.record_rows.proofs.DifferLemmas.{Differ, differ_filter}
use Rattle.octree_layers.proofs.Grouping.{grouped}
use Rattle.made_links.specs.declared.finding.Child.{Child}
use Rattle.made_links.specs.Orders.{AreSorted}

any_filter : {X : Type 0} (p t : X → Bool) (xs : List X) → list_any t (filter p xs) ≡ list_any (λ x. p x && t x) xs
any_filter p t [] = refl
any_filter {X} p t (x ∷ xs) = go (p x) (any_filter p t xs)
  where
    go : (k : Bool) → list_any t (filter p xs) ≡ list_any (λ x. p x && t x) xs → list_any t (cond k (x ∷ filter p xs) (filter p xs)) ≡ ((k && t x) || list_any (λ x. p x && t x) xs)
    go true ih = ap (λ h. t x || h) ih
    go false ih = ih

any_map : {X : Type 0} (f : X → ℕ) (x : ℕ) (xs : List X) → has (map f xs) x ≡ list_any (λ y. eqb (f y) x) xs
any_map f x [] = refl
any_map f x (y ∷ ys) = ap (λ h. eqb (f y) x || h) (any_map f x ys)

-- what passes is one of them
pub any_elim : {X : Type 0} (P : X → Type 0) (t : X → Bool) (xs : List X) → AllByRecursion P xs → list_any t xs ≡ true → (x : X) × P x × (t x ≡ true)
any_elim P t [] a h = absurd (false≢true h)
any_elim P t (x ∷ xs) a h = elim (or_cases (t x) (list_any t xs) h) [ inl e ↦ (x, a.0, e) | inr g ↦ any_elim P t xs a.1 g ]

-- one of them with this number passes
pub any_with : {X : Type 0} (f : X → ℕ) (t : X → Bool) (i : ℕ) (xs : List X) → AllByRecursion (λ x. f x ≡ i → t x ≡ true) xs → has (map f xs) i ≡ true → list_any t xs ≡ true
any_with f t i [] a h = absurd (false≢true h)
any_with f t i (x ∷ xs) a h = elim (or_cases (eqb (f x) i) (has (map f xs) i) h) [ inl e ↦ or_left (t x) _ (a.0 (eqb-true (f x) i e)) | inr g ↦ or_right (t x) _ (any_with f t i xs a.1 g) ]

none_kept : {X : Type 0} (t : X → Bool) (xs : List X) → AllByRecursion (λ x. t x ≡ false) xs → filter t xs ≡ []
none_kept t [] a = refl
none_kept t (x ∷ xs) a = rw a.0 (none_kept t xs a.1)

some_kept : {X : Type 0} (t : X → Bool) (xs : List X) (j : ℕ) (x : X) → j < length xs → t (get_or xs j x) ≡ true → 0 < length (filter t xs)
some_kept t [] j x l h = absurd (omega arith)
some_kept t (y ∷ ys) zero x l h = let e : length (filter t (y ∷ ys)) ≡ suc (length (filter t ys)) = ap (λ k. length (cond k (y ∷ filter t ys) (filter t ys))) h in omega (arith, e)
some_kept {X} t (y ∷ ys) (suc j) x l h = go (t y) (some_kept t ys j x (omega arith) h)
  where
    go : (k : Bool) → 0 < length (filter t ys) → 0 < length (cond k (y ∷ filter t ys) (filter t ys))
    go true ih = omega arith
    go false ih = ih

all_map_more : {X : Type 0} (P Q : X → Type 0) (xs : List X) → ((x : X) → P x → Q x) → AllByRecursion P xs → AllByRecursion Q xs
all_map_more P Q [] f a = tt
all_map_more P Q (x ∷ xs) f a = (f x a.0, all_map_more P Q xs f a.1)

once_each : (k : ℕ) (xs : List Child) → Differ (λ (c o : Child). c.id ≡ o.id → ⊥) xs → length (filter (λ (c : Child). eqb c.id k) xs) ≤ 1
once_each k [] a = omega arith
once_each k (c ∷ cs) a = go (eqb c.id k) refl (once_each k cs a.1)
  where
    go : (t : Bool) → eqb c.id k ≡ t → length (filter (λ (o : Child). eqb o.id k) cs) ≤ 1 → length (cond t (c ∷ filter (λ (o : Child). eqb o.id k) cs) (filter (λ (o : Child). eqb o.id k) cs)) ≤ 1
    go true e ih =
        let none : filter (λ (o : Child). eqb o.id k) cs ≡ [] =
        none_kept (λ (o : Child). eqb o.id k) cs (all_map_more (λ (o : Child). c.id ≡ o.id → ⊥) (λ (o : Child). eqb o.id k ≡ false) cs (λ o f. ne_eqb o.id k (λ q. f (eqb-true c.id k e ∙ sym q))) a.0) in
        let z : length (filter (λ (o : Child). eqb o.id k) cs) ≡ 0 = ap length none in
        omega (arith, z)
    go false e ih = ih

rises : (xs : List Child) → IsNonDecreasingBy (λ (c : Child). c.id) xs → ((k : ℕ) → length (filter (λ (c : Child). eqb c.id k) xs) ≤ 1) → Differ (λ (c o : Child). c.id < o.id) xs
rises [] r f = tt
rises (c ∷ cs) r f = (
  recursion_from_All (λ (o : Child). c.id < o.id) cs above,
  rises cs (λ i j x l m. r (suc i) (suc j) x (omega arith) (omega arith)) shorter,
)
  where
    t : ℕ → Child → Bool
    t k o = eqb o.id k

    full : length (filter (λ (o : Child). eqb o.id c.id) (c ∷ cs)) ≡ suc (length (filter (λ (o : Child). eqb o.id c.id) cs))
    full = ap (λ k. length (cond k (c ∷ filter (λ (o : Child). eqb o.id c.id) cs) (filter (λ (o : Child). eqb o.id c.id) cs))) (eq-eqb c.id c.id refl)

    above : All (λ (o : Child). c.id < o.id) cs
    above j x l =
        let le : c.id ≤ (get_or cs j x).id = r 0 (suc j) x (omega arith) (omega arith) in
        elim (cases_eq (get_or cs j x).id c.id) [
          | inl e ↦ absurd (let s = some_kept (λ (o : Child). eqb o.id c.id) cs j x l (eq-eqb _ _ e) in let q = f c.id in omega (arith, s, q, full))
          | inr n ↦ omega (arith, le, n)
        ]

    shorter : (k : ℕ) → length (filter (λ (o : Child). eqb o.id k) cs) ≤ 1
    shorter k = go (eqb c.id k) (f k)
      where
        go : (t : Bool) → length (cond t (c ∷ filter (λ (o : Child). eqb o.id k) cs) (filter (λ (o : Child). eqb o.id k) cs)) ≤ 1 → length (filter (λ (o : Child). eqb o.id k) cs) ≤ 1
        go true l = omega arith
        go false l = l

pub numbers_up : (xs : List ℕ) → Differ (λ x y. x < y) xs → IsAscending xs
numbers_up [] a = tt
numbers_up (x ∷ []) a = tt
numbers_up (x ∷ y ∷ ys) a = (a.0.0, numbers_up (y ∷ ys) a.1)

ids_up : (xs : List Child) → Differ (λ (c o : Child). c.id < o.id) xs → IsAscending (map (λ (c : Child). c.id) xs)
ids_up [] a = tt
ids_up (x ∷ []) a = tt
ids_up (x ∷ y ∷ ys) a = (a.0.0, ids_up (y ∷ ys) a.1)

range_above : (k a n : ℕ) → k < a → AllByRecursion (λ x. k < x) (range_with_len a n)
range_above k a zero l = tt
range_above k a (suc n) l = (l, range_above k (a + 1) n (omega arith))

pub range_differ : (a n : ℕ) → Differ (λ x y. x < y) (range_with_len a n)
range_differ a zero = tt
range_differ a (suc n) = (range_above a (a + 1) n (omega arith), range_differ (a + 1) n)

range_has : (a n i : ℕ) → a ≤ i → i < a + n → has (range_with_len a n) i ≡ true
range_has a zero i l m = absurd (omega arith)
range_has a (suc n) i l m = elim (cases_eq a i) [
  | inl e ↦ or_left (eqb a i) _ (eq-eqb a i e)
  | inr f ↦ or_right (eqb a i) _ (range_has (a + 1) n i (omega (arith, f)) (omega arith))
]

module _ (all mid ks : List Child) (one : AreSorted (λ c. c.id) all mid) (two : AreSorted (λ c. c.parent) mid ks) where
  abbrev pub group : ℕ → List Child
  group r = filter (λ (c : Child). eqb c.parent r) ks

  pub group_up : Differ (λ (c o : Child). c.id ≡ o.id → ⊥) all → (r : ℕ) → IsAscending (map (λ (c : Child). c.id) (group r))
  group_up differ r =
      let up = rises mid one.rising (λ k. subst (λ (xs : List Child). length xs ≤ 1) (sym (one.same k)) (once_each k all differ)) in
      subst (λ (xs : List Child). IsAscending (map (λ (c : Child). c.id) xs)) (sym (two.same r))
      (ids_up (filter (λ (c : Child). eqb c.parent r) mid) (differ_filter (λ (c : Child). eqb c.parent r) (λ (c o : Child). c.id < o.id) mid up))

  pub group_has : (r x : ℕ) → has (map (λ (c : Child). c.id) (group r)) x ≡ list_any (λ (c : Child). eqb c.parent r && eqb c.id x) all
  group_has r x =
      any_map (λ (c : Child). c.id) x (group r)
      ∙ (ap (list_any (λ (c : Child). eqb c.id x)) (two.same r)
      ∙ (any_filter (λ (c : Child). eqb c.parent r) (λ (c : Child). eqb c.id x) mid
      ∙ sym (list_any-IsPermutation (λ (c : Child). eqb c.parent r && eqb c.id x) all mid one.moved)))

  pub each_key : (P : Child → Type 0) → All P all → All P ks
  each_key P a = All-permutation P mid ks two.moved (All-permutation P all mid one.moved a)

  pub keys_are : (n : ℕ) → All (λ (c : Child). (0 < c.parent) × (c.parent ≤ n)) all → flat_map group (range_with_len 1 n) ≡ ks
  keys_are n a =
      grouped (λ (c : Child). c.parent) (range_with_len 1 n) (range_differ 1 n) ks two.rising
      (λ i x l. let p = each_key (λ (c : Child). (0 < c.parent) × (c.parent ≤ n)) a i x l in let low = p.0 in let high = p.1 in range_has 1 n (get_or ks i x).parent (omega (arith, low)) (omega (arith, high)))
