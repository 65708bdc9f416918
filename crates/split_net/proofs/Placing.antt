-- Places of ids among ascending leaves.
use Rattle.std.proofs.Common.{◌≡◌, ℕ, zero, suc, ◌+◌, ◌<◌, ◌≤◌, true, List, [], ◌∷◌, ◌++◌, length, map, take, get_or, Result, Ok, Err, refl, sym, ◌∙◌, ap, ap₂, subst, inl, inr, arith, nat_cmp}
use Rattle.std.specs.List.{AllByRecursion}
use Rattle.std.specs.List.Sorted.{IsBinarySearchResult}
use Rattle.std.proofs.lemmas.List.Sorted.{searched}
use Rattle.std.proofs.lemmas.Bool.{cases_lt}
use Rattle.graph_model.specs.Lists.{has}
use Rattle.op_model.specs.Valid.{IsAscending}
use Rattle.layer_laws.proofs.PlaceLemmas.{at_order, index_of, index_at}

-- an id that ascending leaves have is found by halving
pub found : (xs : List ℕ) (x : ℕ) → IsAscending xs → has xs x ≡ true → (r : Result ℕ ℕ) → IsBinarySearchResult (λ y. nat_cmp y x) xs r → (i : ℕ) × (r ≡ Ok i) × (i < length xs) × (get_or xs i 0 ≡ x)
found xs x a h (Ok i) s = let f = searched xs x (Ok i) s (λ i j l m. at_order xs i j a l m) in (i, refl, f.0, f.1)
found xs x a h (Err i) s =
    let f = searched xs x (Err i) s (λ i j l m. at_order xs i j a l m) in
    let p = index_at xs x h in
    let e = p.1 in
    elim (cases_lt (index_of xs x) i) [ inl l ↦ let q = f.1 (index_of xs x) l in absurd (omega arith) | inr l ↦ let q = f.2 (index_of xs x) l p.0 in absurd (omega arith) ]

-- what holds of all holds of the one at a place
pub all_at : {X : Type 0} (P : X → Type 0) (xs : List X) (i : ℕ) (x : X) → i < length xs → x ≡ get_or xs i x → AllByRecursion P xs → P x
all_at P [] i x l e a = absurd (omega arith)
all_at P (y ∷ ys) zero x l e a = subst P (sym e) a.0
all_at P (y ∷ ys) (suc i) x l e a = all_at P ys i x (omega arith) e a.1

-- one more of a list
pub take_next : {X : Type 0} (xs : List X) (i : ℕ) (x : X) → i < length xs → x ≡ get_or xs i x → take (i + 1) xs ≡ take i xs ++ x ∷ []
take_next {X = X} xs i x l e = subst (λ n. take n xs ≡ take i xs ++ x ∷ []) (add_one i) (go xs i l e)
  where
    add_one : (n : ℕ) → suc n ≡ n + 1
    add_one n = omega arith

    go : (ys : List X) (k : ℕ) → k < length ys → x ≡ get_or ys k x → take (suc k) ys ≡ take k ys ++ x ∷ []
    go [] k m q = absurd (omega arith)
    go (y ∷ ys) zero m q = ap (λ z. z ∷ []) (sym q)
    go (y ∷ ys) (suc k) m q = ap (λ zs. y ∷ zs) (go ys k (omega arith) q)

pub map_next : {X Y : Type 0} (f : X → Y) (xs : List X) (x : X) → map f (xs ++ x ∷ []) ≡ map f xs ++ f x ∷ []
map_next f [] x = refl
map_next f (y ∷ ys) x = ap (λ zs. f y ∷ zs) (map_next f ys x)

-- a list that is told by another grows by one that is told by the next
pub told_next : {X Y Z : Type 0} (f : X → Z) (g : Y → Z) (xs : List X) (ys : List Y) (i : ℕ) (x : X) (y : Y) → map f xs ≡ map g (take i ys) → f x ≡ g y → i < length ys → y ≡ get_or ys i y
    → map f (xs ++ x ∷ []) ≡ map g (take (i + 1) ys)
told_next f g xs ys i x y e q l s =
    map_next f xs x ∙ (ap₂ (λ us u. us ++ u ∷ []) e q ∙ (sym (map_next g (take i ys) y) ∙ ap (map g) (sym (take_next ys i y l s))))

map_self : {X : Type 0} (xs : List X) → map (λ x. x) xs ≡ xs
map_self [] = refl
map_self (x ∷ xs) = ap (λ ys. x ∷ ys) (map_self xs)

-- the same where they are told by themselves
pub named_next : {X : Type 0} (f : X → ℕ) (xs : List X) (ys : List ℕ) (i : ℕ) (x : X) (y : ℕ) → map f xs ≡ take i ys → f x ≡ y → i < length ys → y ≡ get_or ys i y → map f (xs ++ x ∷ []) ≡ take (i + 1) ys
named_next f xs ys i x y e q l s = map_next f xs x ∙ (ap₂ (λ us u. us ++ u ∷ []) e q ∙ sym (take_next ys i y l s))

pub take_whole : {X : Type 0} (xs : List X) (n : ℕ) → length xs ≤ n → take n xs ≡ xs
take_whole [] zero l = refl
take_whole [] (suc n) l = refl
take_whole (x ∷ xs) zero l = absurd (omega arith)
take_whole (x ∷ xs) (suc n) l = ap (λ ys. x ∷ ys) (take_whole xs n (omega arith))

pub all_next : {X : Type 0} (P : X → Type 0) (xs : List X) (x : X) → AllByRecursion P xs → P x → AllByRecursion P (xs ++ x ∷ [])
all_next P [] x a p = (p, tt)
all_next P (y ∷ ys) x a p = (a.0, all_next P ys x a.1 p)
