-- What is kept of a list that grows: as many as are allowed.
use Rattle.std.proofs.Common.{◌≡◌, ℕ, zero, suc, ◌+◌, ◌<◌, ◌≤◌, Bool, true, false, cond, List, [], ◌∷◌, ◌++◌, length, take, get_or, refl, sym, ◌∙◌, ap, arith}
use Rattle.std.specs.List.{filter}

-- a list that has as many as are allowed keeps no more
pub keep_none : {X : Type 0} (most : ℕ) (xs : List X) (x : X) → most ≤ length (take most xs) → take most (xs ++ x ∷ []) ≡ take most xs
keep_none zero xs x h = refl
keep_none (suc most) [] x h = absurd (omega arith)
keep_none (suc most) (y ∷ xs) x h = ap (λ ys. y ∷ ys) (keep_none most xs x (omega arith))

-- another one keeps all, and one more
pub keep_more : {X : Type 0} (most : ℕ) (xs : List X) (x : X) → length (take most xs) < most → take most (xs ++ x ∷ []) ≡ take most xs ++ x ∷ []
keep_more zero xs x h = absurd (omega arith)
keep_more (suc zero) [] x h = refl
keep_more (suc (suc most)) [] x h = refl
keep_more (suc most) (y ∷ xs) x h = ap (λ ys. y ∷ ys) (keep_more most xs x (omega arith))

pub keep_all : {X : Type 0} (most : ℕ) (xs : List X) → length xs ≤ most → take most xs ≡ xs
keep_all zero [] h = refl
keep_all (suc most) [] h = refl
keep_all zero (x ∷ xs) h = absurd (omega arith)
keep_all (suc most) (x ∷ xs) h = ap (λ ys. x ∷ ys) (keep_all most xs (omega arith))

-- those that a test keeps of one more item
pub filter_more : {X : Type 0} (test : X → Bool) (xs : List X) (k : ℕ) (x : X) → k < length xs → x ≡ get_or xs k x → filter test (take (k + 1) xs) ≡ filter test (take k xs) ++ cond (test x) (x ∷ []) []
filter_more {X = X} test xs k x l q = let e : k + 1 ≡ suc k = omega arith in ap (λ n. filter test (take n xs)) e ∙ go xs k l q
  where
    front : (t : Bool) (y : X) (more all : List X) → all ≡ more ++ cond (test x) (x ∷ []) [] → cond t (y ∷ all) all ≡ cond t (y ∷ more) more ++ cond (test x) (x ∷ []) []
    front true y more all h = ap (λ zs. y ∷ zs) h
    front false y more all h = h

    go : (ys : List X) (j : ℕ) → j < length ys → x ≡ get_or ys j x → filter test (take (suc j) ys) ≡ filter test (take j ys) ++ cond (test x) (x ∷ []) []
    go [] j l q = absurd (omega arith)
    go (y ∷ ys) zero l q = ap (λ z. cond (test z) (z ∷ []) []) (sym q)
    go (y ∷ ys) (suc j) l q = front (test y) y (filter test (take j ys)) (filter test (take (suc j) ys)) (go ys j (omega arith) q)

pub filter_few : {X : Type 0} (test : X → Bool) (xs : List X) → length (filter test xs) ≤ length xs
filter_few test [] = omega arith
filter_few {X = X} test (x ∷ xs) = go (test x) (filter_few test xs)
  where
    go : (t : Bool) → length (filter test xs) ≤ length xs → length (cond t (x ∷ filter test xs) (filter test xs)) ≤ length (x ∷ xs)
    go true h = omega arith
    go false h = omega (arith, h)

pub take_none : {X : Type 0} (n : ℕ) (xs : List X) → xs ≡ [] → take n xs ≡ []
take_none n (x ∷ xs) e = cc
take_none zero [] e = refl
take_none (suc n) [] e = refl
