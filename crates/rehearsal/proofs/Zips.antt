-- Two lists whose items go together.
use Rattle.std.proofs.Common.{◌≡◌, ℕ, suc, List, [], ◌∷◌, length, map, Some, refl, ap, arith}
use Rattle.std.specs.Prelude.{slice_get}

-- this holds of each pair of items at one place, and the lists are of one length
abbrev pub ZipAll : {A B : Type 0} → (A → B → Type 0) → List A → List B → Type 0
ZipAll P [] [] = Unit {0}
ZipAll P [] (y ∷ ys) = ⊥
ZipAll P (x ∷ xs) [] = ⊥
ZipAll P (x ∷ xs) (y ∷ ys) = P x y × ZipAll P xs ys

pub zip_each : {A B : Type 0} (P : A → B → Type 0) (xs : List A) (ys : List B) → length xs ≡ length ys
    → ((k : ℕ) (x : A) (y : B) → slice_get xs k ≡ Some x → slice_get ys k ≡ Some y → P x y) → ZipAll P xs ys
zip_each P [] [] l h = tt
zip_each P [] (y ∷ ys) l h = absurd (omega (arith, l))
zip_each P (x ∷ xs) [] l h = absurd (omega (arith, l))
zip_each P (x ∷ xs) (y ∷ ys) l h = (h 0 x y refl refl, zip_each P xs ys (omega (arith, l)) (λ k a b e f. h (suc k) a b e f))

pub length_map : {A B : Type 0} (f : A → B) (xs : List A) → length (map f xs) ≡ length xs
length_map f [] = refl
length_map f (x ∷ xs) = ap suc (length_map f xs)
