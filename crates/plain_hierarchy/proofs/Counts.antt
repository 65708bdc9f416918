-- The layers, and what is counted over them.
use Rattle.std.proofs.Common.{◌≡◌, ℕ, zero, suc, ◌+◌, ◌<◌, List, [], ◌∷◌, ◌++◌, length, map, sym, ◌∙◌, ap, arith, add-one, take, get_or, append-nil}
use mathlib.Core.Path.{ap₂}
use Rattle.std.specs.List.{flat_map}
use Rattle.std.proofs.Math.ListN.{set}
use Rattle.std.proofs.Math.Seq.{take-suc, take-suc-set}
use Rattle.std.proofs.lemmas.List.{map-append}
use Rattle.std.proofs.lemmas.Grind.{flat_map-append}
use Rattle.op_model.specs.Chunks.{layers_from}
use Rattle.op_model.specs.Records.{total}

pub layers_more : (layer n : ℕ) → layers_from layer (suc n) ≡ layers_from layer n ++ (layer + n) ∷ []
unfolding layers_from
layers_more layer zero = ap (λ l. l ∷ []) (omega arith)
layers_more layer (suc n) = ap (λ ls. layer ∷ ls) (layers_more (layer + 1) n ∙ ap (λ l. layers_from (layer + 1) n ++ l ∷ []) (omega arith))

pub total_more : (ns : List ℕ) (n : ℕ) → total (ns ++ n ∷ []) ≡ total ns + n
unfolding total
total_more [] n = omega arith
total_more (m ∷ ns) n = let ih = total_more ns n in omega arith

-- the layers from 2 on, one more of them
pub layers_next : (n : ℕ) → layers_from 2 (n + 1) ≡ layers_from 2 n ++ (n + 2) ∷ []
layers_next n = rw add-one (layers_more 2 n ∙ ap (λ l. layers_from 2 n ++ l ∷ []) (omega arith))

pub path_more : (f : ℕ → ℕ) (nodes : List ℕ) (i x : ℕ) → i < length nodes → take i nodes ≡ map f (layers_from 2 i) → x ≡ f (i + 2) → take (i + 1) (set nodes i x) ≡ map f (layers_from 2 (i + 1))
path_more f nodes i x l e q =
    rw add-one (take-suc-set nodes i x l)
    ∙ (ap₂ (λ xs y. xs ++ y ∷ []) e q ∙ (sym (map-append f (layers_from 2 i) ((i + 2) ∷ [])) ∙ ap (map f) (sym (layers_next i))))

pub pieces_more : (f : ℕ → List ℕ) (i : ℕ) → flat_map f (layers_from 2 i) ++ f (i + 2) ≡ flat_map f (layers_from 2 (i + 1))
pieces_more f i =
    ap (λ xs. flat_map f (layers_from 2 i) ++ xs) (sym (append-nil (f (i + 2))))
    ∙ (sym (flat_map-append f (layers_from 2 i) ((i + 2) ∷ [])) ∙ ap (flat_map f) (sym (layers_next i)))

pub totals_more : (f : ℕ → ℕ) (i : ℕ) → total (map f (layers_from 2 i)) + f (i + 2) ≡ total (map f (layers_from 2 (i + 1)))
totals_more f i =
    sym (total_more (map f (layers_from 2 i)) (f (i + 2)))
    ∙ ap total (sym (map-append f (layers_from 2 i) ((i + 2) ∷ [])) ∙ ap (map f) (sym (layers_next i)))

pub map_next : (f : ℕ → ℕ) (xs : List ℕ) (i d : ℕ) (ys : List ℕ) (x : ℕ) → i < length xs → ys ≡ map f (take i xs) → x ≡ f (get_or xs i d) → ys ++ x ∷ [] ≡ map f (take (i + 1) xs)
map_next f xs i d ys x l e q =
    ap₂ (λ zs z. zs ++ z ∷ []) e q
    ∙ (sym (map-append f (take i xs) (get_or xs i d ∷ [])) ∙ ap (map f) (sym (rw add-one (take-suc xs i d l))))
