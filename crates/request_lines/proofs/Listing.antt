-- What is left of a list's text while it is written item by item.
use Rattle.std.proofs.Common.{◌≡◌, ℕ, zero, suc, ◌+◌, ◌<◌, ◌==◌, if◌then◌else◌, List, [], ◌∷◌, ◌++◌, map, codes, length, drop, get_or, sym, refl, add-one, arith, false}
use Rattle.std.proofs.lemmas.List.{drop_more}
use Rattle.request_lines.specs.Json.{joined, following}

-- the items from an index on
abbrev pub continuing : ℕ → List (List ℕ) → List ℕ → List ℕ
continuing zero ms end = joined ms end
continuing (suc i) ms end = following ms end

continuing_one : (i : ℕ) (m : List ℕ) (ms : List (List ℕ)) (end : List ℕ) → continuing i (m ∷ ms) end ≡ ((if i == 0 then [] else codes ",") ++ m) ++ continuing (i + 1) ms end
continuing_one zero m ms end = refl
continuing_one (suc i) m ms end =
    let e : (suc i == 0) ≡ false = grind arith in
    rw e (rw (add-one (suc i)) refl)

pub continuing_next : {T : Type 0} (f : T → List ℕ) (xs : List T) (i : ℕ) (x : T) (end : List ℕ) → i < length xs → x ≡ get_or xs i x
    → continuing i (map f (drop i xs)) end ≡ ((if i == 0 then [] else codes ",") ++ f x) ++ continuing (i + 1) (map f (drop (i + 1) xs)) end
continuing_next f xs i x end h e = rw (drop_more xs i x h) (rw (sym e) (continuing_one i (f x) (map f (drop (i + 1) xs)) end))

pub continuing_none : (i : ℕ) (end : List ℕ) → continuing i [] end ≡ end
continuing_none zero end = refl
continuing_none (suc i) end = refl
