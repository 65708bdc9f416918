-- Two lists of ids as one, each id at one place of it.
use Rattle.std.proofs.Common.{◌≡◌, ℕ, ◌+◌, ◌<◌, List, ◌++◌, length, length-append, get_or, sym, ◌∙◌, arith}
use Rattle.std.proofs.lemmas.List.{get_or_append_left, get_or-append-add}
use Rattle.base_rows.specs.Lists.{IsOnce}

-- those of the first list
pub once_front : (xs ys : List ℕ) → IsOnce (xs ++ ys) → IsOnce xs
once_front xs ys o i j l m e =
    let n = length-append xs ys in
    o i j (omega (arith, n)) (omega (arith, n)) (get_or_append_left xs ys 0 i l ∙ (e ∙ sym (get_or_append_left xs ys 0 j m)))

-- and of the second
pub once_behind : (xs ys : List ℕ) → IsOnce (xs ++ ys) → IsOnce ys
once_behind xs ys o i j l m e =
    let n = length-append xs ys in
    let s : length xs + i ≡ length xs + j = o (length xs + i) (length xs + j) (omega (arith, n)) (omega (arith, n))
    (get_or-append-add xs ys i 0 ∙ (e ∙ sym (get_or-append-add xs ys j 0))) in
    omega arith

-- none of the first is one of the second
pub once_apart : (xs ys : List ℕ) → IsOnce (xs ++ ys) → (i j : ℕ) → i < length xs → j < length ys → get_or xs i 0 ≡ get_or ys j 0 → ⊥
once_apart xs ys o i j l m e =
    let n = length-append xs ys in
    let s : i ≡ length xs + j = o i (length xs + j) (omega (arith, n)) (omega (arith, n)) (get_or_append_left xs ys 0 i l ∙ (e ∙ sym (get_or-append-add xs ys j 0))) in
    omega arith
