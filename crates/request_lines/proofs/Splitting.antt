-- A line while its end is looked for.
use Rattle.std.proofs.Common.{◌≡◌, ℕ, ◌+◌, ◌<◌, ◌≤◌, ◌==◌, true, false, List, [], ◌∷◌, ◌++◌, length, take, drop, get_or, ap, refl, arith}
use Rattle.std.proofs.lemmas.List.{drop_all, drop_more, take_all, take_more}
use Rattle.request_lines.specs.Lines.{lines_of, starting}

-- bytes at the front of the first line
abbrev pub prepending : List ℕ → List (List ℕ) → List (List ℕ)
prepending [] ls = ls
prepending (x ∷ xs) ls = starting x (prepending xs ls)

pub prepending_one : (xs : List ℕ) (x : ℕ) (ls : List (List ℕ)) → prepending (xs ++ x ∷ []) ls ≡ prepending xs (starting x ls)
prepending_one [] x ls = refl
prepending_one (y ∷ xs) x ls = ap (λ w. starting y w) (prepending_one xs x ls)

pub prepending_line : (xs : List ℕ) (ls : List (List ℕ)) → prepending xs ([] ∷ ls) ≡ xs ∷ ls
prepending_line [] ls = refl
prepending_line (x ∷ xs) ls = ap (λ w. starting x w) (prepending_line xs ls)

pub prepending_last : (x : ℕ) (xs : List ℕ) → prepending (x ∷ xs) [] ≡ (x ∷ xs) ∷ []
prepending_last x [] = refl
prepending_last x (y ∷ xs) = ap (λ w. starting x w) (prepending_last y xs)

-- the front of a list and its next byte
pub front_one : (bytes : List ℕ) (at : ℕ) (d : ℕ) → at < length bytes → take (at + 1) bytes ≡ take at bytes ++ get_or bytes at d ∷ []
front_one bytes at d h = take_more bytes at d h

-- the state of the search after a byte that is no line feed
pub search_next : (bytes : List ℕ) (at d : ℕ) → at < length bytes → (get_or bytes at d ≡ 10 → ⊥)
    → prepending (take at bytes) (lines_of (drop at bytes)) ≡ prepending (take (at + 1) bytes) (lines_of (drop (at + 1) bytes))
unfolding lines_of
search_next bytes at d h e =
    let b : (get_or bytes at d == 10) ≡ false = grind (arith, e) in
    rw (front_one bytes at d h)
    (rw (prepending_one (take at bytes) (get_or bytes at d) (lines_of (drop (at + 1) bytes))) (rw (drop_more bytes at d h) (rw b refl)))

pub search_found : (bytes : List ℕ) (at d : ℕ) → at < length bytes → get_or bytes at d ≡ 10
    → prepending (take at bytes) (lines_of (drop at bytes)) ≡ take at bytes ∷ lines_of (drop (at + 1) bytes)
unfolding lines_of
search_found bytes at d h e =
    let b : (get_or bytes at d == 10) ≡ true = grind (arith, e) in
    rw (drop_more bytes at d h) (rw b (prepending_line (take at bytes) (lines_of (drop (at + 1) bytes))))

last_of : (bytes : List ℕ) → (length bytes == 0) ≡ false → prepending bytes (lines_of []) ≡ bytes ∷ lines_of []
unfolding lines_of
last_of [] h = absurd (grind (arith, h))
last_of (x ∷ xs) h = prepending_last x xs

pub search_last : (bytes : List ℕ) (at : ℕ) → length bytes ≤ at → (length bytes == 0) ≡ false
    → prepending (take at bytes) (lines_of (drop at bytes)) ≡ take (length bytes) bytes ∷ lines_of (drop (length bytes) bytes)
search_last bytes at h e =
    let all : length bytes ≤ length bytes = omega arith in
    rw (take_all at bytes h) (rw (drop_all at bytes h) (rw (take_all (length bytes) bytes all) (rw (drop_all (length bytes) bytes all) (last_of bytes e))))
