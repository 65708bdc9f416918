-- Parts of a buffer.
use Rattle.std.proofs.Common.{◌≡◌, ℕ, ◌+◌, ◌-◌, ◌≤◌, List, ◌++◌, length, take, drop, take-add, slice_range, refl, sym, ap, ◌∙◌, arith}
use Rattle.std.proofs.lemmas.List.{take_at, drop-append-le, drop-take, drop-drop, length-take-le, length-drop, take-take, drop_at}

pub part_length : (xs : List ℕ) (start end : ℕ) → start ≤ end → end ≤ length xs → length (slice_range xs start end) ≡ end - start
part_length xs start end ordered within =
    length-take-le (end - start) (drop start xs) (omega (arith, length-drop start xs))

-- what a part is before and behind a place
pub part_rest : (xs : List ℕ) (start end count : ℕ) → start + count ≤ end
    → slice_range xs (start + count) end ≡ drop count (slice_range xs start end)
part_rest xs start end count inside =
    let sum : end - start ≡ count + (end - (start + count)) = omega arith in
    sym (ap (λ j. drop count (take j (drop start xs))) sum ∙ drop-take count _ (drop start xs)
    ∙ ap (take (end - (start + count))) (drop-drop count start xs))

pub part_front : (xs : List ℕ) (start end count : ℕ) → start + count ≤ end
    → slice_range xs start (start + count) ≡ take count (slice_range xs start end)
part_front xs start end count inside =
    let one : start + count - start ≡ count = omega arith in
    let less : count ≤ end - start = omega arith in
    ap (λ j. take j (drop start xs)) one ∙ sym (take-take count (end - start) (drop start xs) less)

-- a part that grows by a front of what is read behind it
pub part_grows : (xs ys : List ℕ) (start end n : ℕ) → start ≤ end → end ≤ length xs → n ≤ length ys
    → slice_range (take end xs ++ ys) start (end + n) ≡ slice_range xs start end ++ take n ys
part_grows xs ys start end n ordered within fits =
    let front = length-take-le end xs within in
    let held = drop start (take end xs) in
    let len : length held ≡ end - start = omega (arith, length-drop start (take end xs)) in
    let sum : end + n - start ≡ (end - start) + n = omega arith in
    let parts : end ≡ start + (end - start) = omega arith in
    let same : held ≡ slice_range xs start end = ap (λ j. drop start (take j xs)) parts ∙ drop-take start (end - start) xs in
    ap (take (end + n - start)) (drop-append-le start (take end xs) ys (omega arith))
    ∙ ap (λ j. take j (held ++ ys)) sum
    ∙ (rw (take-add (end - start) n (held ++ ys), take_at held ys _ len, drop_at held ys _ len, same) refl)
