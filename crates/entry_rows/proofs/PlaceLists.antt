-- Places one after the other.
use Rattle.std.proofs.Common.{◌≡◌, ℕ, zero, suc, ◌+◌, ◌<◌, [], ◌∷◌, ◌++◌, length, get_or, refl, ◌∙◌, ap, arith, add-one}
use Rattle.entry_rows.specs.Listed.{places_from}

longer : (place n : ℕ) → places_from place (suc n) ≡ places_from place n ++ (place + n) ∷ []
unfolding places_from
longer place zero = let e : place ≡ place + 0 = omega arith in ap (λ q. q ∷ []) e
longer place (suc n) =
    let e : place + 1 + n ≡ place + suc n = omega arith in
    ap (λ ts. place ∷ ts) (longer (place + 1) n ∙ ap (λ q. places_from (place + 1) n ++ q ∷ []) e)

pub places_more : (place n : ℕ) → places_from place (n + 1) ≡ places_from place n ++ (place + n) ∷ []
places_more place n = rw add-one (longer place n)

pub length-places_from : (place n : ℕ) → length (places_from place n) ≡ n
unfolding places_from
length-places_from place zero = refl
length-places_from place (suc n) = ap suc (length-places_from (place + 1) n)

pub place_at : (place n i : ℕ) → i < n → get_or (places_from place n) i 0 ≡ place + i
unfolding places_from
place_at place zero i l = absurd (omega arith)
place_at place (suc n) zero l = let e : place ≡ place + 0 = omega arith in e
place_at place (suc n) (suc i) l = let e : place + 1 + i ≡ place + suc i = omega arith in place_at (place + 1) n i (omega arith) ∙ e
