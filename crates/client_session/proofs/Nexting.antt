-- The next line of what is held.
use Rattle.std.proofs.Common.{◌≡◌, ℕ, ◌+◌, ◌-◌, ◌^◌, ◌<◌, ◌≤◌, false, List, [], ◌∷◌, ◌++◌, length, take, drop, Option, refl, sym, ap, ◌∙◌, arith, subst}
use Rattle.std.proofs.lemmas.List.{append_assoc, length-append, take-append-le, take-append-drop, length-take-le}
use Rattle.client_session.specs.Feeds.{NoFeed, FeedAt, IsNext, IsTooLong}
use Rattle.client_session.proofs.Feeding.{no_feed_both, no_feed_front}

-- behind what was let go a line ends at a line feed within the limit
pub next_cut : (w gone : List ℕ) (at given : ℕ) (left : Option (List ℕ)) → FeedAt at w → NoFeed gone
    → given + (length gone + at) < 2 ^ 30 → IsNext (gone ++ take at w) false given (gone ++ w) (drop (at + 1) w) left
next_cut w gone at given left f none less =
    let long = length-take-le at w (omega (arith, f.within)) in
    let sum = length-append gone (take at w) in
    record {
      no_feed = no_feed_both gone (take at w) none f.none;
      ends = (ap (λ (xs : List ℕ). gone ++ xs) f.here ∙ sym (append_assoc gone (take at w) (10 ∷ drop (at + 1) w)), omega (arith, long, sum, less));
    }

-- the first line feed stands behind the limit
pub long_cut : (w gone : List ℕ) (at given : ℕ) → FeedAt at w → NoFeed gone
    → 2 ^ 30 ≤ given + (length gone + at) → IsTooLong given (gone ++ w)
long_cut w gone at given f none less =
    let within = f.within in
    let all = length-append gone w in
    let long = length-take-le at w (omega (arith, within)) in
    let front = gone ++ take at w in
    let sum : length front ≡ length gone + at = length-append gone (take at w) ∙ ap (λ k. length gone + k) long in
    let n = 2 ^ 30 - given in
    let fits : n ≤ length front = omega (arith, sum, less) in
    let split : gone ++ w ≡ front ++ (10 ∷ drop (at + 1) w) = ap (λ (xs : List ℕ). gone ++ xs) f.here ∙ sym (append_assoc gone (take at w) (10 ∷ drop (at + 1) w)) in
    let both : NoFeed front = no_feed_both gone (take at w) none f.none in
    let same : take n (gone ++ w) ≡ take n front = ap (take n) split ∙ take-append-le n front (10 ∷ drop (at + 1) w) fits in
    record {
      long = omega (arith, all, within, less);
      no_feed = subst NoFeed (sym same) (no_feed_front (take n front) (drop n front) (subst NoFeed (sym (take-append-drop n front)) both));
    }

-- no line feed at all
pub long_none : (held : List ℕ) (given : ℕ) → NoFeed held → 2 ^ 30 < given + length held → IsTooLong given held
long_none held given none less = record {
  long = less;
  no_feed = no_feed_front (take (2 ^ 30 - given) held) (drop (2 ^ 30 - given) held) (subst NoFeed (sym (take-append-drop (2 ^ 30 - given) held)) none);
}

-- nothing was let go
pub none_gone : (gone xs : List ℕ) → length gone ≡ 0 → gone ++ xs ≡ xs
none_gone [] xs e = refl
none_gone (x ∷ gone) xs e = absurd (omega (arith, e))
