use Rattle.std.proofs.Common.{◌≡◌, ℕ, ◌+◌, ◌-◌, ◌≤◌, ◌<◌, List, ◌++◌, length, take, take-add, drop, Option, Some, None, ap, sym, ◌∙◌, subst, arith}
use Rattle.std.proofs.lemmas.List.{append_assoc, take-append-drop, length-append, length-take-le, length-drop}
use Rattle.std.specs.Io.KnownBytes.{Appends, Consumes, Keeps}
use Rattle.pcg_base.specs.Told.{AppendsFront, LosesMore}

-- a text behind another
pub appends_more : (a b c : Option (List ℕ)) (x y z : List ℕ) → z ≡ x ++ y → Appends a b x → Appends b c y → Appends a c z
appends_more None b c x y z e h k = tt
appends_more (Some p) None c x y z e h k = absurd h
appends_more (Some p) (Some q) None x y z e h k = absurd k
appends_more (Some p) (Some q) (Some r) x y z e h k = k ∙ ap (λ w. w ++ y) h ∙ append_assoc p x y ∙ ap (λ w. p ++ w) (sym e)

-- one front after another
pub consumes_more : (a b c : Option (List ℕ)) (x y : List ℕ) → Consumes a b x → Consumes b c y → Consumes a c (x ++ y)
consumes_more None b c x y h k = tt
consumes_more (Some p) None c x y h k = absurd h
consumes_more (Some p) (Some q) None x y h k = absurd k
consumes_more (Some p) (Some q) (Some r) x y h k = h ∙ ap (λ w. x ++ w) k ∙ sym (append_assoc x y r)

-- the next n bytes of a piece
pub next_taken : (a b c : Option (List ℕ)) (piece : List ℕ) (at n : ℕ) → Appends a b (take at piece) → Appends b c (take n (drop at piece)) → Appends a c (take (at + n) piece)
next_taken a b c piece at n h k = appends_more a b c _ _ _ (take-add at n piece) h k

-- a piece of which only this much was written
pub front_taken : (a b c : Option (List ℕ)) (piece : List ℕ) (at : ℕ) → Appends a b (take at piece) → Keeps b c → AppendsFront a c piece
front_taken None b c piece at h k = tt
front_taken (Some p) None c piece at h k = absurd h
front_taken (Some p) (Some q) None piece at h k = absurd k
front_taken (Some p) (Some q) (Some r) piece at h k = (take at piece, drop at piece, sym (take-append-drop at piece), k ∙ h)

-- a front of what a read gave, behind what there was
pub loses_more : (a b c : Option (List ℕ)) (x into : List ℕ) (room count : ℕ) → room < count → count ≤ length into → Consumes a b x → Consumes b c (take count into) → LosesMore a c (x ++ take room into)
loses_more a b c x into room count less within h k =
    let rest : List ℕ = take (count - room) (drop room into) in
    let long : length rest ≡ count - room = length-take-le (count - room) (drop room into) (subst (λ n. count - room ≤ n) (sym (length-drop room into)) (omega (arith, less, within))) in
    let parts : take count into ≡ take room into ++ rest = ap (λ n. take n into) (omega (arith, less)) ∙ take-add room (count - room) into in
    let whole : x ++ take count into ≡ (x ++ take room into) ++ rest = ap (λ w. x ++ w) parts ∙ sym (append_assoc x (take room into) rest) in
    (rest, omega (arith, less, long), subst (λ w. Consumes a c w) whole (consumes_more a b c x (take count into) h k))

-- a read that goes past the limit fills the bytes up to it
pub full : (x into : List ℕ) (limit count : ℕ) → length x ≤ limit → limit - length x < count → count ≤ length into → length (x ++ take (limit - length x) into) ≡ limit
full x into limit count fits less within =
    let room : length (take (limit - length x) into) ≡ limit - length x = length-take-le (limit - length x) into (omega (arith, less, within)) in
    length-append x (take (limit - length x) into) ∙ ap (λ n. length x + n) room ∙ omega (arith, fits)
