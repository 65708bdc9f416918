-- Lines that are given one by one are the lines of what was taken.
use Rattle.std.proofs.Common.{◌≡◌, ◌==◌, ℕ, ◌+◌, ◌-◌, ◌^◌, ◌<◌, ◌||◌, Bool, true, false, cond, List, [], ◌∷◌, ◌++◌, length, take, Option, refl, sym, ap, ◌∙◌, arith, subst}
use Rattle.std.proofs.lemmas.List.{append_assoc, append-nil, length-append}
use Rattle.std.proofs.Math.Seq.{take-append-add}
use Rattle.std.specs.List.{list_any}
use Rattle.request_lines.specs.Lines.{lines_of, starting}
use Rattle.client_session.specs.Feeds.{NoFeed, IsNext, IsEnd, IsFault, IsTooLong}
use Rattle.client_session.specs.Giving.{extending, ended_of, texts, NoFeeds, HasGiven}

abbrev has : List ℕ → Bool
has xs = list_any (λ c. c == 10) xs

first_line : (line rest : List ℕ) → NoFeed line → lines_of (line ++ (10 ∷ rest)) ≡ line ∷ lines_of rest
unfolding lines_of
first_line [] rest h = refl
first_line (b ∷ bs) rest h = go (b == 10) h (λ e. first_line bs rest e)
  where
    go : (t : Bool) → (t || has bs) ≡ false → (has bs ≡ false → lines_of (bs ++ (10 ∷ rest)) ≡ bs ∷ lines_of rest)
        → cond t ([] ∷ lines_of (bs ++ (10 ∷ rest))) (starting b (lines_of (bs ++ (10 ∷ rest)))) ≡ (b ∷ bs) ∷ lines_of rest
    go true e f = absurd (grind (arith, e))
    go false e f = ap (starting b) (f e)

only_line : (line : List ℕ) → NoFeed line → 0 < length line → lines_of line ≡ line ∷ []
unfolding lines_of
only_line [] h some = absurd (omega (arith, some))
only_line (b ∷ []) h some = go (b == 10) h
  where
    go : (t : Bool) → (t || false) ≡ false → cond t ([] ∷ []) ((b ∷ []) ∷ []) ≡ (b ∷ []) ∷ []
    go true e = absurd (grind (arith, e))
    go false e = refl
only_line (b ∷ c ∷ bs) h some = go (b == 10) h (λ e. only_line (c ∷ bs) e (omega arith))
  where
    go : (t : Bool) → (t || has (c ∷ bs)) ≡ false → (has (c ∷ bs) ≡ false → lines_of (c ∷ bs) ≡ (c ∷ bs) ∷ [])
        → cond t ([] ∷ lines_of (c ∷ bs)) (starting b (lines_of (c ∷ bs))) ≡ (b ∷ c ∷ bs) ∷ []
    go true e f = absurd (grind (arith, e))
    go false e f = ap (starting b) (f e)

first_ended : (line rest : List ℕ) → NoFeed line → ended_of (line ++ (10 ∷ rest)) ≡ line ∷ ended_of rest
unfolding ended_of
first_ended [] rest h = refl
first_ended (b ∷ bs) rest h = go (b == 10) h (λ e. first_ended bs rest e)
  where
    go : (t : Bool) → (t || has bs) ≡ false → (has bs ≡ false → ended_of (bs ++ (10 ∷ rest)) ≡ bs ∷ ended_of rest)
        → cond t ([] ∷ ended_of (bs ++ (10 ∷ rest))) (extending b (ended_of (bs ++ (10 ∷ rest)))) ≡ (b ∷ bs) ∷ ended_of rest
    go true e f = absurd (grind (arith, e))
    go false e f = ap (extending b) (f e)

pub none_ended : (rest : List ℕ) → NoFeed rest → ended_of rest ≡ []
unfolding ended_of
none_ended [] h = refl
none_ended (b ∷ bs) h = go (b == 10) h (λ e. none_ended bs e)
  where
    go : (t : Bool) → (t || has bs) ≡ false → (has bs ≡ false → ended_of bs ≡ []) → cond t ([] ∷ ended_of bs) (extending b (ended_of bs)) ≡ []
    go true e f = absurd (grind (arith, e))
    go false e f = ap (extending b) (f e)

-- lines, and what stands behind them
lines_texts : (lines : List (List ℕ)) (rest : List ℕ) → NoFeeds lines → lines_of (texts lines ++ rest) ≡ lines ++ lines_of rest
lines_texts [] rest h = refl
lines_texts (l ∷ ls) rest h =
    ap lines_of (append_assoc l (10 ∷ texts ls) rest) ∙ first_line l (texts ls ++ rest) h.0 ∙ ap (λ w. l ∷ w) (lines_texts ls rest h.1)

ended_texts : (lines : List (List ℕ)) (rest : List ℕ) → NoFeeds lines → ended_of (texts lines ++ rest) ≡ lines ++ ended_of rest
ended_texts [] rest h = refl
ended_texts (l ∷ ls) rest h =
    ap ended_of (append_assoc l (10 ∷ texts ls) rest) ∙ first_ended l (texts ls ++ rest) h.0 ∙ ap (λ w. l ∷ w) (ended_texts ls rest h.1)

texts_more : (lines : List (List ℕ)) (line : List ℕ) → texts (lines ++ (line ∷ [])) ≡ texts lines ++ (line ++ (10 ∷ []))
texts_more [] line = refl
texts_more (l ∷ ls) line = ap (λ w. l ++ (10 ∷ w)) (texts_more ls line) ∙ sym (append_assoc l (10 ∷ texts ls) (line ++ (10 ∷ [])))

no_feeds_more : (lines : List (List ℕ)) (line : List ℕ) → NoFeeds lines → NoFeed line → NoFeeds (lines ++ (line ∷ []))
no_feeds_more [] line h k = (k, tt)
no_feeds_more (l ∷ ls) line h k = (h.0, no_feeds_more ls line h.1 k)

-- a line more is given
pub given_next : (taken read rest after line : List ℕ) (lines : List (List ℕ)) (over : Bool) (left : Option (List ℕ)) → HasGiven false taken lines rest
    → IsNext line over (length taken - length rest) (rest ++ read) after left → HasGiven over (taken ++ read) (lines ++ (line ∷ [])) after
given_next taken read rest after line lines false left h n =
    let all : taken ++ read ≡ texts lines ++ (rest ++ read) = ap (λ w. w ++ read) h.1 ∙ append_assoc (texts lines) rest read in
    let e = n.ends in
    let joined : texts lines ++ (line ++ (10 ∷ after)) ≡ texts (lines ++ (line ∷ [])) ++ after =
    ap (λ w. texts lines ++ w) (sym (append_assoc line (10 ∷ []) after)) ∙ sym (append_assoc (texts lines) (line ++ (10 ∷ [])) after) ∙ ap (λ w. w ++ after) (sym (texts_more lines line)) in
    let sum : length taken ≡ length (texts lines) + length rest = ap length h.1 ∙ length-append (texts lines) rest in
    let long : length (texts (lines ++ (line ∷ []))) ≡ length (texts lines) + (length line + 1) =
    ap length (texts_more lines line) ∙ length-append (texts lines) (line ++ (10 ∷ [])) ∙ ap (λ k. length (texts lines) + k) (length-append line (10 ∷ [])) in
    (no_feeds_more lines line h.0 n.no_feed, all ∙ ap (λ w. texts lines ++ w) e.0 ∙ joined, omega (arith, sum, long, e.1))
given_next taken read rest after line lines true left h n =
    let e = n.ends in
    let all : taken ++ read ≡ texts lines ++ line = ap (λ w. w ++ read) h.1 ∙ append_assoc (texts lines) rest read ∙ ap (λ w. texts lines ++ w) e.0 in
    (ap lines_of all ∙ lines_texts lines line h.0 ∙ ap (λ w. lines ++ w) (only_line line n.no_feed e.2), e.1)

nothing_more : (lines : List (List ℕ)) → lines ++ lines_of [] ≡ lines
unfolding lines_of
nothing_more lines = append-nil lines

-- at the end all lines were given
pub given_all : (taken read rest after : List ℕ) (lines : List (List ℕ)) (over : Bool) (left : Option (List ℕ)) → HasGiven over taken lines rest
    → IsEnd over (rest ++ read) after left → lines_of (taken ++ read) ≡ lines
given_all taken read rest after lines false left h n =
    ap lines_of (ap (λ w. w ++ read) h.1 ∙ append_assoc (texts lines) rest read ∙ ap (λ w. texts lines ++ w) n.none_held) ∙ lines_texts lines [] h.0 ∙ nothing_more lines
given_all taken read rest after lines true left h n =
    let bare : read ≡ [] = ap (λ w. w ++ read) (sym h.1) ∙ n.none_held in
    ap lines_of (ap (λ w. taken ++ w) bare ∙ append-nil taken) ∙ h.0

-- at a fault all lines were given that a line feed ended
pub given_ended : (taken read rest : List ℕ) (lines : List (List ℕ)) (before now : ℕ) → HasGiven false taken lines rest
    → IsFault (rest ++ read) before now → ended_of (taken ++ read) ≡ lines
given_ended taken read rest lines before now h n =
    ap ended_of (ap (λ w. w ++ read) h.1 ∙ append_assoc (texts lines) rest read) ∙ ended_texts lines (rest ++ read) h.0
    ∙ ap (λ w. lines ++ w) (none_ended (rest ++ read) n.no_feed) ∙ append-nil lines

-- of a stream that is too long all lines were given that a line feed within the limit ended
pub given_within : (taken read rest : List ℕ) (lines : List (List ℕ)) → HasGiven false taken lines rest
    → IsTooLong (length taken - length rest) (rest ++ read) → ended_of (take (2 ^ 30) (taken ++ read)) ≡ lines
given_within taken read rest lines h n =
    let front = texts lines in
    let fits = h.2 in
    let sum : length taken ≡ length front + length rest = ap length h.1 ∙ length-append front rest in
    let less : length taken - length rest ≡ length front = omega (arith, sum) in
    let k = 2 ^ 30 - length front in
    let all : 2 ^ 30 ≡ length front + k = omega (arith, fits) in
    let none : NoFeed (take k (rest ++ read)) = subst (λ g. NoFeed (take (2 ^ 30 - g) (rest ++ read))) less n.no_feed in
    let whole : taken ++ read ≡ front ++ (rest ++ read) = ap (λ w. w ++ read) h.1 ∙ append_assoc front rest read in
    let cut : take (2 ^ 30) (taken ++ read) ≡ front ++ take k (rest ++ read) =
    ap (λ w. take (2 ^ 30) w) whole ∙ ap (λ m. take m (front ++ (rest ++ read))) all ∙ take-append-add front (rest ++ read) k in
    ap ended_of cut ∙ ended_texts lines (take k (rest ++ read)) h.0 ∙ ap (λ w. lines ++ w) (none_ended (take k (rest ++ read)) none) ∙ append-nil lines

-- a front with a line feed has a first line
some_ended : (front rest : List ℕ) → (line : List ℕ) × (lines : List (List ℕ)) × (ended_of (front ++ (10 ∷ rest)) ≡ line ∷ lines)
unfolding ended_of
some_ended [] rest = ([], ended_of rest, refl)
some_ended (b ∷ bs) rest = go (b == 10) (some_ended bs rest)
  where
    go : (t : Bool) → ((line : List ℕ) × (lines : List (List ℕ)) × (ended_of (bs ++ (10 ∷ rest)) ≡ line ∷ lines))
        → (line : List ℕ) × (lines : List (List ℕ)) × (cond t ([] ∷ ended_of (bs ++ (10 ∷ rest))) (extending b (ended_of (bs ++ (10 ∷ rest)))) ≡ line ∷ lines)
    go true f = ([], ended_of (bs ++ (10 ∷ rest)), refl)
    go false f = (b ∷ f.0, f.1, ap (extending b) f.2)

-- a byte in front of the first line, where there is one
put_before : (b : ℕ) (xs : List (List ℕ)) (line : List ℕ) (lines : List (List ℕ)) → xs ≡ line ∷ lines → extending b xs ≡ starting b xs
put_before b xs line lines e = ap (extending b) e ∙ sym (ap (starting b) e)

-- the lines up to the last line feed
pub front_ended : (front rest : List ℕ) → NoFeed rest → ended_of (front ++ (10 ∷ rest)) ≡ lines_of (front ++ (10 ∷ []))
unfolding ended_of lines_of
front_ended [] rest none = ap (λ w. [] ∷ w) (none_ended rest none)
front_ended (b ∷ bs) rest none = go (b == 10) (front_ended bs rest none) (some_ended bs rest)
  where
    go : (t : Bool) → ended_of (bs ++ (10 ∷ rest)) ≡ lines_of (bs ++ (10 ∷ []))
        → ((line : List ℕ) × (lines : List (List ℕ)) × (ended_of (bs ++ (10 ∷ rest)) ≡ line ∷ lines))
        → cond t ([] ∷ ended_of (bs ++ (10 ∷ rest))) (extending b (ended_of (bs ++ (10 ∷ rest)))) ≡ cond t ([] ∷ lines_of (bs ++ (10 ∷ []))) (starting b (lines_of (bs ++ (10 ∷ []))))
    go true e f = ap (λ w. [] ∷ w) e
    go false e f = put_before b _ f.0 f.1 f.2 ∙ ap (starting b) e
