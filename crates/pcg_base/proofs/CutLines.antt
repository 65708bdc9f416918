-- What the cut at a line feed has to do with the lines of a text.
use Rattle.std.proofs.Common.{◌≡◌, ℕ, suc, ◌+◌, ◌<◌, Bool, true, false, cond, eqb, List, [], ◌∷◌, take, drop, length, Option, Some, None, option_map, position, arith, refl, sym, ◌∙◌, ap, ap₂, subst}
use Rattle.std.specs.Option.{option_and_then}
use Rattle.std.specs.List.{position_from}
use Rattle.std.proofs.lemmas.Option.{same_Some}
use Rattle.std.proofs.lemmas.Iterator.Adapters.{position_from-zero}
use Rattle.pcg_base.specs.Cutting.{cut_at, before_first, ended_lines}

position_later : {X : Type 0} (test : X → Bool) (i : ℕ) (xs : List X) → position_from test (i + 1) xs ≡ option_map (λ n. n + 1) (position_from test i xs)
position_later test i [] = refl
position_later test i (x ∷ xs) = go (test x) (position_later test (i + 1) xs)
  where
    go : (b : Bool) → position_from test (i + 1 + 1) xs ≡ option_map (λ n. n + 1) (position_from test (i + 1) xs)
        → cond b (Some (i + 1)) (position_from test (i + 1 + 1) xs) ≡ option_map (λ n. n + 1) (cond b (Some i) (position_from test (i + 1) xs))
    go true ih = refl
    go false ih = ih

-- the first place that passes, from the front on
pub position-cons : {X : Type 0} (test : X → Bool) (x : X) (xs : List X) → position test (x ∷ xs) ≡ cond (test x) (Some 0) (option_map (λ n. n + 1) (position test xs))
position-cons test x xs =
    position_from-zero test (x ∷ xs)
    ∙ ap (cond (test x) (Some 0)) (position_later test 0 xs ∙ ap (option_map (λ n. n + 1)) (sym (position_from-zero test xs)))

-- the cut, from the front on
abbrev cut : ℕ → List ℕ → Option (List ℕ × List ℕ)
cut byte [] = None
cut byte (b ∷ bs) = cond (eqb b byte) (Some ([], bs)) (option_map (λ p. (b ∷ p.0, p.1)) (cut byte bs))

cut_is : (byte : ℕ) (text : List ℕ) → cut_at byte text ≡ cut byte text
cut_is byte [] = refl
cut_is byte (b ∷ bs) = ap (option_map whole) (position-cons (λ c. eqb c byte) b bs) ∙ go (eqb b byte) (cut_is byte bs)
  where
    whole : ℕ → List ℕ × List ℕ
    whole i = (take i (b ∷ bs), drop (i + 1) (b ∷ bs))

    longer : List ℕ × List ℕ → List ℕ × List ℕ
    longer p = (b ∷ p.0, p.1)

    next : (o : Option ℕ) → option_map whole (option_map (λ n. n + 1) o) ≡ option_map longer (option_map (λ i. (take i bs, drop (i + 1) bs)) o)
    next None = refl
    next (Some i) =
        let one : i + 1 ≡ suc i = omega arith in
        let two : i + 1 + 1 ≡ suc (i + 1) = omega arith in
        ap₂ (λ (x y : List ℕ). Some (x, y)) (ap (λ n. take n (b ∷ bs)) one) (ap (λ n. drop n (b ∷ bs)) two)

    go : (s : Bool) → cut_at byte bs ≡ cut byte bs → option_map whole (cond s (Some 0) (option_map (λ n. n + 1) (position (λ c. eqb c byte) bs))) ≡ cond s (Some ([], bs)) (option_map longer (cut byte bs))
    go true ih = refl
    go false ih = next (position (λ c. eqb c byte) bs) ∙ ap (option_map longer) ih

-- a line in front of the others, where there are others
abbrev in_front : List ℕ × List ℕ → Option (List (List ℕ))
in_front p = option_map (λ lines. p.0 ∷ lines) (ended_lines p.1)

lines_from_cut : (b : ℕ) (bs : List ℕ) → ended_lines (b ∷ bs) ≡ option_and_then in_front (cut 10 (b ∷ bs))
unfolding ended_lines before_first
lines_from_cut b [] = go (eqb b 10)
  where
    go : (s : Bool) → cond s (Some ([] ∷ [])) None ≡ option_and_then in_front (cond s (Some ([], [])) None)
    go true = refl
    go false = refl
lines_from_cut b (c ∷ cs) = go (eqb b 10) (lines_from_cut c cs)
  where
    byte_more : (x : List ℕ) (o : Option (List (List ℕ))) → option_and_then (before_first b) (option_map (λ lines. x ∷ lines) o) ≡ option_map (λ lines. (b ∷ x) ∷ lines) o
    byte_more x None = refl
    byte_more x (Some lines) = refl

    more : (o : Option (List ℕ × List ℕ)) → option_and_then (before_first b) (option_and_then in_front o) ≡ option_and_then in_front (option_map (λ p. (b ∷ p.0, p.1)) o)
    more None = refl
    more (Some (x, y)) = byte_more x (ended_lines y)

    go : (s : Bool) → ended_lines (c ∷ cs) ≡ option_and_then in_front (cut 10 (c ∷ cs))
        → cond s (option_map (λ lines. [] ∷ lines) (ended_lines (c ∷ cs))) (option_and_then (before_first b) (ended_lines (c ∷ cs)))
        ≡ option_and_then in_front (cond s (Some ([], c ∷ cs)) (option_map (λ p. (b ∷ p.0, p.1)) (cut 10 (c ∷ cs))))
    go true ih = refl
    go false ih = ap (option_and_then (before_first b)) ih ∙ more (cut 10 (c ∷ cs))

-- a line that is cut off is the first of the lines
pub cut_lines : (text line rest : List ℕ) → cut_at 10 text ≡ Some (line, rest) → ended_lines text ≡ option_map (λ lines. line ∷ lines) (ended_lines rest)
cut_lines [] line rest e = cc
cut_lines (b ∷ bs) line rest e = lines_from_cut b bs ∙ ap (option_and_then in_front) (sym (cut_is 10 (b ∷ bs)) ∙ e)

-- a text that isn't empty and has no line feed has no ended lines
pub cut_no_lines : (text : List ℕ) → cut_at 10 text ≡ None → (text ≡ [] → ⊥) → ended_lines text ≡ None
cut_no_lines [] e some = absurd (some refl)
cut_no_lines (b ∷ bs) e some = lines_from_cut b bs ∙ ap (option_and_then in_front) (sym (cut_is 10 (b ∷ bs)) ∙ e)

cut_shorter_case : (byte : ℕ) (text front back : List ℕ) → cut byte text ≡ Some (front, back) → length back < length text
cut_shorter_case byte [] front back e = cc
cut_shorter_case byte (b ∷ bs) front back e = go (eqb b byte) (cut byte bs) (λ x. cut_shorter_case byte bs x back) e
  where
    go : (s : Bool) (o : Option (List ℕ × List ℕ)) → ((x : List ℕ) → o ≡ Some (x, back) → length back < length bs)
        → cond {A = Option (List ℕ × List ℕ)} s (Some ([], bs)) (option_map (λ p. (b ∷ p.0, p.1)) o) ≡ Some (front, back) → length back < suc (length bs)
    go true o ih f =
        let whole : ([], bs) ≡ (front, back) = same_Some _ _ f in
        let same : bs ≡ back = ap (λ (p : List ℕ × List ℕ). p.1) whole in
        subst (λ (xs : List ℕ). length xs < suc (length bs)) same (omega arith)
    go false None ih f = cc
    go false (Some (x, y)) ih f =
        let whole : (b ∷ x, y) ≡ (front, back) = same_Some _ _ f in
        let same : y ≡ back = ap (λ (p : List ℕ × List ℕ). p.1) whole in
        let less : length back < length bs = ih x (ap (λ (z : List ℕ). Some (x, z)) same) in
        omega arith

-- what is behind a cut is shorter than the text
pub cut_shorter : (byte : ℕ) (text front back : List ℕ) → cut_at byte text ≡ Some (front, back) → length back < length text
cut_shorter byte text front back e = cut_shorter_case byte text front back (sym (cut_is byte text) ∙ e)
