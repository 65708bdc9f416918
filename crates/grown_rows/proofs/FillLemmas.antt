-- A record behind the others with the pointers that lead to it.
use Rattle.std.proofs.Common.{◌≡◌, ℕ, ◌+◌, ◌-◌, ◌*◌, ◌<◌, ◌≤◌, Bool, true, false, cond, eqb, ltb, List, [], ◌∷◌, ◌++◌, length, take, set, get_or, refl, sym, ◌∙◌, ap, subst, arith, append_assoc, length-append}
use Rattle.std.specs.List.{AllByRecursion, list_any}
use Rattle.std.proofs.lemmas.Bool.{eqb-false}
use Rattle.std.proofs.lemmas.List.{length-set, get_or-set_other, get_or_append_left, set-append_left, take_more}
use Rattle.record_rows.specs.Rows.{Row}
use Rattle.record_rows.specs.Words.{words_of}
use Rattle.record_rows.specs.Growth.{Store, stored, names_word}
use Rattle.record_rows.proofs.TellLemmas.{length-words_of}
use Rattle.row_append.specs.Tails.{word_number}
use Rattle.row_append.specs.declared.tail.Tail.{Tail}
use Rattle.grown_rows.specs.Growths.{Grown, grown_of, grown, with_words, with_pointer, Once, IsHeld, IsGrowth, filled_by, stores_to, IsOpen}
use Rattle.grown_rows.specs.Aimed.{tails_at}
use Rattle.row_append.proofs.Leaving.{or_none}
use Rattle.grown_rows.proofs.Holding.{put_words, put_held, fill_words, fill_held, long}

pub tail_kept : (g : Grown) (place k v : ℕ) → (with_pointer g place k v).tail ≡ g.tail
tail_kept g place k v = go (ltb place g.tail)
  where
    go : (b : Bool) → (cond b (grown_of g.tail g.more (g.links ++ record { from = place; k = k; to = v } ∷ [])) (grown_of g.tail (set g.more (8 * (place - g.tail) + k) v) g.links)).tail ≡ g.tail
    go true = refl
    go false = refl

still_open : (words : List ℕ) (i v : ℕ) (tails : List Tail) → names_word (stores_to v tails) i ≡ false → AllByRecursion (IsOpen words) tails → AllByRecursion (IsOpen (set words i v)) tails
unfolding names_word stores_to
still_open words i v [] n a = tt
still_open words i v (t ∷ tails) n a =
    let q : (eqb (word_number t) i ≡ false) × (list_any (λ s. eqb s.word i) (stores_to v tails) ≡ false) = or_none (eqb (word_number t) i) (list_any (λ s. eqb s.word i) (stores_to v tails)) n in
    let l : length (set words i v) ≡ length words = length-set words i v in
    let b : word_number t < length words = a.0.1 in
    ((a.0.0, omega arith, get_or-set_other words i (word_number t) v 0 (eqb-false (word_number t) i q.0) ∙ a.0.2), still_open words i v tails q.1 a.1)

pub fill_all : (old : List ℕ) (v : ℕ) (tails : List Tail) (g : Grown) (words : List ℕ) → IsHeld old g → grown g old ≡ words → g.tail ≤ v → 8 * v < length words
    → AllByRecursion (IsOpen words) tails → Once (stores_to v tails) → IsHeld old (filled_by v tails g) × (grown (filled_by v tails g) old ≡ stored (stores_to v tails) words)
unfolding filled_by stores_to stored
fill_all old v [] g words h e a b o n = (h, e)
fill_all old v (t ∷ tails) g words h e a b o n =
    let z : get_or (grown g old) (word_number t) 0 ≡ 0 = ap (λ ws. get_or ws (word_number t) 0) e ∙ o.0.2 in
    let i : word_number t < length (grown g old) = subst (λ ws. word_number t < length ws) (sym e) o.0.1 in
    let next : grown (with_pointer g t.spot t.word v) old ≡ set words (word_number t) v = fill_words old g h t.spot t.word v o.0.0 ∙ ap (λ ws. set ws (word_number t) v) e in
    let l : length (set words (word_number t) v) ≡ length words = length-set words (word_number t) v in
    fill_all old v tails (with_pointer g t.spot t.word v) (set words (word_number t) v)
    (fill_held old g h t.spot t.word v o.0.0 z i a (subst (λ ws. 8 * v < length ws) (sym e) b))
    next
    (let k = tail_kept g t.spot t.word v in omega arith)
    (omega arith)
    (still_open words (word_number t) v tails n.0 o.1)
    n.1

stored_front : (stores : List Store) (words row : List ℕ) → AllByRecursion (λ s. s.word < length words) stores → stored stores (words ++ row) ≡ stored stores words ++ row
unfolding stored
stored_front [] words row a = refl
stored_front (s ∷ stores) words row a =
    ap (stored stores) (set-append_left words row s.word s.value a.0)
    ∙ stored_front stores (set words s.word s.value) row (inside stores a.1)
  where
    inside : (ss : List Store) → AllByRecursion (λ t. t.word < length words) ss → AllByRecursion (λ t. t.word < length (set words s.word s.value)) ss
    inside [] b = tt
    inside (t ∷ ss) b = let l : length (set words s.word s.value) ≡ length words = length-set words s.word s.value in let m : t.word < length words = b.0 in (omega arith, inside ss b.1)

all_inside : (words : List ℕ) (v : ℕ) (tails : List Tail) → AllByRecursion (IsOpen words) tails → AllByRecursion (λ s. s.word < length words) (stores_to v tails)
unfolding stores_to
all_inside words v [] a = tt
all_inside words v (t ∷ tails) a = (a.0.1, all_inside words v tails a.1)

open_more : (words row : List ℕ) (tails : List Tail) → AllByRecursion (IsOpen words) tails → AllByRecursion (IsOpen (words ++ row)) tails
open_more words row [] a = tt
open_more words row (t ∷ tails) a =
    let n : length (words ++ row) ≡ length words + length row = length-append words row in
    let b : word_number t < length words = a.0.1 in
    ((a.0.0, omega arith, get_or_append_left words row 0 (word_number t) a.0.1 ∙ a.0.2), open_more words row tails a.1)

module _ (old more : List Row) (g : Grown) (is : IsGrowth old more g) where
  pub headed_length : g.tail ≡ length old
  headed_length = let a : length (words_of old) ≡ 8 * g.tail = is.held.tail in let b = length-words_of old in omega arith

  pub more_length : length g.more ≡ 8 * length more
  more_length =
      let a : length (grown g (words_of old)) ≡ length (words_of (old ++ more)) = ap length is.stands in
      let b = length-words_of (old ++ more) in
      let c = length-append old more in
      let d = long (words_of old) g is.held in
      let e = headed_length in
      omega arith

  -- the place of the next record
  pub next_is : g.tail + length more ≡ length (old ++ more)
  next_is = let a = headed_length in let b = length-append old more in omega arith

  pub grown_by : (row : Row) (words : List ℕ) (v : ℕ) (tails : List Tail) → v ≡ length (old ++ more) → 0 < length words
      → AllByRecursion (IsOpen (words_of (old ++ more))) tails → Once (stores_to v tails)
      → stored (stores_to v tails) (words_of (old ++ more)) ++ words ≡ words_of ((old ++ more) ++ row ∷ [])
      → IsGrowth old (more ++ row ∷ []) (filled_by v tails (with_words g words))
  grown_by row words v tails p l opened once e =
      let all : List ℕ = words_of (old ++ more) in
      let put : grown (with_words g words) (words_of old) ≡ all ++ words = put_words (words_of old) g is.held words ∙ ap (λ ws. ws ++ words) is.stands in
      let n : length all ≡ 8 * length (old ++ more) = length-words_of (old ++ more) in
      let m : length (all ++ words) ≡ length all + length words = length-append all words in
      let t = next_is in
      let done = fill_all (words_of old) v tails (with_words g words) (all ++ words) (put_held (words_of old) g is.held words) put (omega arith) (omega arith) (open_more all words tails opened) once in
      record {
        headed = is.headed;
        held = done.0;
        stands = done.1 ∙ (stored_front (stores_to v tails) all words (all_inside all v tails opened) ∙ (e ∙ ap words_of (append_assoc old more (row ∷ []))));
      }

  pub place_is : (p : ℕ) → ((n : ℕ) → length g.more ≡ 8 * n → p ≡ g.tail + n) → p ≡ length (old ++ more)
  place_is p f = f (length more) more_length ∙ next_is

-- what two calls that fill a pointer come to
pub after_two : (g one two three : Grown) (row : List ℕ) (s t : Tail) (v : ℕ) → one ≡ with_words g row → two ≡ with_pointer one s.spot s.word v → three ≡ with_pointer two t.spot t.word v
    → filled_by v (s ∷ t ∷ []) (with_words g row) ≡ three
unfolding filled_by
after_two g one two three row s t v e f h = sym (h ∙ ap (λ x. with_pointer x t.spot t.word v) (f ∙ ap (λ x. with_pointer x s.spot s.word v) e))

pub after_one : (g one two : Grown) (row : List ℕ) (s : Tail) (v : ℕ) → one ≡ with_words g row → two ≡ with_pointer one s.spot s.word v → filled_by v (s ∷ []) (with_words g row) ≡ two
unfolding filled_by
after_one g one two row s v e f = sym (f ∙ ap (λ x. with_pointer x s.spot s.word v) e)

pub after_none : (g one : Grown) (row : List ℕ) (v : ℕ) → one ≡ with_words g row → filled_by v [] (with_words g row) ≡ one
unfolding filled_by
after_none g one row v e = sym e

pub filled_append : (v : ℕ) (xs ys : List Tail) (g : Grown) → filled_by v (xs ++ ys) g ≡ filled_by v ys (filled_by v xs g)
unfolding filled_by
filled_append v [] ys g = refl
filled_append v (t ∷ xs) ys g = filled_append v xs ys (with_pointer g t.spot t.word v)

pub filled_none : (v : ℕ) (g : Grown) → filled_by v [] g ≡ g
unfolding filled_by
filled_none v g = refl

tails_append : (xs ys : List ℕ) → tails_at (xs ++ ys) ≡ tails_at xs ++ tails_at ys
tails_append [] ys = refl
tails_append (x ∷ xs) ys = ap (λ ts. record { spot = x; word = 6 } ∷ ts) (tails_append xs ys)

-- one more retired node
pub filled_more : (v : ℕ) (xs : List ℕ) (k x d : ℕ) (g : Grown) → k < length xs → x ≡ get_or xs k d → with_pointer (filled_by v (tails_at (take k xs)) g) x 6 v ≡ filled_by v (tails_at (take (k + 1) xs)) g
unfolding filled_by
filled_more v xs k x d g l e =
    sym (ap (λ ys. filled_by v (tails_at ys) g) (take_more xs k d l ∙ ap (λ y. take k xs ++ y ∷ []) (sym e))
    ∙ (ap (λ ts. filled_by v ts g) (tails_append (take k xs) (x ∷ [])) ∙ filled_append v (tails_at (take k xs)) (record { spot = x; word = 6 } ∷ []) g))

pub filled_first : (g one two three : Grown) (row : List ℕ) (t : Tail) (tails : List Tail) (v : ℕ) → one ≡ with_words g row → two ≡ with_pointer one t.spot t.word v → three ≡ filled_by v tails two
    → filled_by v (t ∷ tails) (with_words g row) ≡ three
unfolding filled_by
filled_first g one two three row t tails v e f h = sym (h ∙ ap (filled_by v tails) (f ∙ ap (λ x. with_pointer x t.spot t.word v) e))
