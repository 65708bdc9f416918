-- What clap takes, against the grammar of the words.
use Rattle.std.proofs.Common.{◌≡◌, ◌∙◌, ℕ, suc, ◌+◌, Bool, cond, true, false, not, ◌&&◌, ◌||◌, nat_lt, eqb-true, lt-ltb, le-ltb, refl, sym, ap, subst, List, [], ◌∷◌, ◌++◌, map, length, take, drop, Option, Some, None, option_and_then, option_map, bytes_eq, true≢false, inl, inr, arith, Err}
use Rattle.std.specs.List.{find, list_any, list_all, position_or_len}
use Rattle.std.specs.Option.{option_map_or}
use Rattle.std.specs.Bool.{◌==◌}
use Rattle.std.specs.Prelude.{slice_get}
use Rattle.std.specs.Str.{chars}
use Rattle.std.proofs.lemmas.Bool.{cases_lt, and_parts}
use Rattle.clap.specs.declared.error.kind.ErrorKind.TheVariants.{MissingRequiredArgument}
use Rattle.clap.specs.Lexer.{has_byte, long_of, name_and_value}
use Rattle.clap.specs.Takes.{is_given}
use Rattle.clap.specs.Walk.{Row, Rule, Text, first_of}
use Rattle.option_words.specs.Grammar.{Known, Form, Use, given, stem, option, other, all_differ, all_plain, fits, form_of, is_empty, is_known, is_plain, line_of, line_with, Line, names_of, only_if, option_form, stems_of, text_of, then_uses, uses_from, uses_of, value_of}
use Rattle.option_words.specs.Found.{clap_found, if_none, is_plain_if_there, line_in, line_plain, stem_id}
use Rattle.option_words.specs.Spelled.{Spells}
use Rattle.option_words.specs.declared.line.WordsError.{WordsError}
use Rattle.option_words.specs.declared.line.WordsError.TheVariants as errors
use Rattle.option_words.proofs.Rules.{built_option, built_stems, named, rules_with}
use Rattle.option_words.proofs.Walks.{applied, dashes, flag_of, loose_from, loose_uses}
use Rattle.option_words.proofs.Faults.{clap_finds, if_all_there, is_missing}
use Rattle.option_words.proofs.Uses.{Agrees, Shows, agrees, both_ways, known_is, may_stand, same_text, stands, stems_apart, turned}

-- ---- what has to stand

abbrev is_absent : List Use → Known → Bool
is_absent uses k = k.1 && not (list_any (λ n. bytes_eq n k.0) (names_of uses))

abbrev lacks : List Known → Bool → List Use → Bool
lacks known stems uses = list_any (is_absent uses) known || (stems && is_empty (stems_of uses))

not_and : (a b : Bool) → (not a || b) ≡ not (a && not b)
not_and true true = refl
not_and true false = refl
not_and false b = refl

none_absent : {A : Type 0} (p q : A → Bool) (xs : List A) → list_all (λ x. not (p x) || q x) xs ≡ not (list_any (λ x. p x && not (q x)) xs)
none_absent p q [] = refl
none_absent p q (x ∷ xs) = ap (λ b. (not (p x) || q x) && b) (none_absent p q xs) ∙ ap (λ b. b && not (list_any (λ x. p x && not (q x)) xs)) (not_and (p x) (q x)) ∙ go (p x && not (q x)) (list_any (λ x. p x && not (q x)) xs)
  where
    go : (a b : Bool) → (not a && not b) ≡ not (a || b)
    go true b = refl
    go false b = refl

all_known : (known : List Known) (n : Text) → may_stand known [] n ≡ is_known known n
all_known known n = go (is_known known n)
  where
    go : (b : Bool) → (b && true) ≡ b
    go true = refl
    go false = refl

sorted_out : (a d m s e : Bool) → (((a && d) && not m) && cond s (not e) e) ≡ ((a && (d && (s || e))) && not (m || (s && e)))
sorted_out false d m s e = refl
sorted_out true false m s e = refl
sorted_out true true true true e = go e
  where
    go : (e : Bool) → false ≡ (true && false)
    go e = refl
sorted_out true true true false e = go e
  where
    go : (e : Bool) → false ≡ (e && false)
    go true = refl
    go false = refl
sorted_out true true false true true = refl
sorted_out true true false true false = refl
sorted_out true true false false true = refl
sorted_out true true false false false = refl

fits_is : (known : List Known) (stems : Bool) (uses : List Use) → fits known stems uses ≡ (stands known stems [] uses && not (lacks known stems uses))
unfolding fits
fits_is known stems uses =
    let d = all_differ (names_of uses) in
    let e = is_empty (stems_of uses) in
    (λ i. ((list_all (λ n. sym (all_known known n) i) (names_of uses) && d) && none_absent (λ (k : Known). k.1) (λ k. list_any (λ n. bytes_eq n k.0) (names_of uses)) known i) && cond stems (not e) e)
    ∙ sorted_out (list_all (may_stand known []) (names_of uses)) d (list_any (is_absent uses) known) stems e

module _ (uses : List Use) (rows : List Row) (shown : Shows [] uses rows) where
  absent_is : (known : List Known) (more : List Rule) → find (named stem_id) known ≡ None
      → list_any (λ a. a.required && not (is_given a.id rows)) (map built_option known ++ more) ≡ (list_any (is_absent uses) known || list_any (λ a. a.required && not (is_given a.id rows)) more)
  absent_is [] more unnamed = refl
  absent_is (k ∷ known) more unnamed = go (bytes_eq k.0 stem_id) refl unnamed (absent_is known more)
    where
      rest : Bool
      rest = list_any (λ a. a.required && not (is_given a.id rows)) more

      either_way : (a b c : Bool) → (a || (b || c)) ≡ ((a || b) || c)
      either_way true b c = refl
      either_way false b c = refl

      go : (b : Bool) → bytes_eq k.0 stem_id ≡ b → cond b (Some k) (find (named stem_id) known) ≡ None
          → (find (named stem_id) known ≡ None → list_any (λ a. a.required && not (is_given a.id rows)) (map built_option known ++ more) ≡ (list_any (is_absent uses) known || rest))
          → ((k.1 && not (is_given k.0 rows)) || list_any (λ a. a.required && not (is_given a.id rows)) (map built_option known ++ more)) ≡ ((is_absent uses k || list_any (is_absent uses) known) || rest)
      go true e f more = cc f
      go false e f more = (λ i. (k.1 && not (shown.is_there k.0 (turned k.0 stem_id e) i)) || more f i) ∙ either_way (is_absent uses k) (list_any (is_absent uses) known) rest

  stems_absent : (stems : Bool) → list_any (λ a. a.required && not (is_given a.id rows)) (built_stems stems) ≡ (stems && is_empty (stems_of uses))
  stems_absent false = refl
  stems_absent true = ap (λ b. not b || false) shown.has_stem ∙ go (is_empty (stems_of uses))
    where
      go : (e : Bool) → (not (not e) || false) ≡ e
      go true = refl
      go false = refl

  missing_is : (known : List Known) (stems : Bool) → find (named stem_id) known ≡ None → is_missing (rules_with known stems) rows ≡ lacks known stems uses
  missing_is known stems unnamed = absent_is known (built_stems stems) unnamed ∙ ap (λ b. list_any (is_absent uses) known || b) (stems_absent stems)

-- the uses fit exactly where clap takes them
pub uses_found : (known : List Known) (stems : Bool) → find (named stem_id) known ≡ None → (uses : List Use)
    → Agrees [] uses (option_and_then (if_all_there (rules_with known stems)) (applied (rules_with known stems) uses [])) (fits known stems uses)
uses_found known stems unnamed uses = go (applied c uses []) (agrees known stems unnamed uses [])
  where
    c : List Rule
    c = rules_with known stems

    go : (o : Option (List Row)) → Agrees [] uses o (stands known stems [] uses) → Agrees [] uses (option_and_then (if_all_there (rules_with known stems)) o) (fits known stems uses)
    go None h = fits_is known stems uses ∙ ap (λ b. b && not (lacks known stems uses)) h
    go (Some rows) h = there (lacks known stems uses) refl
      where
        there : (b : Bool) → lacks known stems uses ≡ b → Agrees [] uses (if_all_there (rules_with known stems) rows) (fits known stems uses)
        there true e =
            subst (λ m. Agrees [] uses (if_none (cond m (MissingRequiredArgument ∷ []) []) (Some rows)) (fits known stems uses)) (sym (missing_is uses rows h.1 known stems unnamed ∙ e))
            (fits_is known stems uses ∙ (λ i. h.0 i && not (e i)))
        there false e =
            subst (λ m. Agrees [] uses (if_none (cond m (MissingRequiredArgument ∷ []) []) (Some rows)) (fits known stems uses)) (sym (missing_is uses rows h.1 known stems unnamed ∙ e))
            (fits_is known stems uses ∙ (λ i. h.0 i && not (e i)), h.1)

-- ---- an option's word is cut at its first `=`

ltb_step : (a b : ℕ) → nat_lt (1 + a) (suc b) ≡ nat_lt a b
ltb_step a b = elim (cases_lt a b) [
  | inl lt ↦ lt-ltb (1 + a) (suc b) (omega arith) ∙ sym (lt-ltb a b lt)
  | inr le ↦ le-ltb (1 + a) (suc b) (omega arith) ∙ sym (le-ltb a b le)
]

abbrev place : Text → ℕ
place text = position_or_len (λ x. x == 61) text

is_there : (text : Text) → has_byte 61 text ≡ nat_lt (place text) (length text)
is_there [] = refl
is_there (x ∷ xs) = go (x == 61) (is_there xs)
  where
    go : (b : Bool) → has_byte 61 xs ≡ nat_lt (place xs) (length xs) → (b || has_byte 61 xs) ≡ nat_lt (cond (not b) (1 + place xs) 0) (suc (length xs))
    go true e = sym (lt-ltb 0 (suc (length xs)) (omega arith))
    go false e = e ∙ sym (ltb_step (place xs) (length xs))

whole : (text : Text) → has_byte 61 text ≡ false → take (place text) text ≡ text
whole [] e = refl
whole (x ∷ xs) e = go (x == 61) e (whole xs)
  where
    go : (b : Bool) → (b || has_byte 61 xs) ≡ false → (has_byte 61 xs ≡ false → take (place xs) xs ≡ xs) → take (cond (not b) (1 + place xs) 0) (x ∷ xs) ≡ x ∷ xs
    go true f more = absurd (true≢false f)
    go false f more = let one : 1 + place xs ≡ suc (place xs) = omega arith in ap (λ n. take n (x ∷ xs)) one ∙ ap (λ t. x ∷ t) (more f)

abbrev cut_form : Text → Option (Text × Text) → Form
cut_form text o = option_map_or (λ (p : Text × Text). option p.0 (Some p.1)) o (option text None)

abbrev cut_there : Text → Bool → Option (Text × Text)
cut_there text b = option_map (λ i. (take i text, drop (i + 1) text)) (cond b (Some (place text)) None)

form_is : (text : Text) → option_form text ≡ option (name_and_value text).0 (name_and_value text).1
form_is text = ap (λ b. cut_form text (cut_there text b)) (sym (is_there text)) ∙ go (has_byte 61 text) refl
  where
    go : (b : Bool) → has_byte 61 text ≡ b → cut_form text (cut_there text b) ≡ option (take (place text) text) (cond b (Some (drop (place text + 1) text)) None)
    go true e = refl
    go false e = ap (λ t. option t None) (sym (whole text e))

-- ---- words of plain values and stems

plain_then : (u : Use) (o : Option (List Use)) → option_and_then (only_if all_plain) (then_uses u o) ≡ cond (is_plain (text_of u)) (then_uses u (option_and_then (only_if all_plain) o)) None
plain_then u None = go (is_plain (text_of u))
  where
    go : (b : Bool) → ◌≡◌ {A = Option (List Use)} None (cond b None None)
    go true = refl
    go false = refl
plain_then u (Some uses) = go (is_plain (text_of u)) (all_plain uses)
  where
    go : (a b : Bool) → cond (a && b) (Some (u ∷ uses)) None ≡ cond a (then_uses u (cond b (Some uses) None)) None
    go true true = refl
    go true false = refl
    go false b = refl

also_then : (u : Use) (a b : Option (List Use)) → option_and_then (only_if all_plain) a ≡ option_and_then (only_if all_plain) b
    → option_and_then (only_if all_plain) (then_uses u a) ≡ option_and_then (only_if all_plain) (then_uses u b)
also_then u a b e = plain_then u a ∙ ap (λ o. cond (is_plain (text_of u)) (then_uses u o) None) e ∙ sym (plain_then u b)

not_plain : (u : Use) (o : Option (List Use)) → is_plain (text_of u) ≡ false → option_and_then (only_if all_plain) (then_uses u o) ≡ None
not_plain u o e = plain_then u o ∙ ap (λ b. cond b (then_uses u (option_and_then (only_if all_plain) o)) None) e

module _ (words : List Text) (more : (w : Option Text) → option_and_then (only_if all_plain) (uses_of words w) ≡ option_and_then (only_if all_plain) (loose_uses words w)) where
  abbrev Alike : Form → Bool → Option (Text × Option Text) → Option ℕ → Text → Option Text → Type 0
  Alike form e l f word w = option_and_then (only_if all_plain) (uses_from w form word words (uses_of words)) ≡ option_and_then (only_if all_plain) (loose_from e l f w word words (loose_uses words))

  -- no hyphen
  other_alike : (word : Text) (w : Option Text) → Alike other false None None word w
  other_alike word None = also_then (stem word) (uses_of words None) (loose_uses words None) (more None)
  other_alike word (Some name) = also_then (given name word) (uses_of words None) (loose_uses words None) (more None)

  -- one hyphen
  flag_alike : (word : Text) (f : Option ℕ) (w : Option Text) → is_plain word ≡ false → Alike other false None f word w
  flag_alike word None w e = other_alike word w
  flag_alike word (Some x) None e = not_plain (stem word) (uses_of words None) e
  flag_alike word (Some x) (Some name) e = not_plain (given name word) (uses_of words None) e

  -- two
  long_alike : (word name : Text) (v : Option Text) (f : Option ℕ) (w : Option Text) → is_plain word ≡ false → Alike (option name v) false (Some (name, v)) f word w
  long_alike word name (Some v) f None e = also_then (given name v) (uses_of words None) (loose_uses words None) (more None)
  long_alike word name None f None e = more (Some name)
  long_alike word name v f (Some waiting) e = not_plain (given waiting word) (uses_of words None) e

  abbrev AlikeAt : Text → Option Text → Type 0
  AlikeAt word w = Alike (form_of word) (bytes_eq word dashes) (long_of word) (flag_of word) word w

  dashes_alike : (rest : Text) (w : Option Text) → AlikeAt (45 ∷ 45 ∷ rest) w
  dashes_alike [] None = refl
  dashes_alike [] (Some name) = not_plain (given name dashes) (uses_of words None) refl
  dashes_alike (z ∷ zs) w =
      subst (λ form. Alike form false (Some (name_and_value (z ∷ zs))) (flag_of (45 ∷ 45 ∷ z ∷ zs)) (45 ∷ 45 ∷ z ∷ zs) w) (sym (form_is (z ∷ zs)))
      (long_alike (45 ∷ 45 ∷ z ∷ zs) (name_and_value (z ∷ zs)).0 (name_and_value (z ∷ zs)).1 (flag_of (45 ∷ 45 ∷ z ∷ zs)) w refl)

  hyphen_alike : (rest : Text) (w : Option Text) → AlikeAt (45 ∷ rest) w
  hyphen_alike [] w = other_alike (45 ∷ []) w
  hyphen_alike (y ∷ ys) w = go (y == 45) refl
    where
      go : (b : Bool) → (y == 45) ≡ b → AlikeAt (45 ∷ y ∷ ys) w
      go true e = subst (λ n. AlikeAt (45 ∷ n ∷ ys) w) (sym (eqb-true y 45 e)) (dashes_alike ys w)
      go false e = rw e (flag_alike (45 ∷ y ∷ ys) (slice_get (chars (y ∷ ys)) 0) w refl)

  word_alike : (word : Text) (w : Option Text) → AlikeAt word w
  word_alike [] w = other_alike [] w
  word_alike (x ∷ xs) w = go (x == 45) refl
    where
      go : (b : Bool) → (x == 45) ≡ b → AlikeAt (x ∷ xs) w
      go true e = subst (λ n. AlikeAt (n ∷ xs) w) (sym (eqb-true x 45 e)) (hyphen_alike xs w)
      go false e = rw e (other_alike (x ∷ xs) w)

-- of words whose values and stems are plain both readings see the same uses
pub same_plain : (words : List Text) (w : Option Text) → option_and_then (only_if all_plain) (uses_of words w) ≡ option_and_then (only_if all_plain) (loose_uses words w)
unfolding uses_of loose_uses
same_plain [] None = refl
same_plain [] (Some name) = refl
same_plain (word ∷ words) w = word_alike words (λ w. same_plain words w) word w

-- ---- the line of the rows

module _ (known : List Known) (unnamed : find (named stem_id) known ≡ None) where
  no_stem_value : (uses : List Use) → list_all (is_known known) (names_of uses) ≡ true → value_of stem_id uses ≡ None
  unfolding names_of value_of
  no_stem_value [] e = refl
  no_stem_value (given name v ∷ uses) e =
      let p = and_parts (is_known known name) (list_all (is_known known) (names_of uses)) e in
      ap (λ b. cond b (Some v) (value_of stem_id uses)) (turned stem_id name (stems_apart known true unnamed name p.0)) ∙ no_stem_value uses p.1
  no_stem_value (stem text ∷ uses) e = no_stem_value uses e

  same_line : (uses : List Use) (rows : List Row) → Shows [] uses rows → list_all (is_known known) (names_of uses) ≡ true → line_in rows ≡ line_with uses
  same_line uses rows h e = λ i. record { value = λ name. same_value name (bytes_eq stem_id name) refl i; stems = h.stems i }
    where
      same_value : (name : Text) (b : Bool) → bytes_eq stem_id name ≡ b → cond b None (first_of name rows) ≡ value_of name uses
      same_value name true is = sym (no_stem_value uses e) ∙ ap (λ n. value_of n uses) (same_text stem_id name is)
      same_value name false is = h.first name is

-- ---- plain rows

-- a test that one place decides
one_place : {A : Type 0} (e f g : A → Bool) (a : Bool) (xs : List A) → ((x : A) → e x ≡ true → g x ≡ true) → ((x : A) → f x ≡ cond (e x) a (g x))
    → list_all f xs ≡ ((not (list_any e xs) || a) && list_all g xs)
one_place e f g a [] h is = refl
one_place e f g a (x ∷ xs) h is = (λ i. is x i && one_place e f g a xs h is i) ∙ go (e x) refl (list_any e xs) a (list_all g xs)
  where
    all_false : (a : Bool) → (a && false) ≡ false
    all_false true = refl
    all_false false = refl

    go : (b : Bool) → e x ≡ b → (any a all : Bool) → (cond b a (g x) && ((not any || a) && all)) ≡ ((not (b || any) || a) && (g x && all))
    go true t any true all = or_is any all ∙ sym (ap (λ b. b && all) (h x t))
      where
        or_is : (any all : Bool) → ((not any || true) && all) ≡ all
        or_is true all = refl
        or_is false all = refl
    go true t any false all = refl
    go false t any a all = swap (g x) (not any || a) all
      where
        swap : (p q r : Bool) → (p && (q && r)) ≡ (q && (p && r))
        swap true true r = refl
        swap true false r = refl
        swap false true r = refl
        swap false false r = refl

all_there : (known : List Known) → list_all (λ (k : Known). true) known ≡ true
all_there [] = refl
all_there (k ∷ known) = all_there known

never_named : (name : Text) (uses : List Use) → list_any (bytes_eq name) (names_of uses) ≡ false → value_of name uses ≡ None
unfolding names_of value_of
never_named name [] e = refl
never_named name (given found v ∷ uses) e = go (bytes_eq name found) refl e (never_named name uses)
  where
    go : (b : Bool) → bytes_eq name found ≡ b → (b || list_any (bytes_eq name) (names_of uses)) ≡ false → (list_any (bytes_eq name) (names_of uses) ≡ false → value_of name uses ≡ None)
        → cond (bytes_eq found name) (Some v) (value_of name uses) ≡ None
    go true t f more = absurd (true≢false f)
    go false t f more = ap (λ b. cond b (Some v) (value_of name uses)) (turned name found t) ∙ more f
never_named name (stem text ∷ uses) e = never_named name uses e

abbrev values_plain : List Known → List Use → Bool
values_plain known uses = list_all (λ k. is_plain_if_there (value_of k.0 uses)) known

plain_are : (known : List Known) (uses : List Use) → list_all (is_known known) (names_of uses) ≡ true → all_differ (names_of uses) ≡ true
    → (values_plain known uses && list_all is_plain (stems_of uses)) ≡ all_plain uses
unfolding names_of stems_of value_of
plain_are known [] a d = ap (λ b. b && true) (all_there known)
plain_are known (given name v ∷ uses) a d =
    let p = and_parts (is_known known name) (list_all (is_known known) (names_of uses)) a in
    let q = and_parts (not (list_any (bytes_eq name) (names_of uses))) (all_differ (names_of uses)) d in
    let fresh : value_of name uses ≡ None = never_named name uses (not_true (list_any (bytes_eq name) (names_of uses)) q.0) in
    ap (λ b. b && list_all is_plain (stems_of uses))
    (one_place (λ (k : Known). bytes_eq name k.0) (λ k. is_plain_if_there (cond (bytes_eq name k.0) (Some v) (value_of k.0 uses))) (λ k. is_plain_if_there (value_of k.0 uses)) (is_plain v) known
    (λ k e. ap is_plain_if_there (ap (λ n. value_of n uses) (sym (same_text name k.0 e)) ∙ fresh))
    (λ k. one_value (bytes_eq name k.0) (value_of k.0 uses)))
    ∙ ap (λ b. ((not b || is_plain v) && values_plain known uses) && list_all is_plain (stems_of uses)) (known_turned known name ∙ p.0)
    ∙ grouped (is_plain v) (values_plain known uses) (list_all is_plain (stems_of uses))
    ∙ ap (λ b. is_plain v && b) (plain_are known uses p.1 q.1)
  where
    not_true : (b : Bool) → not b ≡ true → b ≡ false
    not_true true e = sym e
    not_true false e = refl

    one_value : (b : Bool) (o : Option Text) → is_plain_if_there (cond b (Some v) o) ≡ cond b (is_plain v) (is_plain_if_there o)
    one_value true o = refl
    one_value false o = refl

    grouped : (p q r : Bool) → ((p && q) && r) ≡ (p && (q && r))
    grouped true q r = refl
    grouped false q r = refl

    known_turned : (known : List Known) (name : Text) → list_any (λ (k : Known). bytes_eq name k.0) known ≡ is_known known name
    known_turned [] name = refl
    known_turned (k ∷ known) name = (λ i. both_ways name k.0 i || known_turned known name i)
plain_are known (stem text ∷ uses) a d = swapped (values_plain known uses) (is_plain text) (list_all is_plain (stems_of uses)) ∙ ap (λ b. is_plain text && b) (plain_are known uses a d)
  where
    swapped : (p q r : Bool) → (p && (q && r)) ≡ (q && (p && r))
    swapped true true r = refl
    swapped true false r = refl
    swapped false true r = refl
    swapped false false r = refl

abbrev pub line_if_plain : List Known → List Row → Option Line
line_if_plain known rows = only_if (line_plain known) (line_in rows)

-- what the words say is what clap found, where that is plain
pub line_is : (known : List Known) (stems : Bool) (words : List Text) → find (named stem_id) known ≡ None → line_of known stems words ≡ option_and_then (line_if_plain known) (clap_found known stems words)
unfolding line_of fits
line_is known stems words unnamed =
    ap (option_map line_with) (twice all_plain (fits known stems) (uses_of words None) ∙ ap (option_and_then (only_if (fits known stems))) (same_plain words None) ∙ sym (twice all_plain (fits known stems) (loose_uses words None)))
    ∙ go (loose_uses words None)
    ∙ ap (option_and_then (line_if_plain known)) (sym (clap_finds known stems words unnamed))
  where
    and_false : (b : Bool) → (b && false) ≡ false
    and_false true = refl
    and_false false = refl

    twice : (a b : List Use → Bool) (o : Option (List Use)) → option_and_then (only_if (λ u. a u && b u)) o ≡ option_and_then (only_if b) (option_and_then (only_if a) o)
    twice a b None = refl
    twice a b (Some u) = both (a u)
      where
        both : (t : Bool) → cond (t && b u) (Some u) None ≡ option_and_then (only_if b) (cond t (Some u) None)
        both true = refl
        both false = refl

    shown : (uses : List Use) (o : Option (List Row)) → Agrees [] uses o (fits known stems uses) → option_map line_with (only_if (λ u. all_plain u && fits known stems u) uses) ≡ option_and_then (line_if_plain known) o
    shown uses None h = ap (λ b. option_map line_with (cond b (Some uses) None)) (ap (λ f. all_plain uses && f) h ∙ and_false (all_plain uses))
    shown uses (Some rows) h =
        let names = names_of uses in
        let r = list_all (λ (k : Known). not k.1 || list_any (λ name. bytes_eq name k.0) names) known in
        let t = cond stems (not (is_empty (stems_of uses))) (is_empty (stems_of uses)) in
        let p = and_parts ((list_all (is_known known) names && all_differ names) && r) t h.0 in
        let q = and_parts (list_all (is_known known) names && all_differ names) r p.0 in
        let k = and_parts (list_all (is_known known) names) (all_differ names) q.0 in
        ap (λ b. option_map line_with (cond b (Some uses) None)) (ap (λ f. all_plain uses && f) h.0 ∙ and_true (all_plain uses))
        ∙ mapped (all_plain uses)
        ∙ sym (ap (only_if (line_plain known)) (same_line known unnamed uses rows h.1 k.0) ∙ ap (λ b. cond b (Some (line_with uses)) None) (plain_are known uses k.0 k.1))
      where
        and_true : (b : Bool) → (b && true) ≡ b
        and_true true = refl
        and_true false = refl

        mapped : (b : Bool) → option_map line_with (cond b (Some uses) None) ≡ cond b (Some (line_with uses)) None
        mapped true = refl
        mapped false = refl

    go : (o : Option (List Use)) → option_map line_with (option_and_then (only_if (λ u. all_plain u && fits known stems u)) o)
        ≡ option_and_then (line_if_plain known) (option_and_then (if_all_there (rules_with known stems)) (option_and_then (λ uses. applied (rules_with known stems) uses []) o))
    go None = refl
    go (Some uses) = shown uses (option_and_then (if_all_there (rules_with known stems)) (applied (rules_with known stems) uses [])) (uses_found known stems unnamed uses)

pub unnamed_is : (known : List Known) → is_known known stem_id ≡ false → find (named stem_id) known ≡ None
unnamed_is known e = go (find (named stem_id) known) refl
  where
    go : (x : Option Known) → find (named stem_id) known ≡ x → x ≡ None
    go None is = refl
    go (Some k) is = absurd (true≢false (sym (known_is known stem_id (Some k) is) ∙ e))

pub line_from : (known : List Known) (stems : Bool) (words : List Text) → is_known known stem_id ≡ false
    → line_of known stems words ≡ option_and_then (only_if (line_plain known)) (option_map line_in (clap_found known stems words))
line_from known stems words e = line_is known stems words (unnamed_is known e) ∙ go (clap_found known stems words)
  where
    go : (o : Option (List Row)) → option_and_then (line_if_plain known) o ≡ option_and_then (only_if (line_plain known)) (option_map line_in o)
    go None = refl
    go (Some rows) = refl

pub stopped : {A B : Type 0} (f : A → Option B) (o : Option A) (stop : WordsError) → Spells o (Err stop) → Spells (option_and_then f o) (Err stop)
stopped f o errors.BadWords e = ap (option_and_then f) e
stopped f o errors.NoMemory e = tt
