-- What clap's walk makes of the words: the uses of the words, one after the other.
use Rattle.std.proofs.Common.{◌≡◌, ◌∙◌, ℕ, zero, suc, Bool, cond, true, false, ◌&&◌, ◌||◌, refl, sym, ap, subst, List, [], ◌∷◌, map, length, Option, Some, None, codes, option_map, option_and_then, bytes_eq}
use Rattle.std.specs.List.{find, fold}
use Rattle.std.specs.Option.{option_map_or}
use Rattle.std.specs.Prelude.{slice_get}
use Rattle.std.specs.Str.{chars}
use Rattle.std.proofs.lemmas.Slice.Eq.{bytes_eq-Decides}
use Rattle.clap.specs.Lexer.{long_of, short_of}
use Rattle.clap.specs.Kinds.{Kinds, or_else}
use Rattle.clap.specs.declared.error.kind.ErrorKind.TheVariants.{UnknownArgument, InvalidValue}
use Rattle.clap.specs.Walk.{Held, Outcome, after_flag, plain, Row, Rule, Step, Text, Waiting, idle, option, positional, next, trailing, value, Walk, after_step, arg_by_id, arg_by_index, arg_by_long, arg_by_short, bundle_met, is_pending, long_met, long_word, plain_word, pushed, settled, short_or_plain, subcommand_met, subcommand_or_other, used, walked, walk_from, nothing_held}
use Rattle.clap.specs.Simple.{Shape, new_shape}
use Rattle.clap.specs.Faults.{bundle_fault, flags_fault, long_fault, other_fault, settle_fault, step_fault, turn_fault, use_fault, walk_fault}
use Rattle.clap.proofs.FaultLemmas.{fault_ends}
use Rattle.option_words.specs.Grammar.{Known, Use, given, stem, then_uses, text_of}
use Rattle.option_words.specs.Found.{if_none}
use Rattle.option_words.proofs.Rules.{built_option, built_stem, by_index, by_long, by_short, known_name, named, option_by_id, rules_with, stem_by_id, stem_of}

-- ---- faults and options

split : {A : Type 0} (a b c : Kinds) (o : Option A) → if_none (or_else (or_else a b) c) o ≡ if_none a (if_none (or_else b c) o)
split [] b c o = refl
split (k ∷ ks) b c o = refl

either_fault : {A : Type 0} (a b : Kinds) (o : Option A) → if_none (or_else (or_else a b) []) o ≡ if_none a (if_none b o)
either_fault [] [] o = refl
either_fault [] (k ∷ ks) o = refl
either_fault (k ∷ ks) b o = refl

alone : {A : Type 0} (a : Kinds) (o : Option A) → if_none (or_else a []) o ≡ if_none a o
alone [] o = refl
alone (k ∷ ks) o = refl

through : {A B : Type 0} (ks : Kinds) (f : A → Option B) (x : A) → if_none ks (f x) ≡ option_and_then f (if_none ks (Some x))
through [] f x = refl
through (k ∷ ks) f x = refl

same_value : {A : Type 0} (o : Option A) → o ≡ option_and_then (λ x. Some x) o
same_value None = refl
same_value (Some x) = refl

none_after : {A B : Type 0} (o : Option A) → option_and_then {T = A} {U = B} (λ x. None) o ≡ None
none_after None = refl
none_after (Some x) = refl

-- ---- uses, one after the other

abbrev pub taken : Option Rule → Text → List Row → Option (List Row)
taken None v rows = None
taken (Some a) v rows = if_none (use_fault false a (v ∷ []) rows) (Some (used a (v ∷ []) rows))

abbrev pub rule_for : List Rule → Use → Option Rule
rule_for c (given name v) = arg_by_long c name
rule_for c (stem v) = arg_by_index c 1

-- the rows after the uses, where each passes
unfoldable pub applied : List Rule → List Use → List Row → Option (List Row)
applied c [] rows = Some rows
applied c (u ∷ uses) rows = option_and_then (applied c uses) (taken (rule_for c u) (text_of u) rows)

after_use : (c : List Rule) (u : Use) (o : Option (List Use)) (rows : List Row)
    → option_and_then (λ uses. applied c uses rows) (then_uses u o) ≡ option_and_then (λ r. option_and_then (λ uses. applied c uses r) o) (taken (rule_for c u) (text_of u) rows)
unfolding applied
after_use c u None rows = sym (none_after (taken (rule_for c u) (text_of u) rows))
after_use c u (Some uses) rows = refl

-- ---- the uses that clap sees in the words

abbrev pub loose_option : Text → Option Text → (Option Text → Option (List Use)) → Option (List Use)
loose_option name (Some v) more = then_uses (given name v) (more None)
loose_option name None more = more (Some name)

-- by what a word is: `--`, an option, a flag
abbrev pub loose_from : Bool → Option (Text × Option Text) → Option ℕ → Option Text → Text → List Text → (Option Text → Option (List Use)) → Option (List Use)
loose_from true l f None word words more = Some (map stem words)
loose_from true l f (Some name) word words more = None
loose_from false (Some p) f None word words more = loose_option p.0 p.1 more
loose_from false (Some p) f (Some name) word words more = None
loose_from false None (Some x) waiting word words more = None
loose_from false None None None word words more = then_uses (stem word) (more None)
loose_from false None None (Some name) word words more = then_uses (given name word) (more None)

abbrev pub dashes : Text
dashes = 45 ∷ 45 ∷ []

abbrev pub flag_of : Text → Option ℕ
flag_of word = option_and_then (λ flags. slice_get (chars flags) 0) (short_of word)

unfoldable pub loose_uses : List Text → Option Text → Option (List Use)
loose_uses [] None = Some []
loose_uses [] (Some name) = None
loose_uses (word ∷ words) waiting = loose_from (bytes_eq word dashes) (long_of word) (flag_of word) waiting word words (loose_uses words)

-- ---- clap's walk

-- the command as it is built
abbrev pub top_of : List Rule → Shape
top_of rules = record (new_shape (codes "pcg")) {
  rules = rules;
  no_binary_name = true;
  disable_help_flag = true;
  disable_help_subcommand = true;
  disable_version_flag = true;
  is_built = true;
}

-- the rows at the end, where no word fails
abbrev pub outcome : List Rule → Walk → List Text → Option (List Row)
outcome c w words = if_none (or_else (walk_fault (top_of c) [] w words) (settle_fault c false (fold (walked c []) w words).held)) (Some (settled c (fold (walked c []) w words).held).rows)

abbrev holding : List Row → Option (Text × List Text) → Held
holding rows q = record { rows = rows; pending = q; skip = 0 }

abbrev pub at_word : List Row → Option (Text × List Text) → Waiting → Bool → Walk
at_word rows q w t = record { held = holding rows q; waiting = w; position = 1; is_trailing = t; stopped = None }

step : (c : List Rule) (w : Walk) (word : Text) (words : List Text) → outcome c w (word ∷ words) ≡ if_none (turn_fault (top_of c) [] w word) (outcome c (walked c [] w word) words)
unfolding walk_fault
step c w word words =
    split (turn_fault (top_of c) [] w word) (walk_fault (top_of c) [] (walked c [] w word) words)
    (settle_fault c false (fold (walked c []) (walked c [] w word) words).held) (Some (settled c (fold (walked c []) (walked c [] w word) words).held).rows)

no_subcommand : (w : Waiting) (word : Text) → subcommand_met [] w word ≡ None
no_subcommand idle word = refl
no_subcommand (option id) word = refl
no_subcommand positional word = refl

-- a word before `--`, by what it is
met_step : (c : List Rule) (rows : List Row) (q : Option (Text × List Text)) (w : Waiting) (word : Text) (words : List Text) (ks : Kinds) (m : Held × Step)
    → other_fault (top_of c) None word (holding rows q) ≡ ks → subcommand_or_other c None w 1 word (holding rows q) ≡ m
    → outcome c (at_word rows q w false) (word ∷ words) ≡ if_none (or_else ks (step_fault (top_of c) 1 m.0 m.1)) (outcome c (after_step c word (at_word rows q w false) m.0 m.1) words)
unfolding walked
met_step c rows q w word words ks m fault met =
    step c (at_word rows q w false) word words
    ∙ ap (λ (o : Option Text). if_none (or_else (other_fault (top_of c) o word (holding rows q)) (step_fault (top_of c) 1 (subcommand_or_other c o w 1 word (holding rows q)).0 (subcommand_or_other c o w 1 word (holding rows q)).1))
    (outcome c (after_step c word (at_word rows q w false) (subcommand_or_other c o w 1 word (holding rows q)).0 (subcommand_or_other c o w 1 word (holding rows q)).1) words)) (no_subcommand w word)
    ∙ (λ i. if_none (or_else (fault i) (step_fault (top_of c) 1 (met i).0 (met i).1)) (outcome c (after_step c word (at_word rows q w false) (met i).0 (met i).1) words))

module _ (c : List Rule) (rows : List Row) (q : Option (Text × List Text)) (w : Waiting) (word : Text) where
  abbrev h : Held
  h = holding rows q

  ends_met : bytes_eq word dashes ≡ true → (other_fault (top_of c) None word h ≡ []) × (subcommand_or_other c None w 1 word h ≡ (h, trailing 1))
  ends_met e = (rw e refl, rw e refl)

  option_is_met : (n : Text) (v : Option Text) → bytes_eq word dashes ≡ false → long_of word ≡ Some (n, v)
      → (other_fault (top_of c) None word h ≡ long_fault c false (arg_by_long c n) v h) × (subcommand_or_other c None w 1 word h ≡ long_word c w word n v h)
  option_is_met n v e l = (rw (e, l) refl, rw (e, l) refl)

no_bundle : (c : List Rule) (h : Held) (k : ℕ) (flags : Text) → slice_get (chars flags) 0 ≡ None → bundle_met c k flags 0 plain h ≡ (h, plain)
unfolding bundle_met
no_bundle c h zero flags none = refl
no_bundle c h (suc k) flags none = rw none refl

-- a text with no first character is no bundle of flags
no_flags : (c : List Rule) (rows : List Row) (q : Option (Text × List Text)) (w : Waiting) (word : Text) (o : Option Text) → option_and_then (λ flags. slice_get (chars flags) 0) o ≡ None
    → (option_map_or (λ flags. bundle_fault c false flags (holding rows q)) o [] ≡ [])
    × (short_or_plain c w word o (holding rows q) ≡ plain_word c w word (holding rows q))
no_flags c rows q w word None none = (refl, refl)
no_flags c rows q w word (Some flags) none = (
  sym (fault_ends c false (length flags) flags 0 (holding rows q) (sym none)),
  ap (λ (p : Held × Outcome). after_flag c w word p.0 p.1) (no_bundle c (holding rows q) (length flags) flags none),
)

plain_met : (c : List Rule) (rows : List Row) (q : Option (Text × List Text)) (w : Waiting) (word : Text) → bytes_eq word dashes ≡ false → long_of word ≡ None → flag_of word ≡ None
    → (other_fault (top_of c) None word (holding rows q) ≡ []) × (subcommand_or_other c None w 1 word (holding rows q) ≡ plain_word c w word (holding rows q))
plain_met c rows q w word e l f =
    let no = no_flags c rows q w word (short_of word) f in
    (rw (e, l) no.0, rw (e, l) no.1)

-- a flag is unknown
module _ (c : List Rule) (none_short : (x : ℕ) → arg_by_short c x ≡ None) where
  flags_unknown : (h : Held) (k : ℕ) (flags : Text) (x : ℕ) → slice_get (chars flags) 0 ≡ Some x → length flags ≡ suc k → flags_fault c false (length flags) flags 0 h ≡ UnknownArgument ∷ []
  unfolding flags_fault
  flags_unknown h k flags x e n = rw (n, e, none_short x) refl

  flag_unknown : (rows : List Row) (q : Option (Text × List Text)) (o : Option Text) (x : ℕ) → option_and_then (λ flags. slice_get (chars flags) 0) o ≡ Some x
      → option_map_or (λ flags. bundle_fault c false flags (holding rows q)) o [] ≡ UnknownArgument ∷ []
  unfolding chars
  flag_unknown rows q None x e = cc e
  flag_unknown rows q (Some []) x e = cc e
  flag_unknown rows q (Some (b ∷ bs)) x e = flags_unknown (holding rows q) (length bs) (b ∷ bs) x e refl

  flag_met : (rows : List Row) (q : Option (Text × List Text)) (word : Text) (x : ℕ) → bytes_eq word dashes ≡ false → long_of word ≡ None → flag_of word ≡ Some x
      → other_fault (top_of c) None word (holding rows q) ≡ UnknownArgument ∷ []
  flag_met rows q word x e l f = rw (e, l) (flag_unknown rows q (short_of word) x f)

-- ---- the walk over a command of options and stems

abbrev pending : Option (Rule × Text) → Option (Text × List Text)
pending None = None
pending (Some p) = Some (p.0.id, p.1 ∷ [])

-- the rule of what is pending is found by its id
abbrev IsFound : List Rule → Option (Rule × Text) → Type 0
IsFound c None = Unit {0}
IsFound c (Some p) = arg_by_id c p.0.id ≡ Some p.0

abbrev settling : Option (Rule × Text) → List Row → Option (List Row)
settling None rows = Some rows
settling (Some p) rows = taken (Some p.0) p.1 rows

settles : (c : List Rule) (rows : List Row) (p : Option (Rule × Text)) → IsFound c p
    → if_none (settle_fault c false (holding rows (pending p))) (Some (settled c (holding rows (pending p))).rows) ≡ settling p rows
settles c rows None found = refl
settles c rows (Some (a, v)) found = rw found refl

no_keep : {A : Type 0} (b : Bool) (x y : A) → cond (b && false) x y ≡ y
no_keep true x y = refl
no_keep false x y = refl

or_false : (t : Bool) → (t || false) ≡ t
or_false true = refl
or_false false = refl

-- what waits for no value
abbrev IsFree : Waiting → Type 0
IsFree idle = Unit {0}
IsFree positional = Unit {0}
IsFree (option id) = ⊥

free_plain : (c : List Rule) (w : Waiting) (word : Text) (h : Held) → IsFree w → plain_word c w word h ≡ (h, value)
free_plain c idle word h free = refl
free_plain c positional word h free = refl
free_plain c (option id) word h free = absurd free

same_text : (t : Text) → bytes_eq t t ≡ true
same_text t = (bytes_eq-Decides t t).1 refl

module _ (known : List Known) (stems : Bool) (unnamed : find (named (codes "stem")) known ≡ None) where
  abbrev c : List Rule
  c = rules_with known stems

  stem_found : (v : Text) → stems ≡ true → IsFound c (Some (built_stem, v))
  stem_found v e = subst (λ b. arg_by_id (rules_with known b) (codes "stem") ≡ Some built_stem) (sym e) (stem_by_id known unnamed)

  -- a stem ends what was pending, and waits itself
  module _ (rows : List Row) (q : Option (Text × List Text)) (word : Text) where
    abbrev here : Held
    here = holding rows q

    no_stem : stems ≡ false → step_fault (top_of c) 1 here value ≡ UnknownArgument ∷ []
    no_stem e = rw (by_index known stems, e) refl

    stem_fault : stems ≡ true → step_fault (top_of c) 1 here value ≡ settle_fault c false here
    stem_fault e = rw (by_index known stems, e) (no_keep {A = Kinds} (is_pending built_stem q) [] _)

    stem_waits : (w : Waiting) (t : Bool) → stems ≡ true → after_step c word (at_word rows q w t) here value ≡ at_word (settled c here).rows (Some (codes "stem", word ∷ [])) positional t
    stem_waits w t e = rw (by_index known stems, e) (λ i. record { held = pushed (codes "stem") word (no_keep {A = Held} (is_pending built_stem q) here (settled (rules_with known true) here) i); waiting = positional; position = 1; is_trailing = or_false t i; stopped = None })

  rule_is : (b : Bool) → stems ≡ b → arg_by_index c 1 ≡ stem_of b
  rule_is b e = by_index known stems ∙ ap stem_of e

  stem_step : (rows : List Row) (p : Option (Rule × Text)) (w : Waiting) (t : Bool) (word : Text) (words : List Text) (g : List Row → Option (List Row)) → IsFound c p
      → (stems ≡ true → (rows : List Row) → outcome c (at_word rows (Some (codes "stem", word ∷ [])) positional t) words ≡ option_and_then g (taken (Some built_stem) word rows))
      → (b : Bool) → stems ≡ b
      → if_none (step_fault (top_of c) 1 (holding rows (pending p)) value) (outcome c (after_step c word (at_word rows (pending p) w t) (holding rows (pending p)) value) words)
      ≡ option_and_then (λ r. option_and_then g (taken (arg_by_index c 1) word r)) (settling p rows)
  stem_step rows p w t word words g found more true e =
      let q = pending p in
      let sf : Kinds = settle_fault c false (holding rows q) in
      let sr : List Row = (settled c (holding rows q)).rows in
      (λ i. if_none (stem_fault rows q word e i) (outcome c (stem_waits rows q word w t e i) words))
      ∙ ap (if_none sf) (more e sr)
      ∙ through sf (λ r. option_and_then g (taken (Some built_stem) word r)) sr
      ∙ ap (option_and_then (λ r. option_and_then g (taken (Some built_stem) word r))) (settles c rows p found)
      ∙ sym (ap (λ o. option_and_then (λ r. option_and_then g (taken o word r)) (settling p rows)) (rule_is true e))
  stem_step rows p w t word words g found more false e =
      ap (λ ks. if_none ks (outcome c (after_step c word (at_word rows (pending p) w t) (holding rows (pending p)) value) words)) (no_stem rows (pending p) word e)
      ∙ sym (none_after (settling p rows))
      ∙ sym (ap (λ o. option_and_then (λ r. option_and_then g (taken o word r)) (settling p rows)) (rule_is false e))

  -- behind `--` each word is a stem
  tail_words : (words : List Text) (rows : List Row) (p : Option (Rule × Text)) (w : Waiting) → IsFound c p
      → outcome c (at_word rows (pending p) w true) words ≡ option_and_then (applied c (map stem words)) (settling p rows)
  unfolding applied walk_fault walked
  tail_words [] rows p w found = settles c rows p found ∙ same_value (settling p rows)
  tail_words (word ∷ words) rows p w found =
      step c (at_word rows (pending p) w true) word words
      ∙ stem_step rows p w true word words (applied c (map stem words)) found (λ e rows. tail_words words rows (Some (built_stem, word)) positional (stem_found word e)) stems refl

  -- ---- names

  abbrev rest_after : List Text → Option Text → List Row → Option (List Row)
  rest_after words waiting r = option_and_then (λ uses. applied c uses r) (loose_uses words waiting)

  -- an option that isn't known fails, with its value or without
  unknown_waits : (name : Text) (words : List Text) (r : List Row) → arg_by_long c name ≡ None → rest_after words (Some name) r ≡ None
  unfolding loose_uses
  unknown_waits name [] r e = refl
  unknown_waits name (word ∷ words) r e = go (bytes_eq word dashes) (long_of word) (flag_of word)
    where
      go : (b : Bool) (l : Option (Text × Option Text)) (f : Option ℕ) → option_and_then (λ uses. applied c uses r) (loose_from b l f (Some name) word words (loose_uses words)) ≡ None
      go true l f = refl
      go false (Some x) f = refl
      go false None (Some x) = refl
      go false None None = after_use c (given name word) (loose_uses words None) r ∙ ap (λ o. option_and_then (rest_after words None) (taken o word r)) e

  unknown_uses : (name : Text) (v : Option Text) (words : List Text) (r : List Row) → arg_by_long c name ≡ None
      → option_and_then (λ uses. applied c uses r) (loose_option name v (loose_uses words)) ≡ None
  unknown_uses name (Some v) words r e = after_use c (given name v) (loose_uses words None) r ∙ ap (λ o. option_and_then (rest_after words None) (taken o v r)) e
  unknown_uses name None words r e = unknown_waits name words r e

  -- ---- an option that waits for its value

  waits_fault : (rows : List Row) (k : Known) → find (named k.0) known ≡ Some k → settle_fault c false (holding rows (Some (k.0, []))) ≡ InvalidValue ∷ []
  waits_fault rows k e = rw (option_by_id known stems k.0 k e) refl

  -- it fails at `--`
  stuck_tail : (words : List Text) (rows : List Row) (k : Known) (w : Waiting) → find (named k.0) known ≡ Some k → outcome c (at_word rows (Some (k.0, [])) w true) words ≡ None
  unfolding walk_fault walked
  stuck_tail [] rows k w e = ap (λ ks. if_none ks (Some (settled c (holding rows (Some (k.0, [])))).rows)) (waits_fault rows k e)
  stuck_tail (word ∷ words) rows k w e =
      step c (at_word rows (Some (k.0, [])) w true) word words
      ∙ go stems refl
    where
      go : (b : Bool) → stems ≡ b
          → if_none (step_fault (top_of c) 1 (holding rows (Some (k.0, []))) value) (outcome c (after_step c word (at_word rows (Some (k.0, [])) w true) (holding rows (Some (k.0, []))) value) words) ≡ None
      go true is =
          ap (λ ks. if_none ks (outcome c (after_step c word (at_word rows (Some (k.0, [])) w true) (holding rows (Some (k.0, []))) value) words))
          (stem_fault rows (Some (k.0, [])) word is ∙ waits_fault rows k e)
      go false is =
          ap (λ ks. if_none ks (outcome c (after_step c word (at_word rows (Some (k.0, [])) w true) (holding rows (Some (k.0, []))) value) words))
          (no_stem rows (Some (k.0, [])) word is)

  -- it fails at another option
  long_fails : (rows : List Row) (k : Known) (more : Kinds) (o : Option (List Row)) (name : Text) (v : Option Text) (x : Option Known) → find (named k.0) known ≡ Some k
      → if_none (or_else (long_fault c false (option_map built_option x) v (holding rows (Some (k.0, [])))) more) o ≡ None
  long_fails rows k more o name v None e = refl
  long_fails rows k more o name None (Some x) e = ap (λ ks. if_none (or_else ks more) o) (waits_fault rows k e)
  long_fails rows k more o name (Some v) (Some x) e =
      ap (λ ks. if_none (or_else (or_else ks (use_fault false (built_option x) (v ∷ []) (settled c (holding rows (Some (k.0, [])))).rows)) more) o) (waits_fault rows k e)

  -- ---- the walk over all the words

  record Reads (words : List Text) : Type 0 where
    free : (rows : List Row) (p : Option (Rule × Text)) (w : Waiting) → IsFree w → IsFound c p
        → outcome c (at_word rows (pending p) w false) words ≡ option_and_then (rest_after words None) (settling p rows)
    waits : (rows : List Row) (k : Known) → find (named k.0) known ≡ Some k
        → outcome c (at_word rows (Some (k.0, [])) (option k.0) false) words ≡ rest_after words (Some k.0) rows

  reads_none : Reads []
  unfolding walk_fault applied loose_uses
  reads_none = record {
    free = λ rows p w free found. settles c rows p found ∙ same_value (settling p rows);
    waits = λ rows k e. ap (λ ks. if_none ks (Some (settled c (holding rows (Some (k.0, [])))).rows)) (waits_fault rows k e);
  }

  module _ (word : Text) (words : List Text) (more : Reads words) where
    -- an option in the word
    module _ (rows : List Row) (p : Option (Rule × Text)) (w : Waiting) (name : Text) where
      abbrev at : Held
      at = holding rows (pending p)

      abbrev met_as : Option Rule → Option Text → Held × Step
      met_as o v = after_flag c w word (long_met c o v at).0 (long_met c o v at).1

      abbrev long_turn : Option Rule → Option Text → Option (List Row)
      long_turn o v = if_none (or_else (long_fault c false o v at) (step_fault (top_of c) 1 (met_as o v).0 (met_as o v).1)) (outcome c (after_step c word (at_word rows (pending p) w false) (met_as o v).0 (met_as o v).1) words)

      rule_named : (x : Option Known) → find (named name) known ≡ x → arg_by_long c name ≡ option_map built_option x
      rule_named x e = by_long known stems name ∙ ap (option_map built_option) e

      known_long : (v : Option Text) (x : Option Known) → find (named name) known ≡ x → IsFound c p
          → long_turn (option_map built_option x) v ≡ option_and_then (λ r. option_and_then (λ uses. applied c uses r) (loose_option name v (loose_uses words))) (settling p rows)
      known_long v None e found =
          sym (none_after (settling p rows)) ∙ sym (λ i. option_and_then (λ r. unknown_uses name v words r (rule_named None e) i) (settling p rows))
      known_long (Some v) (Some k) e found =
          let a = built_option k in
          let sf : Kinds = settle_fault c false at in
          let sr : List Row = (settled c at).rows in
          let uf : Kinds = use_fault false a (v ∷ []) sr in
          let g : List Row → Option (List Row) = λ r. option_and_then (rest_after words None) (taken (Some a) v r) in
          let same : (r : List Row) → g r ≡ option_and_then (λ uses. applied c uses r) (then_uses (given name v) (loose_uses words None)) =
          λ r. sym (after_use c (given name v) (loose_uses words None) r ∙ ap (λ o. option_and_then (rest_after words None) (taken o v r)) (rule_named (Some k) e)) in
          either_fault sf uf (outcome c (at_word (used a (v ∷ []) sr) None idle false) words)
          ∙ ap (λ o. if_none sf (if_none uf o)) (more.free (used a (v ∷ []) sr) None idle tt tt)
          ∙ ap (if_none sf) (through uf (rest_after words None) (used a (v ∷ []) sr))
          ∙ through sf g sr
          ∙ ap (option_and_then g) (settles c rows p found)
          ∙ (λ i. option_and_then (λ r. same r i) (settling p rows))
      known_long None (Some k) e found =
          let sf : Kinds = settle_fault c false at in
          let sr : List Row = (settled c at).rows in
          let is : k.0 ≡ name = known_name known name k e in
          let here : find (named k.0) known ≡ Some k = subst (λ n. find (named n) known ≡ Some k) (sym is) e in
          alone sf (outcome c (at_word sr (Some (k.0, [])) (option k.0) false) words)
          ∙ ap (if_none sf) (more.waits sr k here)
          ∙ through sf (rest_after words (Some k.0)) sr
          ∙ ap (option_and_then (rest_after words (Some k.0))) (settles c rows p found)
          ∙ ap (λ n. option_and_then (rest_after words (Some n)) (settling p rows)) is

    reads_free : (rows : List Row) (p : Option (Rule × Text)) (w : Waiting) → IsFree w → IsFound c p
        → (b : Bool) (l : Option (Text × Option Text)) (f : Option ℕ) → bytes_eq word dashes ≡ b → long_of word ≡ l → flag_of word ≡ f
        → outcome c (at_word rows (pending p) w false) (word ∷ words) ≡ option_and_then (λ r. option_and_then (λ uses. applied c uses r) (loose_from b l f None word words (loose_uses words))) (settling p rows)
    reads_free rows p w free found true l f eb el ef =
        let met = ends_met c rows (pending p) w word eb in
        met_step c rows (pending p) w word words [] (holding rows (pending p), trailing 1) met.0 met.1 ∙ tail_words words rows p w found
    reads_free rows p w free found false (Some (n, v)) f eb el ef =
        let met = option_is_met c rows (pending p) w word n v eb el in
        met_step c rows (pending p) w word words (long_fault c false (arg_by_long c n) v (holding rows (pending p))) (long_word c w word n v (holding rows (pending p))) met.0 met.1
        ∙ ap (λ o. long_turn rows p w n o v) (by_long known stems n)
        ∙ known_long rows p w n v (find (named n) known) refl found
    reads_free rows p w free found false None (Some x) eb el ef =
        met_step c rows (pending p) w word words (UnknownArgument ∷ []) (subcommand_or_other c None w 1 word (holding rows (pending p))) (flag_met c (by_short known stems) rows (pending p) word x eb el ef) refl
        ∙ sym (none_after (settling p rows))
    reads_free rows p w free found false None None eb el ef =
        let met = plain_met c rows (pending p) w word eb el ef in
        let same : (r : List Row) → option_and_then (rest_after words None) (taken (arg_by_index c 1) word r) ≡ option_and_then (λ uses. applied c uses r) (then_uses (stem word) (loose_uses words None)) =
        λ r. sym (after_use c (stem word) (loose_uses words None) r) in
        met_step c rows (pending p) w word words [] (holding rows (pending p), value) met.0 (met.1 ∙ free_plain c w word (holding rows (pending p)) free)
        ∙ stem_step rows p w false word words (rest_after words None) found (λ e rows. more.free rows (Some (built_stem, word)) positional tt (stem_found word e)) stems refl
        ∙ (λ i. option_and_then (λ r. same r i) (settling p rows))

    word_waits : (rows : List Row) (k : Known) → find (named k.0) known ≡ Some k
        → plain_word c (option k.0) word (holding rows (Some (k.0, []))) ≡ (holding rows (Some (k.0, word ∷ [])), next idle)
    word_waits rows k e = rw (option_by_id known stems k.0 k e, same_text k.0) refl

    reads_waits : (rows : List Row) (k : Known) → find (named k.0) known ≡ Some k
        → (b : Bool) (l : Option (Text × Option Text)) (f : Option ℕ) → bytes_eq word dashes ≡ b → long_of word ≡ l → flag_of word ≡ f
        → outcome c (at_word rows (Some (k.0, [])) (option k.0) false) (word ∷ words) ≡ option_and_then (λ uses. applied c uses rows) (loose_from b l f (Some k.0) word words (loose_uses words))
    reads_waits rows k e true l f eb el ef =
        let q = Some (k.0, []) in
        let met = ends_met c rows q (option k.0) word eb in
        met_step c rows q (option k.0) word words [] (holding rows q, trailing 1) met.0 met.1 ∙ stuck_tail words rows k (option k.0) e
    reads_waits rows k e false (Some (n, v)) f eb el ef =
        let q = Some (k.0, []) in
        let met = option_is_met c rows q (option k.0) word n v eb el in
        let m = long_word c (option k.0) word n v (holding rows q) in
        let ks : Kinds = step_fault (top_of c) 1 m.0 m.1 in
        let o : Option (List Row) = outcome c (after_step c word (at_word rows q (option k.0) false) m.0 m.1) words in
        met_step c rows q (option k.0) word words (long_fault c false (arg_by_long c n) v (holding rows q)) m met.0 met.1
        ∙ ap (λ a. if_none (or_else (long_fault c false a v (holding rows q)) ks) o) (by_long known stems n)
        ∙ long_fails rows k ks o n v (find (named n) known) e
    reads_waits rows k e false None (Some x) eb el ef =
        let q = Some (k.0, []) in
        met_step c rows q (option k.0) word words (UnknownArgument ∷ []) (subcommand_or_other c None (option k.0) 1 word (holding rows q)) (flag_met c (by_short known stems) rows q word x eb el ef) refl
    reads_waits rows k e false None None eb el ef =
        let q = Some (k.0, []) in
        let met = plain_met c rows q (option k.0) word eb el ef in
        met_step c rows q (option k.0) word words [] (holding rows (Some (k.0, word ∷ [])), next idle) met.0 (met.1 ∙ word_waits rows k e)
        ∙ more.free rows (Some (built_option k, word)) idle tt (option_by_id known stems k.0 k e)
        ∙ sym (after_use c (given k.0 word) (loose_uses words None) rows
        ∙ ap (λ o. option_and_then (rest_after words None) (taken o word rows)) (by_long known stems k.0 ∙ ap (option_map built_option) e))

    reads_more : Reads (word ∷ words)
    unfolding loose_uses
    reads_more = record {
      free = λ rows p w free found. reads_free rows p w free found (bytes_eq word dashes) (long_of word) (flag_of word) refl refl refl;
      waits = λ rows k e. reads_waits rows k e (bytes_eq word dashes) (long_of word) (flag_of word) refl refl refl;
    }

  reads : (words : List Text) → Reads words
  reads [] = reads_none
  reads (word ∷ words) = reads_more word words (reads words)

  -- clap's walk comes to the uses that it sees in the words, one after the other
  pub outcome_is : (words : List Text) → outcome c (walk_from nothing_held) words ≡ option_and_then (λ uses. applied c uses []) (loose_uses words None)
  outcome_is words = (reads words).free [] None idle tt tt
