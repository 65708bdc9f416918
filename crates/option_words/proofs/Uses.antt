-- The rows that uses leave, and what they hold.
use Rattle.std.proofs.Common.{◌≡◌, ◌∙◌, Bool, cond, true, false, not, ◌&&◌, ◌||◌, refl, sym, ap, subst, List, [], ◌∷◌, ◌++◌, Option, Some, None, option_and_then, option_map, bytes_eq, append_assoc, append-nil, unwrap_or, is_some, true≢false}
use Rattle.std.specs.List.{find, list_any, list_all}
use Rattle.std.specs.Prelude.{slice_get}
use Rattle.std.proofs.lemmas.Slice.Eq.{bytes_eq-Decides}
use Rattle.clap.specs.declared.builder.value_parser.Reading.TheVariants as reading
use Rattle.clap.specs.declared.parser.matches.ValueSource.{ValueSource}
use Rattle.clap.specs.declared.parser.matches.ValueSource.TheVariants.{CommandLine, DefaultValue}
use Rattle.clap.specs.Facts.{explicit_source}
use Rattle.std.specs.Option.{option_map_or}
use Rattle.clap.specs.Takes.{is_given}
use Rattle.clap.specs.Kinds.{or_else}
use Rattle.clap.specs.declared.error.kind.ErrorKind.TheVariants.{ArgumentConflict}
use Rattle.clap.specs.Walk.{Row, Rule, Text, arg_by_index, arg_by_long, first_of, has_row, more_values, stronger, with_values, without}
use Rattle.option_words.specs.Grammar.{Known, Use, given, stem, all_differ, is_empty, is_known, names_of, stems_of, value_of}
use Rattle.option_words.specs.Found.{if_none, stem_id, values_of}
use Rattle.option_words.proofs.Rules.{built_option, by_index, by_long, known_name, named, rules_with, stem_of, first_some}
use Rattle.option_words.proofs.Walks.{applied, taken}

-- ---- texts

pub same_text : (a b : Text) → bytes_eq a b ≡ true → a ≡ b
same_text a b e = (bytes_eq-Decides a b).0 e

pub text_itself : (a : Text) → bytes_eq a a ≡ true
text_itself a = (bytes_eq-Decides a a).1 refl

pub turned : (a b : Text) → bytes_eq a b ≡ false → bytes_eq b a ≡ false
turned a b e = go (bytes_eq b a) refl
  where
    go : (t : Bool) → bytes_eq b a ≡ t → t ≡ false
    go true is = absurd (true≢false (sym ((bytes_eq-Decides a b).1 (sym (same_text b a is))) ∙ e))
    go false is = refl

pub both_ways : (a b : Text) → bytes_eq a b ≡ bytes_eq b a
both_ways a b = go (bytes_eq a b) refl
  where
    go : (t : Bool) → bytes_eq a b ≡ t → t ≡ bytes_eq b a
    go true is = sym ((bytes_eq-Decides b a).1 (sym (same_text a b is)))
    go false is = sym (turned a b is)

-- ---- one more value in the rows

abbrev pub put : Text → Text → List Row → List Row
put id v rows = with_values id reading.AsWritten CommandLine (v ∷ []) rows

abbrev found : Text → List Row → Option Row
found id rows = find (λ r. bytes_eq r.id id) rows

abbrev new_row : Text → Text → Row
new_row id v = record { id = id; values = v ∷ []; count = None; source = Some CommandLine; reading = reading.AsWritten }

abbrev grown : Text → Text → Option Row → Row
grown id v None = new_row id v
grown id v (Some r) = record r { values = r.values ++ v ∷ []; source = Some (stronger r.source CommandLine) }

found_here : (b : Bool) (x y : Row) (o : Option Row) → cond b (Some x) o ≡ cond b (Some x) (cond b (Some y) o)
found_here true x y o = refl
found_here false x y o = refl

found_there : (a b : Bool) (x y : Option Row) (o : Option Row) → (a ≡ true → b ≡ true → ⊥) → cond a x (cond b y o) ≡ cond b y (cond a x o)
found_there true true x y o never = absurd (never refl refl)
found_there true false x y o never = refl
found_there false b x y o never = refl

found_put : (id other v : Text) (rows : List Row) → found id (put other v rows) ≡ cond (bytes_eq other id) (Some (grown other v (found other rows))) (found id rows)
found_put id other v [] = refl
found_put id other v (r ∷ rs) = go (bytes_eq r.id other) refl (found_put id other v rs)
  where
    go : (b : Bool) → bytes_eq r.id other ≡ b → found id (put other v rs) ≡ cond (bytes_eq other id) (Some (grown other v (found other rs))) (found id rs)
        → found id (cond b (more_values CommandLine (v ∷ []) r ++ rs) (r ∷ put other v rs))
        ≡ cond (bytes_eq other id) (Some (grown other v (cond b (Some r) (found other rs)))) (cond (bytes_eq r.id id) (Some r) (found id rs))
    go true e more =
        let same : r.id ≡ other = same_text r.id other e in
        ap (λ n. cond (bytes_eq n id) (Some (grown other v (Some r))) (found id rs)) same
        ∙ found_here (bytes_eq other id) (grown other v (Some r)) r (found id rs)
        ∙ sym (ap (λ n. cond (bytes_eq other id) (Some (grown other v (Some r))) (cond (bytes_eq n id) (Some r) (found id rs))) same)
    go false e more =
        ap (λ o. cond (bytes_eq r.id id) (Some r) o) more
        ∙ found_there (bytes_eq r.id id) (bytes_eq other id) (Some r) (Some (grown other v (found other rs))) (found id rs) (λ a b. apart a b)
      where
        apart : bytes_eq r.id id ≡ true → bytes_eq other id ≡ true → ⊥
        apart a b = true≢false (sym ((bytes_eq-Decides r.id other).1 (same_text r.id id a ∙ sym (same_text other id b))) ∙ e)

-- ---- what is read of a row

has_row_is : (id : Text) (rows : List Row) → has_row id rows ≡ is_some (found id rows)
has_row_is id [] = refl
has_row_is id (r ∷ rs) = go (bytes_eq r.id id) (has_row_is id rs)
  where
    go : (b : Bool) → has_row id rs ≡ is_some (found id rs) → (b || has_row id rs) ≡ is_some (cond b (Some r) (found id rs))
    go true e = refl
    go false e = e

has_row_put : (id other v : Text) (rows : List Row) → has_row id (put other v rows) ≡ (bytes_eq other id || has_row id rows)
has_row_put id other v rows =
    has_row_is id (put other v rows) ∙ ap is_some (found_put id other v rows) ∙ go (bytes_eq other id) ∙ sym (ap (λ b. bytes_eq other id || b) (has_row_is id rows))
  where
    go : (b : Bool) → is_some (cond b (Some (grown other v (found other rows))) (found id rows)) ≡ (b || is_some (found id rows))
    go true = refl
    go false = refl

abbrev was_given : Option Row → Bool
was_given o = option_map_or (λ (r : Row). explicit_source r.source) o false

grown_given : (id v : Text) (o : Option Row) → was_given (Some (grown id v o)) ≡ true
grown_given id v None = refl
grown_given id v (Some r) = go r.source
  where
    go : (s : Option ValueSource) → explicit_source (Some (stronger s CommandLine)) ≡ true
    go None = refl
    go (Some CommandLine) = refl
    go (Some DefaultValue) = refl

given_put : (id other v : Text) (rows : List Row) → is_given id (put other v rows) ≡ (bytes_eq other id || is_given id rows)
given_put id other v rows = ap was_given (found_put id other v rows) ∙ go (bytes_eq other id)
  where
    go : (b : Bool) → was_given (cond b (Some (grown other v (found other rows))) (found id rows)) ≡ (b || was_given (found id rows))
    go true = grown_given other v (found other rows)
    go false = refl

abbrev first_value : Option Row → Option Text
first_value o = option_and_then (λ (r : Row). slice_get r.values 0) o

grown_first : (id v : Text) (o : Option Row) → first_value (Some (grown id v o)) ≡ first_some (first_value o) (Some v)
grown_first id v None = refl
grown_first id v (Some r) = go r.values
  where
    go : (vs : List Text) → slice_get (vs ++ v ∷ []) 0 ≡ first_some (slice_get vs 0) (Some v)
    go [] = refl
    go (x ∷ xs) = refl

first_put : (id other v : Text) (rows : List Row) → first_of id (put other v rows) ≡ first_some (first_of id rows) (cond (bytes_eq other id) (Some v) None)
first_put id other v rows = ap first_value (found_put id other v rows) ∙ go (bytes_eq other id) refl
  where
    no_more : (o : Option Text) → o ≡ first_some o None
    no_more None = refl
    no_more (Some x) = refl

    go : (b : Bool) → bytes_eq other id ≡ b → first_value (cond b (Some (grown other v (found other rows))) (found id rows)) ≡ first_some (first_of id rows) (cond b (Some v) None)
    go true e = grown_first other v (found other rows) ∙ ap (λ n. first_some (first_of n rows) (Some v)) (same_text other id e)
    go false e = no_more (first_of id rows)

abbrev row_values : Option Row → List Text
row_values o = unwrap_or (option_map (λ (r : Row). r.values) o) []

grown_values : (id v : Text) (o : Option Row) → row_values (Some (grown id v o)) ≡ row_values o ++ v ∷ []
grown_values id v None = refl
grown_values id v (Some r) = refl

values_put_same : (id v : Text) (rows : List Row) → values_of id (put id v rows) ≡ values_of id rows ++ v ∷ []
values_put_same id v rows =
    ap row_values (found_put id id v rows) ∙ ap (λ b. row_values (cond b (Some (grown id v (found id rows))) (found id rows))) (text_itself id) ∙ grown_values id v (found id rows)

values_put_other : (id other v : Text) (rows : List Row) → bytes_eq other id ≡ false → values_of id (put other v rows) ≡ values_of id rows
values_put_other id other v rows e = ap row_values (found_put id other v rows) ∙ ap (λ b. row_values (cond b (Some (grown other v (found other rows))) (found id rows))) e

without_none : (id : Text) (rows : List Row) → has_row id rows ≡ false → without id rows ≡ rows
without_none id [] e = refl
without_none id (r ∷ rs) e = go (bytes_eq r.id id) e (without_none id rs)
  where
    go : (b : Bool) → (b || has_row id rs) ≡ false → (has_row id rs ≡ false → without id rs ≡ rs) → cond b ([] ++ rs) (r ∷ without id rs) ≡ r ∷ rs
    go true f more = absurd (true≢false f)
    go false f more = ap (λ xs. r ∷ xs) (more f)

-- ---- one use

taken_option : (k : Known) (v : Text) (rows : List Row) → taken (Some (built_option k)) v rows ≡ cond (has_row k.0 rows) None (Some (put k.0 v rows))
taken_option k v rows = go (has_row k.0 rows) refl
  where
    go : (b : Bool) → has_row k.0 rows ≡ b
        → if_none (or_else (cond (b && true) (ArgumentConflict ∷ []) []) []) (Some (put k.0 v (without k.0 rows))) ≡ cond b None (Some (put k.0 v rows))
    go true e = refl
    go false e = ap (λ rs. Some (put k.0 v rs)) (without_none k.0 rows e)

any_found : {A : Type 0} (p : A → Bool) (xs : List A) → list_any p xs ≡ is_some (find p xs)
any_found p [] = refl
any_found p (x ∷ xs) = go (p x) (any_found p xs)
  where
    go : (b : Bool) → list_any p xs ≡ is_some (find p xs) → (b || list_any p xs) ≡ is_some (cond b (Some x) (find p xs))
    go true e = refl
    go false e = e

pub known_is : (known : List Known) (name : Text) (x : Option Known) → find (named name) known ≡ x → is_known known name ≡ is_some x
known_is known name x e = any_found (named name) known ∙ ap is_some e

-- ---- tests

reordered : (a b d s : Bool) → ((a && b) && (d && s)) ≡ (b && ((a && d) && s))
reordered true b d s = refl
reordered false true d s = refl
reordered false false d s = refl

or_true : (b : Bool) → (b || true) ≡ true
or_true true = refl
or_true false = refl

and_false : (b : Bool) → (b && false) ≡ false
and_false true = refl
and_false false = refl

or_three : (a b x : Bool) → ((a || b) || x) ≡ (b || (a || x))
or_three true true x = refl
or_three true false x = refl
or_three false true x = refl
or_three false false x = refl

-- none of the names is this one, and all pass
all_but : (p h e : Text → Bool) (ns : List Text) → list_all (λ n. p n && not (e n || h n)) ns ≡ (not (list_any e ns) && list_all (λ n. p n && not (h n)) ns)
all_but p h e [] = refl
all_but p h e (n ∷ ns) = ap (λ b. (p n && not (e n || h n)) && b) (all_but p h e ns) ∙ go (p n) (h n) (e n) (list_any e ns) (list_all (λ n. p n && not (h n)) ns)
  where
    go : (p h e a l : Bool) → ((p && not (e || h)) && (not a && l)) ≡ (not (e || a) && ((p && not h) && l))
    go true true true a l = refl
    go true true false true l = refl
    go true true false false l = refl
    go true false true a l = refl
    go true false false a l = refl
    go false h true a l = refl
    go false h false true l = refl
    go false h false false l = refl

abbrev pub may_stand : List Known → List Row → Text → Bool
may_stand known rows n = is_known known n && not (has_row n rows)

-- what the uses ask, beside the rows that are there
abbrev pub stands : List Known → Bool → List Row → List Use → Bool
stands known stems rows uses = list_all (may_stand known rows) (names_of uses) && (all_differ (names_of uses) && (stems || is_empty (stems_of uses)))

-- what the rows hold after the uses, beside what they held before them
pub record Shows (before : List Row) (uses : List Use) (rows : List Row) : Type 0 where
  pub first : (id : Text) → bytes_eq stem_id id ≡ false → first_of id rows ≡ first_some (first_of id before) (value_of id uses)
  pub stems : values_of stem_id rows ≡ values_of stem_id before ++ stems_of uses
  pub is_there : (id : Text) → bytes_eq stem_id id ≡ false → is_given id rows ≡ (is_given id before || list_any (λ n. bytes_eq n id) (names_of uses))
  pub has_stem : is_given stem_id rows ≡ (is_given stem_id before || not (is_empty (stems_of uses)))

abbrev pub Agrees : List Row → List Use → Option (List Row) → Bool → Type 0
Agrees before uses None b = b ≡ false
Agrees before uses (Some rows) b = (b ≡ true) × Shows before uses rows

agrees_as : (before more : List Row) (uses others : List Use) (o : Option (List Row)) (b d : Bool) → b ≡ d → ((rows : List Row) → Shows before uses rows → Shows more others rows)
    → Agrees before uses o b → Agrees more others o d
agrees_as before more uses others None b d e f h = sym e ∙ h
agrees_as before more uses others (Some rows) b d e f h = (sym e ∙ h.0, f rows h.1)

no_first : (o : Option Text) → o ≡ first_some o None
no_first None = refl
no_first (Some x) = refl

nothing_or : (b : Bool) → b ≡ (b || false)
nothing_or true = refl
nothing_or false = refl

shows_none : (rows : List Row) → Shows rows [] rows
unfolding value_of stems_of names_of
shows_none rows = record {
  first = λ id e. no_first (first_of id rows);
  stems = sym (append-nil (values_of stem_id rows));
  is_there = λ id e. nothing_or (is_given id rows);
  has_stem = nothing_or (is_given stem_id rows);
}

first_two : (a : Option Text) (b : Bool) (v : Text) (o : Option Text) → first_some (first_some a (cond b (Some v) None)) o ≡ first_some a (cond b (Some v) o)
first_two None true v o = refl
first_two None false v o = refl
first_two (Some x) b v o = refl

shows_given : (before : List Row) (name v : Text) (uses : List Use) (rows : List Row) → bytes_eq name stem_id ≡ false → Shows (put name v before) uses rows → Shows before (given name v ∷ uses) rows
unfolding value_of stems_of names_of
shows_given before name v uses rows apart h = record {
  first = λ id e. h.first id e ∙ ap (λ o. first_some o (value_of id uses)) (first_put id name v before) ∙ first_two (first_of id before) (bytes_eq name id) v (value_of id uses);
  stems = h.stems ∙ ap (λ vs. vs ++ stems_of uses) (values_put_other stem_id name v before apart);
  is_there = λ id e. h.is_there id e ∙ ap (λ b. b || list_any (λ n. bytes_eq n id) (names_of uses)) (given_put id name v before)
      ∙ or_three (bytes_eq name id) (is_given id before) (list_any (λ n. bytes_eq n id) (names_of uses));
  has_stem = h.has_stem ∙ ap (λ b. b || not (is_empty (stems_of uses))) (given_put stem_id name v before ∙ ap (λ b. b || is_given stem_id before) apart);
}

shows_stem : (before : List Row) (v : Text) (uses : List Use) (rows : List Row) → Shows (put stem_id v before) uses rows → Shows before (stem v ∷ uses) rows
unfolding value_of stems_of names_of
shows_stem before v uses rows h = record {
  first = λ id e. h.first id e ∙ ap (λ o. first_some o (value_of id uses)) (first_put id stem_id v before ∙ ap (λ b. first_some (first_of id before) (cond b (Some v) None)) e ∙ sym (no_first (first_of id before)));
  stems = h.stems ∙ ap (λ vs. vs ++ stems_of uses) (values_put_same stem_id v before) ∙ append_assoc (values_of stem_id before) (v ∷ []) (stems_of uses);
  is_there = λ id e. h.is_there id e ∙ ap (λ b. b || list_any (λ n. bytes_eq n id) (names_of uses)) (given_put id stem_id v before ∙ ap (λ b. b || is_given id before) e);
  has_stem = h.has_stem ∙ ap (λ b. b || not (is_empty (stems_of uses))) (given_put stem_id stem_id v before) ∙ sym (or_true (is_given stem_id before));
}

-- ---- the uses, one after the other

module _ (known : List Known) (stems : Bool) (unnamed : find (named stem_id) known ≡ None) where
  abbrev c : List Rule
  c = rules_with known stems

  -- a known option isn't named as the stems are
  pub stems_apart : (n : Text) → is_known known n ≡ true → bytes_eq stem_id n ≡ false
  stems_apart n e = go (bytes_eq stem_id n) refl
    where
      go : (b : Bool) → bytes_eq stem_id n ≡ b → b ≡ false
      go true is = absurd (true≢false (sym e ∙ ap (is_known known) (sym (same_text stem_id n is)) ∙ known_is known stem_id None unnamed))
      go false is = refl

  stands_given : (name v : Text) (uses : List Use) (rows : List Row) → is_known known name ≡ true → has_row name rows ≡ false
      → stands known stems (put name v rows) uses ≡ stands known stems rows (given name v ∷ uses)
  unfolding names_of stems_of
  stands_given name v uses rows there fresh =
      let ns = names_of uses in
      let rest = all_differ ns && (stems || is_empty (stems_of uses)) in
      (λ i. list_all (λ n. is_known known n && not (has_row_put n name v rows i)) ns && rest)
      ∙ ap (λ b. b && rest) (all_but (is_known known) (λ n. has_row n rows) (bytes_eq name) ns)
      ∙ reordered (not (list_any (bytes_eq name) ns)) (list_all (may_stand known rows) ns) (all_differ ns) (stems || is_empty (stems_of uses))
      ∙ sym (λ i. ((there i && not (fresh i)) && list_all (may_stand known rows) ns) && ((not (list_any (bytes_eq name) ns) && all_differ ns) && (stems || is_empty (stems_of uses))))

  still_may : (v : Text) (rows : List Row) (n : Text) → may_stand known (put stem_id v rows) n ≡ may_stand known rows n
  still_may v rows n = ap (λ b. is_known known n && not b) (has_row_put n stem_id v rows) ∙ go (is_known known n) refl
    where
      go : (b : Bool) → is_known known n ≡ b → (b && not (bytes_eq stem_id n || has_row n rows)) ≡ (b && not (has_row n rows))
      go true e = ap (λ b. not (b || has_row n rows)) (stems_apart n e)
      go false e = refl

  stands_stem : (v : Text) (uses : List Use) (rows : List Row) → stems ≡ true → stands known stems (put stem_id v rows) uses ≡ stands known stems rows (stem v ∷ uses)
  unfolding names_of stems_of
  stands_stem v uses rows e =
      let ns = names_of uses in
      (λ i. list_all (λ n. still_may v rows n i) ns && (all_differ ns && (e i || is_empty (stems_of uses))))
      ∙ sym (ap (λ b. list_all (may_stand known rows) ns && (all_differ ns && (b || false))) e)

  no_stems : (v : Text) (uses : List Use) (rows : List Row) → stems ≡ false → stands known stems rows (stem v ∷ uses) ≡ false
  unfolding names_of stems_of
  no_stems v uses rows e =
      ap (λ b. list_all (may_stand known rows) (names_of uses) && (all_differ (names_of uses) && (b || false))) e
      ∙ ap (λ b. list_all (may_stand known rows) (names_of uses) && b) (and_false (all_differ (names_of uses)))
      ∙ and_false (list_all (may_stand known rows) (names_of uses))

  may_not : (name v : Text) (uses : List Use) (rows : List Row) → may_stand known rows name ≡ false → stands known stems rows (given name v ∷ uses) ≡ false
  unfolding names_of stems_of
  may_not name v uses rows e =
      ap (λ b. (b && list_all (may_stand known rows) (names_of uses)) && ((not (list_any (bytes_eq name) (names_of uses)) && all_differ (names_of uses)) && (stems || is_empty (stems_of uses)))) e

  pub agrees : (uses : List Use) (rows : List Row) → Agrees rows uses (applied c uses rows) (stands known stems rows uses)
  unfolding applied names_of stems_of
  agrees [] rows = (or_true stems, shows_none rows)
  agrees (given name v ∷ uses) rows = go (find (named name) known) refl (λ r. agrees uses r)
    where
      go : (x : Option Known) → find (named name) known ≡ x → ((r : List Row) → Agrees r uses (applied c uses r) (stands known stems r uses))
          → Agrees rows (given name v ∷ uses) (option_and_then (applied c uses) (taken (arg_by_long c name) v rows)) (stands known stems rows (given name v ∷ uses))
      go None e more =
          subst (λ x. Agrees rows (given name v ∷ uses) (option_and_then (applied c uses) (taken x v rows)) (stands known stems rows (given name v ∷ uses))) (sym (by_long known stems name ∙ ap (option_map built_option) e))
          (may_not name v uses rows (ap (λ b. b && not (has_row name rows)) (known_is known name None e)))
      go (Some k) e more =
          subst (λ o. Agrees rows (given name v ∷ uses) (option_and_then (applied c uses) o) (stands known stems rows (given name v ∷ uses)))
          (sym (ap (λ x. taken x v rows) (by_long known stems name ∙ ap (option_map built_option) e) ∙ taken_option k v rows ∙ ap (λ n. cond (has_row n rows) None (Some (put n v rows))) (known_name known name k e)))
          (there (has_row name rows) refl)
        where
          there : (b : Bool) → has_row name rows ≡ b → Agrees rows (given name v ∷ uses) (option_and_then (applied c uses) (cond b None (Some (put name v rows)))) (stands known stems rows (given name v ∷ uses))
          there true is = may_not name v uses rows (ap (λ b. is_known known name && not b) is ∙ and_false (is_known known name))
          there false is =
              agrees_as (put name v rows) rows uses (given name v ∷ uses) (applied c uses (put name v rows)) (stands known stems (put name v rows) uses) (stands known stems rows (given name v ∷ uses))
              (stands_given name v uses rows (known_is known name (Some k) e) is)
              (λ r h. shows_given rows name v uses r (turned stem_id name (stems_apart name (known_is known name (Some k) e))) h) (more (put name v rows))
  agrees (stem v ∷ uses) rows = go stems refl (λ r. agrees uses r)
    where
      go : (b : Bool) → stems ≡ b → ((r : List Row) → Agrees r uses (applied c uses r) (stands known stems r uses))
          → Agrees rows (stem v ∷ uses) (option_and_then (applied c uses) (taken (arg_by_index c 1) v rows)) (stands known stems rows (stem v ∷ uses))
      go true e more =
          subst (λ x. Agrees rows (stem v ∷ uses) (option_and_then (applied c uses) (taken x v rows)) (stands known stems rows (stem v ∷ uses))) (sym (by_index known stems ∙ ap stem_of e))
          (agrees_as (put stem_id v rows) rows uses (stem v ∷ uses) (applied c uses (put stem_id v rows)) (stands known stems (put stem_id v rows) uses) (stands known stems rows (stem v ∷ uses))
          (stands_stem v uses rows e) (λ r h. shows_stem rows v uses r h) (more (put stem_id v rows)))
      go false e more =
          subst (λ x. Agrees rows (stem v ∷ uses) (option_and_then (applied c uses) (taken x v rows)) (stands known stems rows (stem v ∷ uses))) (sym (by_index known stems ∙ ap stem_of e))
          (no_stems v uses rows e)
