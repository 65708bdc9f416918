-- A table's text has the records that it was made of.
use Rattle.std.proofs.Common.{◌≡◌, ◌∙◌, ℕ, Bool, true, false, not, ◌||◌, ◌==◌, refl, ap, List, [], ◌∷◌, ◌++◌, Some, append_assoc, append-nil}
use Rattle.std.specs.List.{list_all}
use Rattle.std.proofs.lemmas.Bool.{and_parts}
use Rattle.csv.specs.Machine.{next_record}
use Rattle.csv.specs.Reading.{AreRecords, Reached, default_config}
use Rattle.csv.specs.declared.parser.State.TheVariants as st
use Rattle.csv.proofs.RoundTrip.{record-same, start-same}
use Rattle.made_input.specs.Rows.{Text, is_mark, is_plain_field, is_plain_row, more_fields, record_text, table_text}

record Unmarked (b : ℕ) : Type 0 where
  comma : (b == 44) ≡ false
  quote : (b == 34) ≡ false
  return : (b == 13) ≡ false
  feed : (b == 10) ≡ false

unmarked : (b : ℕ) → not (is_mark b) ≡ true → Unmarked b
unmarked b e = let f = go (b == 44) (b == 34) (b == 13) (b == 10) e in record { comma = f.0; quote = f.1; return = f.2; feed = f.3 }
  where
    go : (p q r s : Bool) → not ((p || q) || (r || s)) ≡ true → (p ≡ false) × (q ≡ false) × (r ≡ false) × (s ≡ false)
    go false false false false e = (refl, refl, refl, refl)
    go true q r s e = cc e
    go false true r s e = cc e
    go false false true s e = cc e
    go false false false true e = cc e

-- the bytes of a field join it
run : (fields : List Text) (field x tail : Text) → list_all (λ b. not (is_mark b)) x ≡ true
    → next_record default_config st.InField fields field (x ++ tail) ≡ next_record default_config st.InField fields (field ++ x) tail
unfolding next_record
run fields field [] tail e = rw (append-nil field) refl
run fields field (b ∷ rest) tail e =
    let p = and_parts (not (is_mark b)) (list_all (λ b. not (is_mark b)) rest) e in
    let u = unmarked b p.0 in
    rw (u.comma, u.return, u.feed) (run fields (field ++ (b ∷ [])) rest tail p.1
    ∙ ap (λ (f : Text). next_record default_config st.InField fields f tail) (append_assoc field (b ∷ []) rest))

-- a field from its start
field_run : (fields : List Text) (x tail : Text) → is_plain_field x ≡ true → next_record default_config st.StartField fields [] (x ++ tail) ≡ next_record default_config st.InField fields x tail
field_run fields [] tail e = cc e
field_run fields (b ∷ rest) tail e =
    let p = and_parts (not (is_mark b)) (list_all (λ b. not (is_mark b)) rest) e in
    let u = unmarked b p.0 in
    start-same fields [] b (rest ++ tail) u.quote ∙ run fields [] (b ∷ rest) tail e

-- a comma ends a field
comma_ends : (fields : List Text) (x tail : Text) → next_record default_config st.InField fields x (44 ∷ tail) ≡ next_record default_config st.StartField (fields ++ (x ∷ [])) [] tail
unfolding next_record
comma_ends fields x tail = refl

-- the fields behind one
rest_run : (fields : List Text) (x : Text) (rest : List Text) (tail : Text) → list_all is_plain_field rest ≡ true
    → next_record default_config st.InField fields x (more_fields rest ++ tail) ≡ Some (fields ++ (x ∷ rest), st.StartRecord, tail)
unfolding next_record more_fields
rest_run fields x [] tail e = refl
rest_run fields x (y ∷ ys) tail e =
    let p = and_parts (is_plain_field y) (list_all is_plain_field ys) e in
    comma_ends fields x ((y ++ more_fields ys) ++ tail)
    ∙ ap (next_record default_config st.StartField (fields ++ (x ∷ [])) []) (append_assoc y (more_fields ys) tail)
    ∙ field_run (fields ++ (x ∷ [])) y (more_fields ys ++ tail) p.0
    ∙ rest_run (fields ++ (x ∷ [])) y ys tail p.1
    ∙ ap (λ (f : List Text). Some (f, st.StartRecord, tail)) (append_assoc fields (x ∷ []) (y ∷ ys))

record_start : (x tail : Text) → is_plain_field x ≡ true → next_record default_config st.StartRecord [] [] (x ++ tail) ≡ next_record default_config st.StartField [] [] (x ++ tail)
record_start [] tail e = cc e
record_start (b ∷ rest) tail e =
    let p = and_parts (not (is_mark b)) (list_all (λ b. not (is_mark b)) rest) e in
    let u = unmarked b p.0 in
    record-same [] [] b (rest ++ tail) u.return u.feed

-- a record
pub record_run : (fields : List Text) (tail : Text) → is_plain_row fields ≡ true → next_record default_config st.StartRecord [] [] (record_text fields ++ tail) ≡ Some (fields, st.StartRecord, tail)
record_run [] tail e = cc e
record_run (x ∷ rest) tail e =
    let p = and_parts (is_plain_field x) (list_all is_plain_field rest) e in
    ap (next_record default_config st.StartRecord [] []) (append_assoc x (more_fields rest) tail)
    ∙ record_start x (more_fields rest ++ tail) p.0
    ∙ field_run [] x (more_fields rest ++ tail) p.0
    ∙ rest_run [] x rest tail p.1

-- the text of plain records has them, and no others
pub records_are : (rows : List (List Text)) → list_all is_plain_row rows ≡ true → AreRecords default_config st.StartRecord (table_text rows) rows
unfolding Reached table_text next_record
records_are [] e = (st.StartRecord, [], (refl, refl), refl)
records_are (fields ∷ rows) e =
    let p = and_parts (is_plain_row fields) (list_all is_plain_row rows) e in
    let more = records_are rows p.1 in
    (more.0, more.1, ((fields, st.StartRecord, table_text rows), record_run fields (table_text rows) p.0, refl, more.2), more.3)
