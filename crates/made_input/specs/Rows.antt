-- The text of a table: fields with commas between them, and a line feed behind each record.
use Rattle.std.specs.Prelude.{ℕ, Bool, false, not, ◌||◌, ◌==◌, List, [], ◌∷◌, ◌++◌}
use Rattle.std.specs.List.{list_all}
use Rattle.csv.specs.Reading.{AreRecords, default_config, strip_bom}
use Rattle.csv.specs.declared.parser.State.TheVariants as st

abbrev pub Text : Type 0
Text = List ℕ

-- the fields behind the first one, and the line feed
unfoldable pub more_fields : List Text → Text
more_fields [] = 10 ∷ []
more_fields (field ∷ fields) = 44 ∷ (field ++ more_fields fields)

-- the text of a record
abbrev pub record_text : List Text → Text
record_text [] = 10 ∷ []
record_text (field ∷ fields) = field ++ more_fields fields

-- the text of all records
unfoldable pub table_text : List (List Text) → Text
table_text [] = []
table_text (fields ∷ rows) = record_text fields ++ table_text rows

-- a comma, a quote, a carriage return or a line feed
abbrev pub is_mark : ℕ → Bool
is_mark b = (b == 44) || (b == 34) || ((b == 13) || (b == 10))

-- a field of at least one byte, none of them a mark
abbrev pub is_plain_field : Text → Bool
is_plain_field [] = false
is_plain_field (b ∷ bs) = list_all (λ b. not (is_mark b)) (b ∷ bs)

-- a record of at least one field, each of them plain
abbrev pub is_plain_row : List Text → Bool
is_plain_row [] = false
is_plain_row (field ∷ fields) = list_all is_plain_field (field ∷ fields)

-- these are all records of a text, as `csv` reads it
abbrev pub Are : Text → List (List Text) → Type 0
Are text rows = AreRecords default_config st.StartRecord (strip_bom text) rows
