-- The records of a text, as `csv` reads them: a record is the list of its fields, and a field the list of its bytes.
use Rattle.std.specs.Prelude.{◌≡◌, ⊤, ℕ, Bool, true, false, List, [], ◌∷◌, Some, unwrap_or}
use Rattle.std.specs.Borrow.{Bor}
use Rattle.csv.specs.Reading.{default_config, strip_bom, AreRecords, Ready, reader_trim, reader_config, reader_state, source_of}
use Rattle.csv.specs.Records.{field_at}
use Rattle.csv.specs.declared.reader.Reader.{Reader}
use Rattle.csv.specs.declared.reader.Trim.TheVariants as trim
use Rattle.csv.specs.declared.parser.State.TheVariants as st

-- these are all the records of a text, behind the byte order mark if it begins with one
abbrev pub Are : List ℕ → List (List (List ℕ)) → Type 0
Are text rows = AreRecords default_config st.StartRecord (strip_bom text) rows

-- the field of a record at a place, or no bytes where it has none
unfoldable pub field : List (List ℕ) → ℕ → List ℕ
field fields k = unwrap_or (field_at fields k) []

-- the records that a reader of a slice has left are these, and it reads them as they are
abbrev pub HasLeft : Reader (Bor (List ℕ)) → List (List (List ℕ)) → Type 0
HasLeft rdr rows = (reader_trim rdr ≡ trim.None) × Ready rdr × (reader_config rdr ≡ default_config)
    × (left : List ℕ) × (source_of (λ s. Some s.now) rdr ≡ Some left) × AreRecords default_config (reader_state rdr) left rows

-- a read took the first of these records, or there was none
abbrev pub Takes : Reader (Bor (List ℕ)) → List (List ℕ) → List (List (List ℕ)) → Bool → Type 0
Takes rdr fields rows true = (rest : List (List (List ℕ))) × (rows ≡ fields ∷ rest) × HasLeft rdr rest
Takes rdr fields rows false = rows ≡ []

-- the first of these records isn't the header, or there is none
abbrev pub HasNoHeader : (List (List ℕ) → Bool) → List (List (List ℕ)) → Type 0
HasNoHeader is_header [] = ⊤
HasNoHeader is_header (header ∷ rows) = is_header header ≡ false

-- whether the first of these records is the header, and then what is left
abbrev pub UnderHeader : (List (List ℕ) → Bool) → Reader (Bor (List ℕ)) → List (List (List ℕ)) → Bool → Type 0
UnderHeader is_header rdr rows true = (header : List (List ℕ)) × (rest : List (List (List ℕ))) × (rows ≡ header ∷ rest) × (is_header header ≡ true) × HasLeft rdr rest
UnderHeader is_header rdr rows false = HasNoHeader is_header rows
