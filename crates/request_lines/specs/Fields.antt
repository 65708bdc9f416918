-- What a line of JSON and the fields of a request are read as.
use Rattle.std.specs.Prelude.{ℕ, if◌then◌else◌, List, [], ◌∷◌, Option, Some, None, option_and_then}
use Rattle.std.specs.Option.{option_map_or}
use Rattle.std.specs.Str.{is_utf8}
use Rattle.serde_json.specs.Data.{Data, Items, no_items, item}
use Rattle.serde_json.specs.Find.{as_array, as_number, as_str, as_u64}
use Rattle.serde_json.specs.Read.{read}
use Rattle.node_ids.specs.Digits.{number_of}
use Rattle.op_model.specs.declared.request.AskedPair.{AskedPair}

infixl 10 ◌>>=◌
abbrev pub ◌>>=◌ : {A B : Type 0} → Option A → (A → Option B) → Option B
o >>= f = option_and_then f o

-- the value that serde_json reads from bytes
unfoldable pub value_of : List ℕ → Option Data
value_of line = if is_utf8 line then read line else None

-- a JSON number that is whole and from 0 to 2 ^ 64 - 1
unfoldable pub number_in : Data → Option ℕ
number_in value = as_number value >>= as_u64

-- an id: a string of its digits, or such a number
unfoldable pub id_in : Data → Option ℕ
id_in value = option_map_or number_of (as_str value) (number_in value)

-- what each item is read as, if each is
abbrev pub all_in : {A : Type 0} → (Data → Option A) → Items → Option (List A)
all_in form no_items = Some []
all_in form (item value more) = do
  x ← form value
  xs ← all_in form more
  Some (x ∷ xs)

-- a list of ids
unfoldable pub ids_in : Data → Option (List ℕ)
ids_in value = as_array value >>= all_in id_in

-- two ids, and no more
abbrev pub two : List ℕ → Option AskedPair
two (a ∷ b ∷ []) = Some (record { a = a; b = b })
two ids = None

-- a list of two ids
unfoldable pub pair_in : Data → Option AskedPair
pair_in value = ids_in value >>= two

-- a list of such lists
unfoldable pub pairs_in : Data → Option (List AskedPair)
pairs_in value = as_array value >>= all_in pair_in
