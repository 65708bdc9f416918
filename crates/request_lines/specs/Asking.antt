-- What a line asks, or the first cause for which it is no request.
use Rattle.std.specs.Prelude.{◌≡◌, ℕ, List, [], ◌∷◌, if◌then◌else◌, Option, Some, None, Result, Ok, Err, codes, bytes_eq, ⊤, is_some, option_map}
use Rattle.serde_json.specs.Data.{Data}
use Rattle.serde_json.specs.Find.{get, as_object, as_str}
use Rattle.op_model.specs.declared.request.AskedPair.{AskedPair}
use Rattle.op_model.specs.declared.request.Read.TheVariants as read
use Rattle.op_model.specs.declared.request.Edit.TheVariants as edit
use Rattle.op_model.specs.declared.request.Request.{Request}
use Rattle.op_model.specs.declared.request.Request.TheVariants as request
use Rattle.op_model.specs.declared.request.FieldName.{FieldName}
use Rattle.op_model.specs.declared.request.FieldName.TheVariants as fields
use Rattle.op_model.specs.declared.request.LineError.{LineError}
use Rattle.op_model.specs.declared.request.LineError.TheVariants as errors
use Rattle.request_lines.specs.Refused.{field_name}
use Rattle.request_lines.specs.Fields.{value_of, number_in, id_in, ids_in, pairs_in}

infixl 10 ◌>>=◌
abbrev pub ◌>>=◌ : {A B : Type 0} → Result A LineError → (A → Result B LineError) → Result B LineError
(Ok x) >>= f = f x
(Err e) >>= f = Err e

abbrev pub or_err : {A : Type 0} → LineError → Option A → Result A LineError
or_err e None = Err e
or_err e (Some x) = Ok x

-- the value of a field, if the object has it
unfoldable pub found : FieldName → Data → Option Data
found name from = get (field_name name) from

-- what a field that has to be there is read as
unfoldable pub field : {A : Type 0} → (Data → Option A) → FieldName → Data → Result A LineError
field form name from = do
  value ← or_err (errors.MissingField name) (found name from)
  or_err (errors.BadField name) (form value)

-- a time, if there is a value
unfoldable pub time_in : Option Data → Result (Option ℕ) LineError
time_in None = Ok None
time_in (Some value) = or_err (errors.BadField fields.At) (option_map (λ at. Some at) (number_in value))

-- the time of a read, which may be left out
unfoldable pub time : Data → Result (Option ℕ) LineError
time from = time_in (found fields.At from)

unfoldable pub root_of : Data → Result Request LineError
root_of from = do
  sv ← field id_in fields.Sv from
  at ← time from
  Ok (request.Read (read.Root sv at))

unfoldable pub path_of : Data → Result Request LineError
path_of from = do
  sv ← field id_in fields.Sv from
  at ← time from
  Ok (request.Read (read.Path sv at))

unfoldable pub leaves_of : Data → Result Request LineError
leaves_of from = do
  root ← field id_in fields.Root from
  at ← time from
  Ok (request.Read (read.Leaves root at))

unfoldable pub changes_of : Data → Result Request LineError
changes_of from = do
  root ← field id_in fields.Root from
  at ← time from
  Ok (request.Read (read.Changes root at))

-- a merge of one pair names its ends
unfoldable pub one_pair : Data → Result (List AskedPair) LineError
one_pair from = do
  a ← field id_in fields.A from
  b ← field id_in fields.B from
  Ok (record { a = a; b = b } ∷ [])

-- the pairs of a merge: where it has a list of them, that list alone counts
unfoldable pub asked_pairs : Data → Result (List AskedPair) LineError
asked_pairs from = if is_some (found fields.Pairs from) then field pairs_in fields.Pairs from else one_pair from

unfoldable pub merge_of : Data → Result Request LineError
merge_of from = do
  pairs ← asked_pairs from
  Ok (request.Edit (edit.Merge pairs))

unfoldable pub split_of : Data → Result Request LineError
split_of from = do
  sources ← field ids_in fields.Sources from
  sinks ← field ids_in fields.Sinks from
  Ok (request.Edit (edit.Split sources sinks))

unfoldable pub undo_of : Data → Result Request LineError
undo_of from = do
  op ← field number_in fields.Op from
  Ok (request.Edit (edit.Undo op))

unfoldable pub redo_of : Data → Result Request LineError
redo_of from = do
  op ← field number_in fields.Op from
  Ok (request.Edit (edit.Redo op))

-- the request of this name
unfoldable pub named_request : List ℕ → Data → Result Request LineError
named_request name from =
    if bytes_eq name (codes "root") then root_of from
    else if bytes_eq name (codes "path") then path_of from
    else if bytes_eq name (codes "leaves") then leaves_of from
    else if bytes_eq name (codes "changes") then changes_of from
    else if bytes_eq name (codes "merge") then merge_of from
    else if bytes_eq name (codes "split") then split_of from
    else if bytes_eq name (codes "undo") then undo_of from
    else if bytes_eq name (codes "redo") then redo_of from
    else Err errors.NoSuchCommand

-- the request of an object: its name comes before its other fields
unfoldable pub request_of : Data → Result Request LineError
request_of value =
    if is_some (as_object value) then (do
      name ← field as_str fields.Do value
      named_request name value)
    else Err errors.NotObject

-- what a line asks
unfoldable pub asked : List ℕ → Result Request LineError
asked line = or_err errors.NotJson (value_of line) >>= request_of

-- this is what is meant, unless memory ran out
abbrev pub Gives : {A : Type 0} → Result A LineError → Result A LineError → Type 0
Gives (Ok x) wanted = wanted ≡ Ok x
Gives (Err errors.NoMemory) wanted = ⊤
Gives (Err (errors.LineTooLong bytes)) wanted = wanted ≡ Err (errors.LineTooLong bytes)
Gives (Err errors.NotJson) wanted = wanted ≡ Err errors.NotJson
Gives (Err errors.NotObject) wanted = wanted ≡ Err errors.NotObject
Gives (Err (errors.MissingField name)) wanted = wanted ≡ Err (errors.MissingField name)
Gives (Err (errors.BadField name)) wanted = wanted ≡ Err (errors.BadField name)
Gives (Err errors.NoSuchCommand) wanted = wanted ≡ Err errors.NoSuchCommand
