-- Inner: no clause of `run` is made of it.
-- What an entry's record tells.
use Rattle.std.specs.Prelude.{◌≡◌}
use Rattle.op_model.specs.declared.entry.Entry.{Entry}
use Rattle.record_rows.specs.Words.{kind_code, names}
use Rattle.grown_rows.specs.declared.entries.NewEntry.{NewEntry}

-- this is the entry, as its record tells it
pub record IsNewEntry (e : Entry) (x : NewEntry) : Type 0 where
  pub kind_is : kind_code e.asked ≡ x.kind
  pub names_are : names e.asked ≡ x.names
  pub at : e.at ≡ x.at
  pub client : e.client ≡ x.client
  pub line : e.line ≡ x.line
  pub number : e.number ≡ x.number
