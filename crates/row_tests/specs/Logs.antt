-- Inner: no clause of `run` is made of it.
-- What is known of words of any base, and of words whose records of edges are emptied.
use Rattle.std.specs.Prelude.{◌≡◌, ℕ, false, List, [], ◌∷◌}
use Rattle.std.specs.List.{AllByRecursion}
use Rattle.op_model.specs.declared.base.Dataset.{Dataset}
use Rattle.op_model.specs.declared.base.Base.{Base}
use Rattle.op_model.specs.declared.entry.Entry.{Entry}
use Rattle.record_rows.specs.Rows.{Row}
use Rattle.record_rows.specs.Images.{told}
use Rattle.record_rows.specs.Readings.{Holds, Image, ParentImage}

-- the words are the image of a base's log of one entry
pub record IsBuilt (words : List ℕ) : Type 0 where
  pub d : Dataset
  pub b : Base
  pub entry : Entry
  pub image : Image d b (entry ∷ []) words

-- the words tell of the nodes of a log
pub record TellsLog (words : List ℕ) : Type 0 where
  pub d : Dataset
  pub b : Base
  pub log : List Entry
  pub image : ParentImage d b log words

-- the words are the image of a log
pub record HoldsLog (words : List ℕ) : Type 0 where
  pub d : Dataset
  pub b : Base
  pub log : List Entry
  pub image : Image d b log words

-- no word of this record is told of nodes and parents
abbrev pub IsUntold : Row → Type 0
IsUntold row = AllByRecursion (λ t. t ≡ false) (told row)

-- and a record that doesn't count for them stands at the place
pub record HasUntold (words : List ℕ) (place : ℕ) : Type 0 where
  pub d : Dataset
  pub b : Base
  pub log : List Entry
  pub row : Row
  pub image : ParentImage d b log words
  pub stands : Holds d b log place row
  pub untold : IsUntold row
