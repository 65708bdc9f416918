-- Inner: no clause of `run` is made of it.
-- What readers of words go by: the log that the words are the image of, and the places of its records.
use Rattle.std.specs.Prelude.{◌≡◌, ℕ, ◌+◌, ◌^◌, ◌<◌, ◌≤◌, Bool, true, ◌==◌, if◌then◌else◌, List, [], ◌∷◌, drop, Option, Some, None}
use Rattle.std.specs.List.{AllByRecursion, slice_get, last_or}
use Rattle.op_model.specs.declared.base.Dataset.{Dataset}
use Rattle.op_model.specs.declared.base.Base.{Base}
use Rattle.op_model.specs.declared.base.Edge.{Edge}
use Rattle.op_model.specs.declared.entry.Changed.{Changed}
use Rattle.op_model.specs.declared.entry.Entry.{Entry}
use Rattle.op_model.specs.Records.{records}
use Rattle.op_model.specs.Valid.{IsDataset, IsBase}
use Rattle.op_model.specs.Legal.{Legal}
use Rattle.record_rows.specs.Rows.{Row, SupervoxelRow, ChunkRow, NodeRow, EdgeRow, ChangeRow, ItemRow, Node}
use Rattle.record_rows.specs.Chains.{has_id}
use Rattle.record_rows.specs.Words.{place_from}
use Rattle.record_rows.specs.LogRows.{rows_of}
use Rattle.record_rows.specs.Images.{Stands, Parents}
use Rattle.record_rows.specs.Ascending.{kind_at}

-- client and line are numbers of 32 bits
abbrev pub HasNumbers : Entry → Type 0
HasNumbers e = (e.client < 2 ^ 32) × (e.line < 2 ^ 32)

-- the words are the image of this legal log, which takes no more records than there is room for
pub record Image (d : Dataset) (b : Base) (log : List Entry) (words : List ℕ) : Type 0 where
  pub dataset : IsDataset d
  pub base : IsBase d b
  pub legal : Legal d b log
  pub numbers : AllByRecursion HasNumbers log
  pub fits : records d b log ≤ d.capacity
  pub stands : Stands d b words log

-- the record is of an edge, a change or an item
abbrev pub IsOther : Row → Type 0
IsOther (EdgeRow made e) = Unit {0}
IsOther (ChangeRow entry c) = Unit {0}
IsOther (ItemRow i) = Unit {0}
IsOther row = ⊥

-- no header, supervoxel, chunk, node, link or entry is of this kind
abbrev pub IsOtherKind : ℕ → Type 0
IsOtherKind kind = (kind ≡ 1 → ⊥) × (kind ≡ 2 → ⊥) × (kind ≡ 3 → ⊥) × (kind ≡ 4 → ⊥) × (kind ≡ 5 → ⊥) × (kind ≡ 9 → ⊥)

-- no record of an edge, a change or an item has the kind of another record
abbrev pub KindsApart : List Row → List ℕ → Type 0
KindsApart rows words = (place : ℕ) (row : Row) → slice_get rows place ≡ Some row → IsOther row → IsOtherKind (kind_at words place)

-- the words tell of the nodes and their parents what those of this legal log do, and no other record has the kind of a header, supervoxel, chunk, node, link or entry
pub record ParentImage (d : Dataset) (b : Base) (log : List Entry) (words : List ℕ) : Type 0 where
  pub dataset : IsDataset d
  pub base : IsBase d b
  pub legal : Legal d b log
  pub numbers : AllByRecursion HasNumbers log
  pub fits : records d b log ≤ d.capacity
  pub parents : Parents d b words log
  pub apart : KindsApart (rows_of d b log) words

-- this holds of some log whose image the words are (`Image`), or of whose nodes and parents they tell (`ParentImage`)
abbrev pub ForSomeLog : (Dataset → Base → List Entry → List ℕ → Type 0) → List ℕ → (Dataset → Base → List Entry → Type 0) → Type 0
ForSomeLog Reads words P = (d : Dataset) × (b : Base) × (log : List Entry) × Reads d b log words × P d b log

-- this holds of each log whose image the words are, or of whose nodes and parents they tell
abbrev pub ForEachLog : (Dataset → Base → List Entry → List ℕ → Type 0) → List ℕ → (Dataset → Base → List Entry → Type 0) → Type 0
ForEachLog Reads words P = (d : Dataset) (b : Base) (log : List Entry) → Reads d b log words → P d b log

-- this record of the log stands at the place
abbrev pub Holds : Dataset → Base → List Entry → ℕ → Row → Type 0
Holds d b log place row = slice_get (rows_of d b log) place ≡ Some row

-- the supervoxel of this id stands at the place
abbrev pub HoldsSupervoxel : Dataset → Base → List Entry → ℕ → ℕ → Type 0
HoldsSupervoxel d b log place v = Holds d b log place (SupervoxelRow v)

-- the chunk of this id stands at the place
abbrev pub HoldsChunk : Dataset → Base → List Entry → ℕ → ℕ → Type 0
HoldsChunk d b log place c = Holds d b log place (ChunkRow c)

-- this node stands at the place
abbrev pub HoldsNode : Dataset → Base → List Entry → ℕ → Node → Type 0
HoldsNode d b log place n = Holds d b log place (NodeRow n)

-- this edge, which that entry made, stands at the place
abbrev pub HoldsEdge : Dataset → Base → List Entry → ℕ → ℕ → Edge → Type 0
HoldsEdge d b log place made e = Holds d b log place (EdgeRow made e)

-- this change, of that entry, stands at the place
abbrev pub HoldsChange : Dataset → Base → List Entry → ℕ → ℕ → Changed → Type 0
HoldsChange d b log place entry c = Holds d b log place (ChangeRow entry c)

-- the supervoxel or the node of this id stands at the place
abbrev pub HoldsId : Dataset → Base → List Entry → ℕ → ℕ → Type 0
HoldsId d b log place id = (row : Row) × Holds d b log place row × (has_id id row ≡ true)

-- the place that a pointer leads to, if it isn't empty
unfoldable pub place_of : ℕ → Option ℕ
place_of pointer = if pointer == 0 then None else Some pointer

-- the place of the first record behind the header that the test passes
unfoldable pub first_place : (Row → Bool) → List Row → Option ℕ
first_place test rows = place_of (place_from test 0 rows)

-- the place of the first record behind this place that the test passes
unfoldable pub next_place : (Row → Bool) → List Row → ℕ → Option ℕ
next_place test rows place = place_of (place_from test (place + 1) (drop (place + 1) rows))

-- the places of the records that the test passes, ascending, where the first of these stands at this place
unfoldable pub members : (Row → Bool) → ℕ → List Row → List ℕ
members test place [] = []
members test place (row ∷ rows) = if test row then place ∷ members test (place + 1) rows else members test (place + 1) rows

-- the place of the last record that the test passes
unfoldable pub last_place : (Row → Bool) → List Row → Option ℕ
last_place test rows = last_or None (members test 0 rows)
