-- Inner: no clause of `run` is made of it.
-- Where a walk back from a root stands: which roots it met, and which entries wait.
use Rattle.std.specs.Prelude.{◌≡◌, ℕ, ◌+◌, ◌<◌, ◌≤◌, true, false, ◌==◌, if◌then◌else◌, List, length, Some}
use Rattle.std.specs.List.{AllByRecursion, list_any}
use Rattle.op_model.specs.declared.base.Dataset.{Dataset}
use Rattle.op_model.specs.declared.base.Base.{Base}
use Rattle.op_model.specs.declared.entry.Changed.{Changed}
use Rattle.op_model.specs.declared.entry.Entry.{Entry}
use Rattle.graph_model.specs.Lists.{has}
use Rattle.op_model.specs.Labels.{root}
use Rattle.op_model.specs.Operations.{entry_at, put_id}
use Rattle.op_model.specs.Transcript.{log_at}
use Rattle.op_model.specs.Valid.{IsAscending}
use Rattle.record_rows.specs.Readings.{ParentImage}
use Rattle.change_laws.specs.Visits.{meets}

-- the words tell of the nodes and parents of this log, and one of so many first entries made the root
pub record IsMadeRoot (d : Dataset) (b : Base) (log : List Entry) (words : List ℕ) (r prefix : ℕ) : Type 0 where
  pub image : ParentImage d b log words
  pub low : 1 ≤ prefix
  pub high : prefix ≤ length log
  pub made : list_any (λ e. has e.made r) (log_at d b log prefix) ≡ true

-- and none of them retired it
pub record IsUnretired (d : Dataset) (b : Base) (log : List Entry) (words : List ℕ) (r prefix : ℕ) : Type 0 where
  pub root : IsMadeRoot d b log words r prefix
  pub kept : (m : ℕ) (e : Entry) → entry_at log m ≡ Some e → m < prefix → has e.retired r ≡ false

-- each of the roots is such a one
abbrev pub AreUnretired : Dataset → Base → List Entry → List ℕ → ℕ → List ℕ → Type 0
AreUnretired d b log words prefix roots = AllByRecursion (λ r. IsUnretired d b log words r prefix) roots

-- of the log's entries the one of this number made the root, and no other one; it is below the prefix
abbrev pub IsMadeBy : List Entry → ℕ → ℕ → ℕ → Type 0
IsMadeBy log r prefix n = (n < prefix) × ((m : ℕ) (e : Entry) → entry_at log m ≡ Some e → has e.made r ≡ (m == n))

-- of the entries below this number just those wait that made or retired one of the roots; none else waits
pub record Waits (log : List Entry) (below : ℕ) (roots waiting : List ℕ) : Type 0 where
  pub order : IsAscending waiting
  pub few : AllByRecursion (λ m. m < below) waiting
  pub exact : (m : ℕ) (e : Entry) → entry_at log m ≡ Some e → m < below → has waiting m ≡ meets e roots

-- the lists have the same roots
abbrev pub SameRoots : List ℕ → List ℕ → Type 0
SameRoots xs ys = (r : ℕ) → has xs r ≡ has ys r

-- the words tell of the nodes and parents of this log, which has an entry of this number, with others before it
pub record IsInner (d : Dataset) (b : Base) (log : List Entry) (words : List ℕ) (n : ℕ) : Type 0 where
  pub image : ParentImage d b log words
  pub low : 1 ≤ n
  pub high : n < length log

-- the entry with this number, of a log that the words tell of, changed these pairs
pub record IsChangedBy (d : Dataset) (b : Base) (log : List Entry) (words : List ℕ) (n : ℕ) (e : Entry) (changed : List Changed) : Type 0 where
  pub image : ParentImage d b log words
  pub entry : entry_at log n ≡ Some e
  pub pairs : changed ≡ e.changed

-- the list with the root that a supervoxel had before the entry, if its root after it is among these
unfoldable pub linked_end : Dataset → Base → List Entry → ℕ → List ℕ → ℕ → List ℕ → List ℕ
linked_end d b log n roots v list = if has roots (root d b (log_at d b log (n + 1)) v) then put_id (root d b (log_at d b log n) v) list else list
