-- What holds of a legal log as a whole.
use Rattle.std.specs.Prelude.{◌≡◌, ◌≤◌, ℕ, ◌+◌, ◌↔◌, ⊤, not, IsTrue, List, [], ◌∷◌, ◌++◌, length}
use Rattle.std.specs.List.{filter}
use Rattle.graph_model.specs.Lists.{has}
use Rattle.graph_model.specs.Components.{Joined as JoinedBy}
use Rattle.op_model.specs.declared.base.Dataset.{Dataset}
use Rattle.op_model.specs.declared.base.Base.{Base}
use Rattle.op_model.specs.declared.entry.Entry.{Entry}
use Rattle.op_model.specs.Edges.{linked}
use Rattle.op_model.specs.Chunks.{layers}
use Rattle.op_model.specs.Labels.{Joined, edges, node, root}
use Rattle.op_model.specs.Answers.{leaves}
use Rattle.op_model.specs.Refusals.{first_at, last_at, prefix_at}
use Rattle.op_model.specs.Legal.{Legal}
use Rattle.op_model.specs.Valid.{IsDataset, IsBase}

-- the roots that entries made and none retired
unfoldable pub live_roots : List Entry → List ℕ
live_roots [] = []
live_roots (e ∷ log) = filter (λ r. not (has e.retired r)) (live_roots log) ++ e.made

-- An entry takes as many live roots away as it retired, and puts as many there as it made.
abbrev pub IsCounted : Entry → List Entry → Type 0
IsCounted e log = length (live_roots (e ∷ log)) + length e.retired ≡ length (live_roots log) + length e.made

-- the first entry is of no client, and each other one of one of so many clients, who are counted from 1
abbrev pub EntriesOwned : ℕ → List Entry → Type 0
EntriesOwned clients [] = ⊤
EntriesOwned clients (e ∷ []) = e.client ≡ 0
EntriesOwned clients (e ∷ f ∷ log) = (1 ≤ e.client) × (e.client ≤ clients) × EntriesOwned clients (f ∷ log)

module _ (d : Dataset) (b : Base) where
  -- At each published time two supervoxels share a root just where a walk of active edges joins them.
  abbrev pub RootsAreJoined : List Entry → Type 0
  RootsAreJoined log =
      (t u v : ℕ) → first_at log ≤ t → t ≤ last_at log → IsTrue (has b.supervoxels u) → IsTrue (has b.supervoxels v)
      → (root d b (prefix_at log t) u ≡ root d b (prefix_at log t) v) ↔ JoinedBy (linked (edges d b (prefix_at log t))) b.supervoxels u v

  -- At each published time the leaves of a supervoxel's root are the supervoxels that a walk of active edges joins to it.
  abbrev pub LeavesAreJoined : List Entry → Type 0
  LeavesAreJoined log =
      (t v w : ℕ) → first_at log ≤ t → t ≤ last_at log → IsTrue (has b.supervoxels v)
      → IsTrue (has (leaves d b (prefix_at log t) (root d b (prefix_at log t) v)) w) ↔ (IsTrue (has b.supervoxels w) × JoinedBy (linked (edges d b (prefix_at log t))) b.supervoxels v w)

  -- If a supervoxel's node at a published time has the id of any node at a later one, it keeps that id all the time in between, and at the end a walk inside its chunk joins the two supervoxels. So no id of a superseded node comes back.
  abbrev pub IdsStay : List Entry → Type 0
  IdsStay log =
      (s t u layer v w : ℕ) → first_at log ≤ s → s ≤ t → t ≤ u → u ≤ last_at log → IsTrue (has (layers d) layer) → IsTrue (has b.supervoxels v) → IsTrue (has b.supervoxels w)
      → node d b (prefix_at log s) layer v ≡ node d b (prefix_at log u) layer w
      → (node d b (prefix_at log t) layer v ≡ node d b (prefix_at log s) layer v) × Joined d b (prefix_at log u) layer v w

-- this holds of each legal log over a dataset and a base
abbrev pub OfEachLog : (Dataset → Base → List Entry → Type 0) → Type 0
OfEachLog P = (d : Dataset) (b : Base) (log : List Entry) → IsDataset d → IsBase d b → Legal d b log → P d b log

-- the newest entry of each legal log is counted
abbrev pub LiveRootsAreCounted : Type 0
LiveRootsAreCounted = (d : Dataset) (b : Base) (e : Entry) (log : List Entry) → IsDataset d → IsBase d b → Legal d b (e ∷ log) → IsCounted e log
