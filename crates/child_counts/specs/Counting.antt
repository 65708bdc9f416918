-- Inner: no clause of `run` is made of it.
-- How many children new nodes have, counted by the places of least leaves in a list that has those of all of them.
use Rattle.std.specs.Prelude.{◌≡◌, ℕ, ◌-◌, ◌<◌, ◌≤◌, Bool, IsTrue, ◌&&◌, ◌==◌, List, ◌∷◌, length, map}
use Rattle.std.specs.List.{All, filter, range_with_len}
use Rattle.graph_model.specs.Lists.{has}
use Rattle.op_model.specs.declared.base.Base.{Base}
use Rattle.op_model.specs.declared.base.Dataset.{Dataset}
use Rattle.op_model.specs.declared.entry.Entry.{Entry}
use Rattle.op_model.specs.Labels.{is_new, new_among}
use Rattle.op_model.specs.Records.{children, total}
use Rattle.op_model.specs.Valid.{IsAscending, IsBase, IsDataset}
use Rattle.layer_laws.specs.Building.{at, least_leaf}
use Rattle.entry_parts.specs.declared.made.MadeNode.{MadeNode}
use Rattle.entry_parts.specs.Made.{AreMadeIn}
use Rattle.entry_parts.specs.Parts.{AreFirstsOf}

-- supervoxels, ascending, among them the least leaf of each child of each node of the layer that the newest entry makes
pub record HoldsChildren (d : Dataset) (b : Base) (log : List Entry) (layer : ℕ) (ids : List ℕ) : Type 0 where
  pub ascending : IsAscending ids
  pub known : (v : ℕ) → IsTrue (has ids v) → IsTrue (has b.supervoxels v)
  pub children : (v : ℕ) → IsTrue (has b.supervoxels v) → IsTrue (is_new d b log layer v) → IsTrue (has ids (least_leaf d b log (layer - 1) v))

-- whether the place is that of the least leaf of its node below, whose parent has its least leaf at one of these
abbrev pub is_counted : List ℕ → List ℕ → List ℕ → ℕ → Bool
is_counted below firsts leasts i = at below i == i && has leasts (at firsts i)

-- so many they are, where these are the least leaves of the nodes that the entry makes
abbrev pub ChildrenAreCounted : Type 0
ChildrenAreCounted =
    (d : Dataset) (b : Base) (log : List Entry) (e : Entry) (ids : List ℕ) (layer : ℕ) (below firsts leasts : List ℕ) (nodes : List MadeNode) → IsDataset d → IsBase d b → 2 ≤ layer
    → HoldsChildren d b (e ∷ log) layer ids → AreFirstsOf d b (e ∷ log) ids (layer - 1) below → AreFirstsOf d b (e ∷ log) ids layer firsts
    → AreMadeIn d b log e layer nodes → map (at ids) leasts ≡ map (λ m. m.least) nodes → All (λ p. p < length ids) leasts
    → length (filter (is_counted below firsts leasts) (range_with_len 0 (length ids))) ≡ total (map (children d b (e ∷ log) layer) (new_among d b (e ∷ log) layer b.supervoxels))
