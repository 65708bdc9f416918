-- Inner: no clause of `run` is made of it.
-- A list of supervoxels that stands for the nodes which an entry unites: of each child of such a node the least leaf is in it.
use Rattle.std.specs.Prelude.{◌≡◌, ℕ, false, ◌-◌, ◌<◌, ◌≤◌, IsTrue, List, length}
use Rattle.std.specs.List.{AllByRecursion}
use Rattle.graph_model.specs.Lists.{has}
use Rattle.op_model.specs.declared.base.Dataset.{Dataset}
use Rattle.op_model.specs.declared.base.Base.{Base}
use Rattle.op_model.specs.declared.entry.Changed.{Changed}
use Rattle.op_model.specs.declared.entry.Entry.{Entry}
use Rattle.op_model.specs.Chunks.{top}
use Rattle.op_model.specs.Labels.{touches}
use Rattle.op_model.specs.Valid.{IsAscending}
use Rattle.components.specs.Joining.{meet}
use Rattle.layer_laws.specs.Building.{at, least_leaf}
use Rattle.layer_laws.specs.Levels.{leaves, level}
use Rattle.unite_laws.specs.Uniting.{unites}

-- a pair is of the places of these two in the list
abbrev pub MeetIn : List ℕ → List (ℕ × ℕ) → ℕ → ℕ → Type 0
MeetIn ids pairs u v = (i j : ℕ) × (i < length ids) × (j < length ids) × (at ids i ≡ u) × (at ids j ≡ v) × IsTrue (meet pairs i j)

module _ (d : Dataset) (b : Base) (changed : List Changed) (log : List Entry) where
  -- the supervoxel is the least leaf of each of its nodes that no changed pair touches
  abbrev pub IsOwn : ℕ → Type 0
  IsOwn v = (layer : ℕ) → 1 ≤ layer → layer ≤ top d → touches changed (leaves d b log layer v) ≡ false → least_leaf d b log layer v ≡ v

  -- supervoxels, ascending: with each child of a node that a changed pair touches its least leaf
  pub record AreRepresentatives (ids : List ℕ) : Type 0 where
    pub ascending : IsAscending ids
    pub known : (v : ℕ) → IsTrue (has ids v) → IsTrue (has b.supervoxels v)
    pub own : (v : ℕ) → IsTrue (has ids v) → IsOwn v
    pub children :
        (layer v : ℕ) → 2 ≤ layer → layer ≤ top d → IsTrue (has b.supervoxels v) → IsTrue (touches changed (leaves d b log layer v))
        → IsTrue (has ids (least_leaf d b log (layer - 1) v))

  -- pairs of their places: of a touched node and each of its children, in the layers up to this one, and of the changed pairs inside one chunk of it
  pub record JoinRepresentatives (ids : List ℕ) (layer : ℕ) (pairs : List (ℕ × ℕ)) : Type 0 where
    pub given : AllByRecursion (λ p. (p.0 < length ids) × (p.1 < length ids) × IsTrue (unites d b changed log layer (at ids p.0) (at ids p.1))) pairs
    pub nodes :
        (l v : ℕ) → 2 ≤ l → l ≤ layer → IsTrue (has b.supervoxels v) → IsTrue (touches changed (leaves d b log l v))
        → MeetIn ids pairs (least_leaf d b log l v) (least_leaf d b log (l - 1) v)
    pub all : AllByRecursion (λ c. level d c.pair.a c.pair.b ≤ layer → MeetIn ids pairs c.pair.a c.pair.b) changed
