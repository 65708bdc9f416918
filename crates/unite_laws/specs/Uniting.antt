-- Inner: no clause of `run` is made of it.
-- What a remake keeps of each layer after an entry that only makes pairs active: the nodes that had ends of them before, and the pairs of those nodes that the changed pairs join.
use Rattle.std.specs.Prelude.{◌≡◌, ℕ, ◌<◌, ◌≤◌, Bool, IsTrue, ◌&&◌, ◌||◌, nat_le, List, length, ◌⊎◌}
use Rattle.std.specs.List.{list_any, AllByRecursion}
use Rattle.op_model.specs.declared.base.Dataset.{Dataset}
use Rattle.op_model.specs.declared.base.Base.{Base}
use Rattle.op_model.specs.declared.entry.Changed.{Changed}
use Rattle.op_model.specs.declared.entry.Entry.{Entry}
use Rattle.graph_model.specs.Lists.{has}
use Rattle.components.specs.Joining.{meet, JoinedBelow}
use Rattle.op_model.specs.Edges.{joins}
use Rattle.op_model.specs.Labels.{touches, node}
use Rattle.op_model.specs.Operations.{ends}
use Rattle.layer_laws.specs.Levels.{level, leaves}
use Rattle.layer_laws.specs.Building.{at}

-- each changed pair gets this state
abbrev pub HaveState : Bool → List Changed → Type 0
HaveState on changed = AllByRecursion (λ c. c.active ≡ on) changed

-- whether u and v are a changed pair
unfoldable pub is_changed : List Changed → ℕ → ℕ → Bool
is_changed changed u v = list_any (λ c. joins c.pair u v) changed

module _ (d : Dataset) (b : Base) where
  -- whether two supervoxels are of one node of this layer, or a changed pair inside one chunk of it
  unfoldable pub unites : List Changed → List Entry → ℕ → ℕ → ℕ → Bool
  unites changed log layer u v = has (leaves d b log layer u) v || is_changed changed u v && nat_le (level d u v) layer

  -- what a pair of places stands for: one node, or a changed pair inside one chunk of this layer
  abbrev pub IsUnited : List Changed → List Entry → ℕ → ℕ → ℕ → Type 0
  IsUnited changed log layer r s =
      IsTrue (has (leaves d b log layer r) s)
      ⊎ ((u v : ℕ) × IsTrue (has (leaves d b log layer r) u) × IsTrue (has (leaves d b log layer s) v) × IsTrue (is_changed changed u v) × (level d u v ≤ layer))

  -- The nodes of this layer that have ends of changed pairs, each told by one of its leaves, maybe more than once. And pairs of their places: of places of one node, if there are any, and those that the changed pairs inside chunks of this layer give.
  pub record AreUnited (changed : List Changed) (log : List Entry) (layer : ℕ) (nodes : List ℕ) (pairs : List (ℕ × ℕ)) : Type 0 where
    pub known : (r : ℕ) → IsTrue (has nodes r) → IsTrue (has b.supervoxels r)
    pub touched : (i : ℕ) → i < length nodes → IsTrue (touches changed (leaves d b log layer (at nodes i)))
    pub held : (x : ℕ) → IsTrue (has (ends changed) x) → (i : ℕ) × (i < length nodes) × IsTrue (has (leaves d b log layer (at nodes i)) x)
    pub same : (i j : ℕ) → i < length nodes → j < length nodes → IsTrue (has (leaves d b log layer (at nodes i)) (at nodes j)) → JoinedBelow (length nodes) pairs i j
    pub given : AllByRecursion (λ p. IsUnited changed log layer (at nodes p.0) (at nodes p.1)) pairs
    pub all :
        AllByRecursion
        (λ c. level d c.pair.a c.pair.b ≤ layer
        → (i j : ℕ) × (i < length nodes) × (j < length nodes) × IsTrue (has (leaves d b log layer (at nodes i)) c.pair.a)
        × IsTrue (has (leaves d b log layer (at nodes j)) c.pair.b) × IsTrue (meet pairs i j)) changed

  -- the same of two places, told by ids
  abbrev pub IsUnitedIds : List Changed → List Entry → ℕ → List ℕ → ℕ → ℕ → Type 0
  IsUnitedIds changed log layer nodes i j =
      (i < length nodes) × (j < length nodes)
      × ((node d b log layer (at nodes i) ≡ node d b log layer (at nodes j))
      ⊎ ((u v : ℕ) × (node d b log layer (at nodes i) ≡ node d b log layer u) × (node d b log layer (at nodes j) ≡ node d b log layer v)
      × IsTrue (is_changed changed u v) × (level d u v ≤ layer)))

  -- The nodes told by ids: each place has an end of a changed pair, and the ids of the nodes tell which ends are in one.
  pub record AreUnitedIds (changed : List Changed) (log : List Entry) (layer : ℕ) (nodes : List ℕ) (pairs : List (ℕ × ℕ)) : Type 0 where
    pub ended : (i : ℕ) → i < length nodes → IsTrue (has (ends changed) (at nodes i))
    pub held : (x : ℕ) → IsTrue (has (ends changed) x) → (i : ℕ) × (i < length nodes) × (node d b log layer (at nodes i) ≡ node d b log layer x)
    pub same : (i j : ℕ) → i < length nodes → j < length nodes → node d b log layer (at nodes i) ≡ node d b log layer (at nodes j) → JoinedBelow (length nodes) pairs i j
    pub given : AllByRecursion (λ p. IsUnitedIds changed log layer nodes p.0 p.1) pairs
    pub all :
        AllByRecursion
        (λ c. level d c.pair.a c.pair.b ≤ layer
        → (i j : ℕ) × (i < length nodes) × (j < length nodes) × (node d b log layer (at nodes i) ≡ node d b log layer c.pair.a)
        × (node d b log layer (at nodes j) ≡ node d b log layer c.pair.b) × IsTrue (meet pairs i j)) changed
