-- Inner: no clause of `run` is made of it.
-- Laws over entries that only make pairs active.
use Rattle.std.specs.Prelude.{◌≡◌, ℕ, ◌+◌, ◌-◌, ◌*◌, ◌≤◌, ◌<◌, ◌^◌, ◌↔◌, ◌⊎◌, ◌||◌, Bool, true, false, List, ◌∷◌, length, IsTrue}
use Rattle.std.specs.List.{AllByRecursion}
use Rattle.op_model.specs.declared.base.Dataset.{Dataset}
use Rattle.op_model.specs.declared.base.Base.{Base}
use Rattle.op_model.specs.declared.entry.Entry.{Entry}
use Rattle.op_model.specs.declared.entry.Changed.{Changed}
use Rattle.op_model.specs.declared.request.Edit.{Edit}
use Rattle.graph_model.specs.Lists.{has}
use Rattle.graph_model.specs.Components.{Joined as JoinedBy}
use Rattle.op_model.specs.Chunks.{chunk, layers}
use Rattle.op_model.specs.Labels.{edges, touches, node, Joined}
use Rattle.op_model.specs.Valid.{IsAscending}
use Rattle.op_model.specs.Operations.{change, ends}
use Rattle.op_model.specs.Edges.{linked}
use Rattle.op_model.specs.Legal.{Legal}
use Rattle.node_ids.specs.Ids.{IsLayout}
use Rattle.components.specs.Joining.{meet, JoinedBelow, AreLeastMembers}
use Rattle.layer_laws.specs.Building.{at, least_leaf}
use Rattle.layer_laws.specs.Levels.{level, leaves, AreFirsts}
use Rattle.unite_laws.specs.Uniting.{HaveState, is_changed, unites, IsUnited, AreUnited, IsUnitedIds, AreUnitedIds}

-- Each entry of a legal log gives its changed pairs one state, which the first of them tells, and so does each edit at such a log.
pub record EntriesHaveOneState : Type 0 where
  pub one : (d : Dataset) (b : Base) (log : List Entry) → Legal d b log → AllByRecursion (λ e. (on : Bool) × HaveState on e.changed) log
  pub told_by_first :
      (d : Dataset) (b : Base) (e : Entry) (log : List Entry) (c : Changed) (more : List Changed) → Legal d b (e ∷ log) → e.changed ≡ c ∷ more
      → HaveState c.active e.changed
  pub edits_too :
      (d : Dataset) (b : Base) (log : List Entry) (edit : Edit) (c : Changed) (more : List Changed) → Legal d b log → change d b log edit ≡ c ∷ more
      → HaveState c.active (change d b log edit)

-- An entry that only makes pairs active unites nodes of each layer: a layer joins what it joined before, and its changed pairs.
pub record ActivePairsUnite : Type 0 where
  pub links :
      (d : Dataset) (b : Base) (e : Entry) (log : List Entry) (u v : ℕ) → IsLayout d.layout → HaveState true e.changed
      → linked (edges d b (e ∷ log)) u v ≡ (linked (edges d b log) u v || is_changed e.changed u v)
  pub each :
      (d : Dataset) (b : Base) (e : Entry) (log : List Entry) (layer u v : ℕ) → IsLayout d.layout → HaveState true e.changed → 2 ≤ layer → layer < 2 ^ 8
      → Joined d b (e ∷ log) layer u v ↔ JoinedBy (unites d b e.changed log layer) b.supervoxels u v
  pub joined :
      (d : Dataset) (b : Base) (e : Entry) (log : List Entry) (layer : ℕ) (nodes : List ℕ) (pairs : List (ℕ × ℕ)) (i j u v : ℕ) → IsLayout d.layout
      → IsAscending b.supervoxels → HaveState true e.changed → 2 ≤ layer → layer < 2 ^ 8 → AreUnited d b e.changed log layer nodes pairs → i < length nodes → j < length nodes
      → IsTrue (has (leaves d b log layer (at nodes i)) u) → IsTrue (has (leaves d b log layer (at nodes j)) v)
      → Joined d b (e ∷ log) layer u v ↔ JoinedBelow (length nodes) pairs i j
  pub whole :
      (d : Dataset) (b : Base) (e : Entry) (log : List Entry) (layer : ℕ) (nodes : List ℕ) (pairs : List (ℕ × ℕ)) (i w : ℕ) → IsLayout d.layout
      → IsAscending b.supervoxels → HaveState true e.changed → 2 ≤ layer → layer < 2 ^ 8 → AreUnited d b e.changed log layer nodes pairs → i < length nodes
      → IsTrue (has (leaves d b (e ∷ log) layer (at nodes i)) w)
      ↔ ((j : ℕ) × (j < length nodes) × JoinedBelow (length nodes) pairs i j × IsTrue (has (leaves d b log layer (at nodes j)) w))
  pub grouped :
      (d : Dataset) (b : Base) (e : Entry) (log : List Entry) (layer : ℕ) (nodes : List ℕ) (pairs : List (ℕ × ℕ)) (lows : List ℕ) (i j : ℕ) → IsLayout d.layout
      → IsAscending b.supervoxels → HaveState true e.changed → 2 ≤ layer → layer < 2 ^ 8 → AreUnited d b e.changed log layer nodes pairs
      → AreLeastMembers (length nodes) pairs lows → i < length nodes → j < length nodes
      → (at lows i ≡ at lows j) ↔ IsTrue (has (leaves d b (e ∷ log) layer (at nodes i)) (at nodes j))
  pub lowest :
      (d : Dataset) (b : Base) (e : Entry) (log : List Entry) (layer : ℕ) (nodes : List ℕ) (pairs : List (ℕ × ℕ)) (i j : ℕ) → IsLayout d.layout
      → IsAscending b.supervoxels → HaveState true e.changed → 2 ≤ layer → layer < 2 ^ 8 → AreUnited d b e.changed log layer nodes pairs → i < length nodes → j < length nodes
      → JoinedBelow (length nodes) pairs i j
      → least_leaf d b (e ∷ log) layer (at nodes i) ≤ least_leaf d b log layer (at nodes j)
  pub lowest_of :
      (d : Dataset) (b : Base) (e : Entry) (log : List Entry) (layer : ℕ) (nodes : List ℕ) (pairs : List (ℕ × ℕ)) (i : ℕ) → IsLayout d.layout
      → IsAscending b.supervoxels → HaveState true e.changed → 2 ≤ layer → layer < 2 ^ 8 → AreUnited d b e.changed log layer nodes pairs → i < length nodes
      → (j : ℕ) × (j < length nodes) × JoinedBelow (length nodes) pairs i j
      × (least_leaf d b (e ∷ log) layer (at nodes i) ≡ least_leaf d b log layer (at nodes j))
  pub lowest_is :
      (d : Dataset) (b : Base) (e : Entry) (log : List Entry) (layer : ℕ) (nodes : List ℕ) (pairs : List (ℕ × ℕ)) (i j m : ℕ) → IsLayout d.layout
      → IsAscending b.supervoxels → HaveState true e.changed → 2 ≤ layer → layer < 2 ^ 8 → AreUnited d b e.changed log layer nodes pairs → i < length nodes → j < length nodes
      → JoinedBelow (length nodes) pairs i j → m ≡ least_leaf d b log layer (at nodes j)
      → ((k : ℕ) → k < length nodes → JoinedBelow (length nodes) pairs i k → m ≤ least_leaf d b log layer (at nodes k))
      → least_leaf d b (e ∷ log) layer (at nodes i) ≡ m
  pub one_chunk :
      (d : Dataset) (b : Base) (e : Entry) (log : List Entry) (layer : ℕ) (nodes : List ℕ) (pairs : List (ℕ × ℕ)) (i j : ℕ) → IsLayout d.layout
      → IsAscending b.supervoxels → HaveState true e.changed → 2 ≤ layer → layer < 2 ^ 8 → AreUnited d b e.changed log layer nodes pairs → i < length nodes → j < length nodes
      → JoinedBelow (length nodes) pairs i j → chunk d layer (at nodes i) ≡ chunk d layer (at nodes j)
  pub made :
      (d : Dataset) (b : Base) (e : Entry) (log : List Entry) (layer : ℕ) (nodes : List ℕ) (pairs : List (ℕ × ℕ)) (v : ℕ) → IsLayout d.layout
      → IsAscending b.supervoxels → HaveState true e.changed → 2 ≤ layer → layer < 2 ^ 8 → AreUnited d b e.changed log layer nodes pairs → IsTrue (has b.supervoxels v)
      → IsTrue (touches e.changed (leaves d b (e ∷ log) layer v)) ↔ ((i : ℕ) × (i < length nodes) × IsTrue (has (leaves d b log layer (at nodes i)) v))
  pub below :
      (d : Dataset) (b : Base) (e : Entry) (log : List Entry) (layer : ℕ) (nodes : List ℕ) (pairs : List (ℕ × ℕ)) (i w : ℕ) → IsLayout d.layout
      → IsAscending b.supervoxels → HaveState true e.changed → 2 ≤ layer → layer < 2 ^ 8 → AreUnited d b e.changed log layer nodes pairs → i < length nodes
      → IsTrue (has (leaves d b (e ∷ log) layer (at nodes i)) w)
      ↔ ((j : ℕ) × (j < length nodes) × JoinedBelow (length nodes) pairs i j
      × ((IsTrue (has (leaves d b log layer (at nodes j)) w) × (touches e.changed (leaves d b log (layer - 1) w) ≡ false))
      ⊎ ((x : ℕ) × IsTrue (has (ends e.changed) x) × IsTrue (has (leaves d b log layer (at nodes j)) x) × IsTrue (has (leaves d b (e ∷ log) (layer - 1) x) w))))
  pub child_ids :
      (d : Dataset) (b : Base) (e f : Entry) (log : List Entry) (layer : ℕ) (nodes : List ℕ) (pairs : List (ℕ × ℕ)) (i id : ℕ) → IsLayout d.layout
      → IsAscending b.supervoxels → HaveState true e.changed → Legal d b (f ∷ log) → IsTrue (has (layers d) (layer - 1)) → 3 ≤ layer → layer < 2 ^ 8
      → AllByRecursion (λ c. IsTrue (has b.supervoxels c.pair.a) × IsTrue (has b.supervoxels c.pair.b)) e.changed
      → AreUnited d b e.changed (f ∷ log) layer nodes pairs → i < length nodes
      → ((w : ℕ) × IsTrue (has (leaves d b (e ∷ f ∷ log) layer (at nodes i)) w) × (node d b (e ∷ f ∷ log) (layer - 1) w ≡ id))
      ↔ ((j : ℕ) × (j < length nodes) × JoinedBelow (length nodes) pairs i j
      × (((w : ℕ) × IsTrue (has (leaves d b (f ∷ log) layer (at nodes j)) w) × (node d b (f ∷ log) (layer - 1) w ≡ id)
      × ((x : ℕ) → IsTrue (has (ends e.changed) x) → node d b (f ∷ log) (layer - 1) x ≡ id → ⊥))
      ⊎ ((x : ℕ) × IsTrue (has (ends e.changed) x) × IsTrue (has (leaves d b (f ∷ log) layer (at nodes j)) x) × (node d b (e ∷ f ∷ log) (layer - 1) x ≡ id))))
  pub firsts :
      (d : Dataset) (b : Base) (e f : Entry) (log : List Entry) (layer c : ℕ) (nodes : List ℕ) (pairs : List (ℕ × ℕ)) (lows : List ℕ) → IsLayout d.layout
      → IsAscending b.supervoxels → HaveState true e.changed → 2 ≤ layer → layer < 2 ^ 8 → AreUnited d b e.changed (f ∷ log) layer nodes pairs → IsAscending lows
      → ((x : ℕ) → IsTrue (has lows x)
      ↔ ((k : ℕ) × (k < length nodes) × (chunk d layer (at nodes k) ≡ c) × (least_leaf d b (e ∷ f ∷ log) layer (at nodes k) ≡ x)))
      → AreFirsts d b (e ∷ f ∷ log) layer c lows

-- The ids of the ends of changed pairs tell the nodes that are united: the ends themselves will do for a list of them, with pairs of places whose ids are one.
pub record EndsTellNodes : Type 0 where
  pub told_by_ids :
      (d : Dataset) (b : Base) (e : Entry) (log : List Entry) (layer : ℕ) (nodes : List ℕ) (pairs : List (ℕ × ℕ)) → IsLayout d.layout
      → Legal d b log → IsTrue (has (layers d) layer) → 2 ≤ layer
      → AllByRecursion (λ c. IsTrue (has b.supervoxels c.pair.a) × IsTrue (has b.supervoxels c.pair.b)) e.changed
      → AreUnitedIds d b e.changed log layer nodes pairs → AreUnited d b e.changed log layer nodes pairs
  pub touched_ids :
      (d : Dataset) (b : Base) (e : Entry) (log : List Entry) (layer w : ℕ) → IsLayout d.layout → Legal d b log → IsTrue (has (layers d) layer) → 2 ≤ layer
      → AllByRecursion (λ c. IsTrue (has b.supervoxels c.pair.a) × IsTrue (has b.supervoxels c.pair.b)) e.changed → IsTrue (has b.supervoxels w)
      → IsTrue (touches e.changed (leaves d b log layer w)) ↔ ((x : ℕ) × IsTrue (has (ends e.changed) x) × (node d b log layer x ≡ node d b log layer w))
  pub ids_rise :
      (d : Dataset) (b : Base) (log : List Entry) (layer u v : ℕ) → IsLayout d.layout → Legal d b log → IsTrue (has (layers d) layer) → IsTrue (has (layers d) (layer + 1))
      → 2 ≤ layer → layer + 1 < 2 ^ 8 → IsTrue (has b.supervoxels u) → IsTrue (has b.supervoxels v)
      → node d b log layer u ≡ node d b log layer v → node d b log (layer + 1) u ≡ node d b log (layer + 1) v
  pub from_ends :
      (d : Dataset) (b : Base) (e : Entry) (log : List Entry) (layer : ℕ) (pairs : List (ℕ × ℕ))
      → ((i j : ℕ) → i < length (ends e.changed) → j < length (ends e.changed) → node d b log layer (at (ends e.changed) i) ≡ node d b log layer (at (ends e.changed) j)
      → JoinedBelow (length (ends e.changed)) pairs i j)
      → AllByRecursion (λ p. IsUnitedIds d b e.changed log layer (ends e.changed) p.0 p.1) pairs
      → ((k : ℕ) → k < length e.changed → level d (at (ends e.changed) (2 * k)) (at (ends e.changed) (2 * k + 1)) ≤ layer → IsTrue (meet pairs (2 * k) (2 * k + 1)))
      → AreUnitedIds d b e.changed log layer (ends e.changed) pairs
  pub carried :
      (d : Dataset) (b : Base) (e : Entry) (log : List Entry) (layer : ℕ) (nodes : List ℕ) (pairs : List (ℕ × ℕ)) → IsLayout d.layout → 2 ≤ layer → layer + 1 < 2 ^ 8
      → AllByRecursion (λ p. IsUnited d b e.changed log layer (at nodes p.0) (at nodes p.1)) pairs
      → AllByRecursion (λ p. IsUnited d b e.changed log (layer + 1) (at nodes p.0) (at nodes p.1)) pairs
  pub carried_ids :
      (d : Dataset) (b : Base) (e : Entry) (log : List Entry) (layer : ℕ) (nodes : List ℕ) (pairs : List (ℕ × ℕ)) → IsLayout d.layout
      → Legal d b log → IsTrue (has (layers d) layer) → IsTrue (has (layers d) (layer + 1)) → 2 ≤ layer → layer + 1 < 2 ^ 8
      → AllByRecursion (λ c. IsTrue (has b.supervoxels c.pair.a) × IsTrue (has b.supervoxels c.pair.b)) e.changed
      → ((i : ℕ) → i < length nodes → IsTrue (has (ends e.changed) (at nodes i)))
      → AllByRecursion (λ p. IsUnitedIds d b e.changed log layer nodes p.0 p.1) pairs
      → AllByRecursion (λ p. IsUnitedIds d b e.changed log (layer + 1) nodes p.0 p.1) pairs
  pub same_by_firsts :
      (n : ℕ) (pairs : List (ℕ × ℕ)) (places : List ℕ) → ((i : ℕ) → i < n → (at places i < n) × ((at places i ≡ i) ⊎ IsTrue (meet pairs i (at places i))))
      → (i j : ℕ) → i < n → j < n → at places i ≡ at places j → JoinedBelow n pairs i j
  pub lows_tell :
      (n : ℕ) (pairs : List (ℕ × ℕ)) (lows : List ℕ) (i j : ℕ) → AreLeastMembers n pairs lows → i < n → j < n
      → (at lows i ≡ at lows j) ↔ JoinedBelow n pairs i j
