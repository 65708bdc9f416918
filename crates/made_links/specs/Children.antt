-- Inner: no clause of `run` is made of it.
-- The children of the nodes that an entry makes in a layer.
use Rattle.std.specs.Prelude.{◌≡◌, ℕ, ◌-◌, ◌<◌, ◌&&◌, ◌==◌, nat_lt, if◌then◌else◌, Bool, IsTrue, List, [], ◌∷◌, length, map}
use Rattle.std.specs.List.{All}
use Rattle.graph_model.specs.Lists.{has}
use Rattle.op_model.specs.declared.base.Dataset.{Dataset}
use Rattle.op_model.specs.declared.base.Base.{Base}
use Rattle.op_model.specs.declared.entry.Entry.{Entry}
use Rattle.record_rows.specs.Chains.{has_id}
use Rattle.record_rows.specs.LogRows.{rows_of}
use Rattle.record_rows.specs.Readings.{ParentImage}
use Rattle.record_rows.specs.Versions.{child_at}
use Rattle.record_rows.specs.Words.{place_from}
use Rattle.layer_laws.specs.Building.{at}
use Rattle.entry_parts.specs.Made.{AreMadeIn}
use Rattle.entry_parts.specs.Parts.{AreFirstsOf}
use Rattle.child_counts.specs.Counting.{HoldsChildren}
use Rattle.made_nodes.specs.declared.layers.MadeLayer.{MadeLayer}
use Rattle.made_links.specs.declared.finding.Child.{Child}

-- The words tell of a log, and an entry e is to follow. These are supervoxels with the least leaf of each child of a node that the entry makes in the layer, and with their least leaves in the layer below; and this is what the entry makes there, which is nothing below layer 2.
pub record AreBelow (d : Dataset) (b : Base) (log : List Entry) (e : Entry) (words : List ℕ) (prefix : ℕ) (ids : List ℕ) (layer : ℕ) (firsts : List ℕ) (below : MadeLayer) : Type 0 where
  pub image : ParentImage d b log words
  pub prefix_is : prefix ≡ length log
  pub holds : HoldsChildren d b (e ∷ log) layer ids
  pub firsts_of : AreFirstsOf d b (e ∷ log) ids (layer - 1) firsts
  pub made : 2 < layer → AreMadeIn d b log e (layer - 1) below.nodes.items
  pub none : layer ≡ 2 → below.nodes.items ≡ []
  pub leasts : map (at ids) below.leasts.items ≡ map (λ m. m.least) below.nodes.items
  pub places : All (λ p. p < length ids) below.leasts.items

-- the child is that of its least leaf; and it is one of the nodes that the entry makes below, or its record stands at its place
pub record IsChild (d : Dataset) (b : Base) (log : List Entry) (e : Entry) (layer : ℕ) (ids : List ℕ) (below : MadeLayer) (c : Child) : Type 0 where
  pub named : c.id ≡ child_at d b (e ∷ log) layer (at ids c.least)
  pub new : c.spot ≡ 0 → IsTrue (has (map (λ m. m.id) below.nodes.items) c.id)
  pub kept : 0 < c.spot → place_from (has_id c.id) 0 (rows_of d b log) ≡ c.spot

-- whether a least leaf of the layer below stands at a place, and its node's parent is new
abbrev pub has_parent : List ℕ → List ℕ → List ℕ → ℕ → Bool
has_parent below_firsts firsts ranks i = at below_firsts i == i && nat_lt 0 (at ranks (at firsts i))

abbrev pub child_at_place : List ℕ → List ℕ → List ℕ → ℕ → List ℕ
child_at_place below_firsts firsts ranks i = if has_parent below_firsts firsts ranks i then i ∷ [] else []

-- that, with the least leaves in the layer and the nodes that the entry makes there
pub record IsLinked (d : Dataset) (b : Base) (log : List Entry) (e : Entry) (words : List ℕ) (prefix : ℕ) (ids : List ℕ) (layer : ℕ) (below_firsts : List ℕ) (below : MadeLayer) (firsts : List ℕ) (made : MadeLayer) : Type 0 where
  pub below_is : AreBelow d b log e words prefix ids layer below_firsts below
  pub firsts_of : AreFirstsOf d b (e ∷ log) ids layer firsts
  pub made_are : AreMadeIn d b log e layer made.nodes.items
  pub made_leasts : map (at ids) made.leasts.items ≡ map (λ m. m.least) made.nodes.items
  pub made_places : All (λ p. p < length ids) made.leasts.items
