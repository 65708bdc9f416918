-- Inner: no clause of `run` is made of it.
-- The nodes and links that an entry makes, as its records have them.
use Rattle.std.specs.Prelude.{◌≡◌, ℕ, ◌<◌, List, ◌∷◌, map, IsTrue}
use Rattle.std.specs.List.{All, flat_map}
use Rattle.graph_model.specs.Lists.{has, head_or}
use Rattle.op_model.specs.declared.base.Dataset.{Dataset}
use Rattle.op_model.specs.declared.base.Base.{Base}
use Rattle.op_model.specs.declared.entry.Entry.{Entry}
use Rattle.record_rows.specs.Rows.{Row, Node, Link}
use Rattle.record_rows.specs.Chains.{has_id}
use Rattle.record_rows.specs.LogRows.{layer_nodes, links_of, new_links, new_nodes, rows_of}
use Rattle.record_rows.specs.Words.{place_from}
use Rattle.entry_parts.specs.declared.made.MadeLink.{MadeLink}
use Rattle.entry_parts.specs.declared.made.MadeNode.{MadeNode}

-- a node by its id, its chunk and its least leaf: one that was made, and one of the records
abbrev pub told_made : MadeNode → ℕ × ℕ × ℕ
told_made m = (m.id, m.chunk, m.least)

abbrev pub told_node : Node → ℕ × ℕ × ℕ
told_node n = (n.id, n.chunk, head_or 0 n.leaves)

-- the link as one that the entry of this number makes
abbrev pub as_link : ℕ → MadeLink → Link
as_link number x = record { child = x.child; parent = x.parent; entry = number }

-- the child is one of these nodes, or its record stands at its place
pub record IsPlacedChild (rows : List Row) (made : List ℕ) (x : MadeLink) : Type 0 where
  pub new : x.child_at ≡ 0 → IsTrue (has made x.child)
  pub kept : 0 < x.child_at → place_from (has_id x.child) 0 rows ≡ x.child_at

module _ (d : Dataset) (b : Base) (log : List Entry) (e : Entry) where
  -- the nodes of a layer that the entry makes behind the log, and their links, the children ascending
  abbrev pub AreMadeIn : ℕ → List MadeNode → Type 0
  AreMadeIn layer ms = map told_made ms ≡ map told_node (layer_nodes d b (e ∷ log) e.number layer)

  pub record AreLinksIn (layer : ℕ) (below : List MadeNode) (ls : List MadeLink) : Type 0 where
    pub links_are : map (as_link e.number) ls ≡ flat_map (links_of d b (e ∷ log) layer) (layer_nodes d b (e ∷ log) e.number layer)
    pub placed : All (IsPlacedChild (rows_of d b log) (map (λ m. m.id) below)) ls

  -- the nodes of all layers, and their links
  abbrev pub AreMade : List MadeNode → Type 0
  AreMade ms = map told_made ms ≡ map told_node (new_nodes d b (e ∷ log) e.number)

  pub record AreLinks (ms : List MadeNode) (ls : List MadeLink) : Type 0 where
    pub links_are : map (as_link e.number) ls ≡ new_links d b (e ∷ log) e.number
    pub placed : All (IsPlacedChild (rows_of d b log) (map (λ m. m.id) ms)) ls
