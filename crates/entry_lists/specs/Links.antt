-- Inner: no clause of `run` is made of it.
-- The links of an entry, by the places of their children and parents.
use Rattle.std.specs.Prelude.{◌≡◌, ℕ, ◌+◌, ◌<◌, ◌==◌, if◌then◌else◌, List, [], ◌∷◌, ◌++◌, length, map, set, IsTrue}
use Rattle.std.specs.List.{All, flat_map}
use Rattle.graph_model.specs.Lists.{has}
use Rattle.op_model.specs.declared.base.Dataset.{Dataset}
use Rattle.op_model.specs.declared.base.Base.{Base}
use Rattle.op_model.specs.declared.entry.Entry.{Entry}
use Rattle.record_rows.specs.Rows.{Row, Link, Node}
use Rattle.record_rows.specs.Chains.{has_id}
use Rattle.record_rows.specs.Readings.{HoldsId}
use Rattle.row_append.specs.declared.tail.Tail.{Tail}
use Rattle.row_append.specs.Ends.{ChildrenOf, VersionsOf, IsFree}
use Rattle.base_rows.specs.declared.lists.BaseLink.{BaseLink}
use Rattle.base_rows.specs.BaseRows.{ids_of}
use Rattle.base_rows.specs.Lists.{IsOnce, IsWithin, at}
use Rattle.base_rows.specs.States.{AreTails}
use Rattle.entry_parts.specs.declared.made.MadeLink.{MadeLink}
use Rattle.entry_rows.specs.States.{AreAt, ArePointers, link_by}
use Rattle.octree_layers.specs.Places.{place_of}

-- the child of the link, if its record stands already
unfoldable pub kept_of : MadeLink → List ℕ
kept_of x = if x.child_at == 0 then [] else x.child ∷ []

-- the children of links whose records stand already
abbrev pub kept_ids : List MadeLink → List ℕ
kept_ids xs = flat_map kept_of xs

-- with this function each of these children's records is told by its id
abbrev pub IsToldBy : (ℕ → ℕ) → MadeLink → Type 0
IsToldBy f x = 0 < x.child_at → f x.child ≡ x.child_at

-- the places with that of the link's child at its place among the kept ones, if it is one
unfoldable pub put_place : List ℕ → List ℕ → MadeLink → List ℕ
put_place kept places x = if x.child_at == 0 then places else set places (place_of kept x.child) x.child_at

-- the record of each of these ids stands at the place of the same number
pub record AreHeld (d : Dataset) (b : Base) (log : List Entry) (ids places : List ℕ) : Type 0 where
  pub count : length places ≡ length ids
  pub each : (i : ℕ) → i < length ids → HoldsId d b log (at places i) (at ids i)

-- the child stands among the kept ones or the new ones, and the parent among the new ones
pub record IsBetween (kept new : List ℕ) (x : MadeLink) : Type 0 where
  pub kept_child : 0 < x.child_at → IsTrue (has kept x.child)
  pub new_child : x.child_at ≡ 0 → IsTrue (has new x.child)
  pub parent : IsTrue (has new x.parent)

-- the link with the places of its child, among the kept ones and the new ones behind them, and of its parent among the new ones
unfoldable pub base_link : List ℕ → List ℕ → MadeLink → BaseLink
base_link kept new x = record {
  child = if x.child_at == 0 then length kept + place_of new x.child else place_of kept x.child;
  parent = place_of new x.parent;
}

-- these are the links to these nodes, from each other and from children that stand there, whose links end there
pub record AreLinksPlaced (number : ℕ) (rows : List Row) (kept places : List ℕ) (ends : List Tail) (xs : List BaseLink) (ns : List Node) (ls : List Link) : Type 0 where
  pub once : IsOnce (kept ++ ids_of ns)
  pub kept_at : AreAt has_id kept rows places
  pub ends_are : AreTails VersionsOf kept rows ends
  pub pointers : ArePointers ends
  pub within : All (IsWithin (kept ++ ids_of ns) (ids_of ns)) xs
  pub free : (i : ℕ) → i < length (ids_of ns) → IsFree (ChildrenOf (at (ids_of ns) i)) rows × IsFree (VersionsOf (at (ids_of ns) i)) rows
  pub links_are : map (link_by number (kept ++ ids_of ns) (ids_of ns)) xs ≡ ls
