-- Inner: no clause of `run` is made of it.
-- What one more entry changes, retires and makes, by places, behind the records that stand.
use Rattle.std.specs.Prelude.{◌≡◌, ℕ, zero, suc, ◌+◌, ◌<◌, None, List, [], ◌∷◌, ◌++◌, length, map, IsFalse}
use Rattle.std.specs.List.{All, list_any}
use Rattle.op_model.specs.declared.base.Edge.{Edge}
use Rattle.op_model.specs.declared.entry.Entry.{Entry}
use Rattle.record_rows.specs.Rows.{Row, NodeRow, LinkRow, EdgeRow, ChangeRow, ItemRow, EntryRow, Node, Link, Item}
use Rattle.record_rows.specs.Chains.{change_of, entry_before, has_id}
use Rattle.record_rows.specs.Words.{kind_code, names, place_from}
use Rattle.row_append.specs.Ends.{EdgesOf, NodesIn, ChildrenOf, VersionsOf, IsFree, IsHeaded}
use Rattle.base_rows.specs.BaseRows.{ids_of}
use Rattle.base_rows.specs.Lists.{IsOnce, IsPlaced, IsWithin, at}
use Rattle.base_rows.specs.States.{AreTails}
use Rattle.grown_rows.specs.Aimed.{AreRetired, ChangesEnd, ItemsEnd, is_entry}
use Rattle.entry_rows.specs.declared.lists.EntryHead.{EntryHead}
use Rattle.entry_rows.specs.declared.lists.EntryLists.{EntryLists}
use Rattle.entry_rows.specs.Changes.{AreChanges}
use Rattle.entry_rows.specs.States.{AreAt, AreItems, AreMade, ArePointers, link_by}

-- so many places, one after the other
unfoldable pub places_from : ℕ → ℕ → List ℕ
places_from place zero = []
places_from place (suc n) = place ∷ places_from (place + 1) n

-- this is what the entry's own record tells, but for its items and changes
pub record IsHead (e : Entry) (h : EntryHead) : Type 0 where
  pub kind_is : kind_code e.asked ≡ h.kind
  pub names_are : names e.asked ≡ h.names
  pub at_is : e.at ≡ h.at
  pub client_is : e.client ≡ h.client
  pub line_is : e.line ≡ h.line
  pub number_is : e.number ≡ h.number

-- the edges join supervoxels whose edges end there, and no change of their pairs stands yet
pub record EdgesListed (old : List Row) (l : EntryLists) : Type 0 where
  pub ids : List ℕ
  pub once : IsOnce ids
  pub ends_are : AreTails EdgesOf ids old l.edge_ends.items
  pub pointers : ArePointers l.edge_ends.items
  pub placed : All (IsPlaced ids) l.edges.items
  pub fresh : All (λ x. IsFalse (list_any (change_of x.edge.pair) old)) l.edges.items

-- the nodes lie in chunks whose nodes end there, and nothing of them stands yet
pub record NodesListed (number : ℕ) (old : List Row) (l : EntryLists) (ns : List Node) : Type 0 where
  pub chunks : List ℕ
  pub once : IsOnce chunks
  pub ends_are : AreTails NodesIn chunks old l.node_ends.items
  pub pointers : ArePointers l.node_ends.items
  pub made : AreMade number chunks old l.nodes.items ns

-- the links join these nodes to each other and to children that stand there, whose links end there
pub record LinksListed (old : List Row) (l : EntryLists) (ns : List Node) : Type 0 where
  pub ids : map (λ x. x.id) l.nodes.items ≡ ids_of ns
  pub once : IsOnce (l.kept.items ++ ids_of ns)
  pub kept_at : AreAt has_id l.kept.items old l.kept_places.items
  pub ends_are : AreTails VersionsOf l.kept.items old l.kept_ends.items
  pub pointers : ArePointers l.kept_ends.items
  pub within : All (IsWithin (l.kept.items ++ ids_of ns) (ids_of ns)) l.links.items
  pub free : (i : ℕ) → i < length (ids_of ns) → IsFree (ChildrenOf (at (ids_of ns) i)) old × IsFree (VersionsOf (at (ids_of ns) i)) old

-- the records of an entry, from its edges, nodes, links and items
abbrev pub made_rows : Entry → List Edge → List Node → List Link → List Item → List Row
made_rows e es ns ls is =
    map (EdgeRow e.number) es ++ (map NodeRow ns ++ (map LinkRow ls ++ (map ItemRow is ++ (map (ChangeRow e.number) e.changed ++ EntryRow e ∷ []))))

-- these are an entry's items and changes behind these records, and what its own record tells
pub record RestListed (rows : List Row) (e : Entry) (is : List Item) (l : EntryLists) : Type 0 where
  pub head : IsHead e l.head
  pub items : AreItems e.number l.items.items is
  pub changes : AreChanges rows l.changes.items
  pub changes_are : map (λ x. x.changed) l.changes.items ≡ e.changed
  pub no_items : ItemsEnd e.number rows None
  pub no_changes : ChangesEnd e.number rows None
  pub before : place_from (entry_before e.number) 0 rows ≡ l.head.before
  pub some_before : 0 < l.head.before
  pub no_after : IsFalse (list_any (is_entry (e.number + 1)) rows)
  pub retired : AreRetired e rows l.retired.items

-- these are an entry's edges, nodes, links and items behind the records that stand
pub record IsListed (old : List Row) (e : Entry) (es : List Edge) (ns : List Node) (ls : List Link) (is : List Item) (l : EntryLists) : Type 0 where
  pub headed : IsHeaded old
  pub head : IsHead e l.head
  pub edges : EdgesListed old l
  pub edges_are : map (λ x. x.edge) l.edges.items ≡ es
  pub nodes : NodesListed e.number old l ns
  pub links : LinksListed old l ns
  pub links_are : map (link_by e.number (l.kept.items ++ ids_of ns) (ids_of ns)) l.links.items ≡ ls
  pub items : AreItems e.number l.items.items is
  pub changes : AreChanges (old ++ map (EdgeRow e.number) es) l.changes.items
  pub changes_are : map (λ x. x.changed) l.changes.items ≡ e.changed
  pub no_items : ItemsEnd e.number old None
  pub no_changes : ChangesEnd e.number old None
  pub before : place_from (entry_before e.number) 0 old ≡ l.head.before
  pub some_before : 0 < l.head.before
  pub no_after : IsFalse (list_any (is_entry (e.number + 1)) old)
  pub retired : AreRetired e old l.retired.items
