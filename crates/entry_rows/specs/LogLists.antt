-- Inner: no clause of `run` is made of it.
-- What one more entry changes, retires and makes, by places, behind the records of a log.
use Rattle.std.specs.Prelude.{◌≡◌, ◌+◌, List, ◌∷◌, ◌++◌, length, map}
use Rattle.op_model.specs.declared.base.Dataset.{Dataset}
use Rattle.op_model.specs.declared.base.Base.{Base}
use Rattle.op_model.specs.declared.entry.Entry.{Entry}
use Rattle.op_model.specs.Legal.{Legal}
use Rattle.op_model.specs.Valid.{IsBase, IsDataset}
use Rattle.record_rows.specs.Rows.{EdgeRow}
use Rattle.record_rows.specs.LogRows.{marks, new_edges, new_links, new_nodes, rows_of}
use Rattle.base_rows.specs.BaseRows.{ids_of}
use Rattle.entry_rows.specs.declared.lists.EntryLists.{EntryLists}
use Rattle.entry_rows.specs.Changes.{AreChanges}
use Rattle.entry_rows.specs.Listed.{EdgesListed, IsHead, IsListed, LinksListed, NodesListed}
use Rattle.entry_rows.specs.Retiring.{AreOnPaths}
use Rattle.entry_rows.specs.States.{AreItems, link_by}

-- These are the edges, nodes, links, items and changes of an entry behind a log, whose last record is that of the entry before. The nodes on the paths of the changed pairs' ends are retired.
pub record AreLogLists (d : Dataset) (b : Base) (log : List Entry) (e : Entry) (l : EntryLists) : Type 0 where
  pub head : IsHead e l.head
  pub before : l.head.before + 1 ≡ length (rows_of d b log)
  pub edges : EdgesListed (rows_of d b log) l
  pub edges_are : map (λ x. x.edge) l.edges.items ≡ new_edges d b log e
  pub nodes : NodesListed e.number (rows_of d b log) l (new_nodes d b (e ∷ log) e.number)
  pub links : LinksListed (rows_of d b log) l (new_nodes d b (e ∷ log) e.number)
  pub links_are : map (link_by e.number (l.kept.items ++ ids_of (new_nodes d b (e ∷ log) e.number)) (ids_of (new_nodes d b (e ∷ log) e.number))) l.links.items ≡ new_links d b (e ∷ log) e.number
  pub items : AreItems e.number l.items.items (marks e.number e.asked)
  pub changes : AreChanges (rows_of d b log ++ map (EdgeRow e.number) (new_edges d b log e)) l.changes.items
  pub changes_are : map (λ x. x.changed) l.changes.items ≡ e.changed
  pub retired : AreOnPaths d b log e l.retired.items

-- from them the entry's records follow
abbrev pub LogListsTell : Type 0
LogListsTell =
    (d : Dataset) (b : Base) → IsDataset d → IsBase d b → (e f : Entry) (log : List Entry) (l : EntryLists) → Legal d b (f ∷ log) → e.number ≡ length (f ∷ log) → AreLogLists d b (f ∷ log) e l
    → IsListed (rows_of d b (f ∷ log)) e (new_edges d b (f ∷ log) e) (new_nodes d b (e ∷ f ∷ log) e.number) (new_links d b (e ∷ f ∷ log) e.number) (marks e.number e.asked) l
