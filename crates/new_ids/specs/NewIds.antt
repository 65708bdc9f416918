-- Inner: no clause of `run` is made of it.
-- What the records before an entry don't have of the nodes and edges that it makes.
use Rattle.std.specs.Prelude.{List, ◌∷◌, map, IsFalse}
use Rattle.std.specs.List.{AllByRecursion, list_any}
use Rattle.op_model.specs.declared.base.Dataset.{Dataset}
use Rattle.op_model.specs.declared.base.Base.{Base}
use Rattle.op_model.specs.declared.request.Edit.{Edit}
use Rattle.op_model.specs.declared.entry.Entry.{Entry}
use Rattle.op_model.specs.Cuts.{PairsAscend}
use Rattle.op_model.specs.Operations.{change}
use Rattle.op_model.specs.Legal.{Legal}
use Rattle.op_model.specs.Valid.{IsAscending, IsBase, IsDataset}
use Rattle.record_rows.specs.Rows.{Row, Node}
use Rattle.record_rows.specs.Chains.{change_of, has_id, retires}
use Rattle.record_rows.specs.LogRows.{new_edges, new_nodes, rows_of}
use Rattle.row_append.specs.Ends.{ChildrenOf, VersionsOf, HasNone, IsFree}
use Rattle.base_rows.specs.BaseRows.{ids_of}
use Rattle.base_rows.specs.Lists.{IsOnce}

-- no record of a supervoxel or a node has the id, nor does a link come from it or lead to it, and no entry retired the node
pub record IsNewNode (rows : List Row) (n : Node) : Type 0 where
  pub unknown : IsFalse (list_any (has_id n.id) rows)
  pub children : IsFree (ChildrenOf n.id) rows
  pub versions : IsFree (VersionsOf n.id) rows
  pub no_children : HasNone (ChildrenOf n.id) rows
  pub no_versions : HasNone (VersionsOf n.id) rows
  pub unretired : IsFalse (list_any (retires n) rows)

-- so it is for each node that the entry makes behind the log, and their ids ascend; no change of a pair that it makes known stands
pub record AreNew (d : Dataset) (b : Base) (log : List Entry) (e : Entry) : Type 0 where
  pub once : IsOnce (ids_of (new_nodes d b (e ∷ log) e.number))
  pub ascending : IsAscending (ids_of (new_nodes d b (e ∷ log) e.number))
  pub nodes : AllByRecursion (IsNewNode (rows_of d b log)) (new_nodes d b (e ∷ log) e.number)
  pub edges : AllByRecursion (λ x. IsFalse (list_any (change_of x.pair) (rows_of d b log))) (new_edges d b log e)

abbrev pub NewIdsAreFree : Type 0
NewIdsAreFree = (d : Dataset) (b : Base) → IsDataset d → IsBase d b → (e f : Entry) (log : List Entry) → Legal d b (e ∷ f ∷ log) → AreNew d b (f ∷ log) e

-- the pairs that an edit changes at a legal log ascend, so that none stands twice
abbrev pub ChangedPairsAscend : Type 0
ChangedPairsAscend = (d : Dataset) (b : Base) (log : List Entry) (edit : Edit) → Legal d b log → PairsAscend (map (λ c. c.pair) (change d b log edit))
