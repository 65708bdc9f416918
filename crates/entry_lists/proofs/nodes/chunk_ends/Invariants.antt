use Rattle.std.proofs.Common.{◌≡◌, List, true, take}
use Rattle.std.specs.List.{All}
use Rattle.graph_model.specs.Lists.{has}
use Rattle.op_model.specs.declared.base.Dataset.{Dataset}
use Rattle.op_model.specs.declared.base.Base.{Base}
use Rattle.op_model.specs.declared.entry.Entry.{Entry}
use Rattle.record_rows.specs.LogRows.{chunks, rows_of}
use Rattle.record_rows.specs.Readings.{ParentImage}
use Rattle.row_append.specs.Ends.{NodesIn}
use Rattle.base_rows.specs.States.{AreTails}
use Rattle.entry_rows.specs.States.{ArePointers}
use Rattle.entry_lists.proofs.nodes.chunk_ends.Given as goal

abbrev pub invariant-loop-id : goal.invariant-loop-id
invariant-loop-id g l = record {
  same : l.w ≡ l.fn.w;
  ends : (d : Dataset) (b : Base) (log : List Entry) → ParentImage d b log (g.W.Words.words l.fn.w) → All (λ c. has (chunks d b) c ≡ true) l.ids → AreTails NodesIn (take l.id-index l.ids) (rows_of d b log) l.list.items;
  pointers : ArePointers l.list.items;
}
