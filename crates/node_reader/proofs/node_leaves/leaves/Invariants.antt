use Rattle.std.proofs.Common.{◌≡◌, List}
use Rattle.std.specs.Prelude.{IsPermutation}
use Rattle.op_model.specs.declared.base.Dataset.{Dataset}
use Rattle.op_model.specs.declared.base.Base.{Base}
use Rattle.op_model.specs.declared.entry.Entry.{Entry}
use Rattle.record_rows.specs.Rows.{Node}
use Rattle.record_rows.specs.LogRows.{rows_of}
use Rattle.record_rows.specs.Readings.{ParentImage, HoldsNode}
use Rattle.node_reader.specs.Spreads.{AreNodes, spread, weights}
use Rattle.node_reader.proofs.node_leaves.leaves.Given as goal

abbrev pub invariant-loop-spot : goal.invariant-loop-spot
invariant-loop-spot g l = record {
  same : l.w ≡ l.fn.w;
  nodes : (d : Dataset) (b : Base) (log : List Entry) (n : Node) → ParentImage d b log (g.W.Words.words l.fn.w) → HoldsNode d b log l.fn.node n → AreNodes d b log l.waiting.items;
  leaves :
      (d : Dataset) (b : Base) (log : List Entry) (n : Node) → ParentImage d b log (g.W.Words.words l.fn.w) → HoldsNode d b log l.fn.node n
      → IsPermutation n.leaves (spread (rows_of d b log) l.list.items l.waiting.items);
}

abbrev pub decreases-loop-spot : goal.decreases-loop-spot
decreases-loop-spot g l = weights (g.W.Words.words l.fn.w) l.waiting.items
