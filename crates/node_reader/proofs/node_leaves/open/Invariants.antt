use Rattle.std.proofs.Common.{◌≡◌, ◌/◌, List, length}
use Rattle.op_model.specs.declared.base.Dataset.{Dataset}
use Rattle.op_model.specs.declared.base.Base.{Base}
use Rattle.op_model.specs.declared.entry.Entry.{Entry}
use Rattle.record_rows.specs.Rows.{Node}
use Rattle.record_rows.specs.LogRows.{rows_of}
use Rattle.record_rows.specs.Readings.{ParentImage, HoldsNode}
use Rattle.record_rows.proofs.WalkLemmas.{steps_left}
use Rattle.node_reader.specs.Spreads.{AreNodes}
use Rattle.node_reader.proofs.LeafWalks.{Walked}
use Rattle.node_reader.proofs.node_leaves.open.Given as goal

abbrev pub invariant-loop-at : goal.invariant-loop-at
invariant-loop-at g l = record {
  same : l.w ≡ l.fn.w;
  nodes :
      (d : Dataset) (b : Base) (log : List Entry) (n : Node) → ParentImage d b log (g.W.Words.words l.fn.w) → HoldsNode d b log l.fn.node n
      → AreNodes d b log l.fn.waiting.items → AreNodes d b log l.waiting.items;
  walked :
      (d : Dataset) (b : Base) (log : List Entry) (n : Node) → ParentImage d b log (g.W.Words.words l.fn.w) → HoldsNode d b log l.fn.node n
      → Walked (rows_of d b log) (g.W.Words.words l.fn.w) n.id l.fn.list.items l.fn.waiting.items l.at l.list.items l.waiting.items;
}

abbrev pub decreases-loop-at : goal.decreases-loop-at
decreases-loop-at g l = steps_left (length (g.W.Words.words l.fn.w) / 8) l.at
