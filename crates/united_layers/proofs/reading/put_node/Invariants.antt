use Rattle.std.proofs.Common.{◌≡◌, ◌/◌, ◌++◌, ℕ, List, length, map}
use Rattle.op_model.specs.declared.base.Base.{Base}
use Rattle.op_model.specs.declared.entry.Entry.{Entry}
use Rattle.record_rows.specs.Rows.{Node}
use Rattle.record_rows.specs.LogRows.{rows_of}
use Rattle.record_rows.specs.Readings.{ParentImage, HoldsNode}
use Rattle.record_rows.proofs.WalkLemmas.{steps_left}
use Rattle.parent_rows.proofs.NodeWalks.{AtChild}
use Rattle.united_layers.specs.Jointed.{node_joint}
use Rattle.united_layers.proofs.reading.put_node.Given as goal

abbrev pub invariant-loop-at : goal.invariant-loop-at
invariant-loop-at g l = record {
  same : l.w ≡ l.fn.w;
  walked :
      (b : Base) (log : List Entry) (n : Node) → ParentImage l.dataset b log (g.W.Words.words l.fn.w) → HoldsNode l.dataset b log l.fn.spot n
      → (before : List ℕ) × AtChild (rows_of l.dataset b log) n.id l.at before × (l.list.items ≡ l.fn.list.items ++ map (node_joint l.dataset (rows_of l.dataset b log) n) before);
}

abbrev pub decreases-loop-at : goal.decreases-loop-at
decreases-loop-at g l = steps_left (length (g.W.Words.words l.fn.w) / 8) l.at
