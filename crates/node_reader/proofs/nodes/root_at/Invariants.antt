use Rattle.std.proofs.Common.{◌≡◌, ℕ, ◌+◌, ◌-◌, ◌≤◌, List, length}
use Rattle.op_model.specs.declared.base.Dataset.{Dataset}
use Rattle.op_model.specs.declared.base.Base.{Base}
use Rattle.op_model.specs.declared.entry.Entry.{Entry}
use Rattle.op_model.specs.Transcript.{log_at}
use Rattle.record_rows.specs.Versions.{child_at}
use Rattle.record_rows.specs.Readings.{HoldsId, HoldsSupervoxel, ParentImage}
use Rattle.node_reader.proofs.nodes.root_at.Given as goal

abbrev pub invariant-loop-layer : goal.invariant-loop-layer
invariant-loop-layer g l = record {
  same : l.w ≡ l.fn.w;
  low : 2 ≤ l.layer;
  high : l.layer ≤ l.top + 1;
  at :
      (d : Dataset) (b : Base) (log : List Entry) (v : ℕ) → ParentImage d b log (g.W.Words.words l.fn.w) → HoldsSupervoxel d b log l.fn.sv v → l.fn.prefix ≤ length log
      → HoldsId d b log l.spot (child_at d b (log_at d b log l.fn.prefix) l.layer v);
}

abbrev pub decreases-loop-layer : goal.decreases-loop-layer
decreases-loop-layer g l = l.top + 1 - l.layer
