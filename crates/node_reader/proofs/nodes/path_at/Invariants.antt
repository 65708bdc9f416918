use Rattle.std.proofs.Common.{◌≡◌, ℕ, ◌+◌, ◌≤◌, List, length, take, map}
use Rattle.op_model.specs.declared.base.Dataset.{Dataset}
use Rattle.op_model.specs.declared.base.Base.{Base}
use Rattle.op_model.specs.declared.entry.Entry.{Entry}
use Rattle.op_model.specs.Chunks.{layers_from}
use Rattle.op_model.specs.Labels.{node}
use Rattle.op_model.specs.Transcript.{log_at}
use Rattle.record_rows.specs.Versions.{child_at}
use Rattle.record_rows.specs.Readings.{HoldsId, HoldsSupervoxel, ParentImage}
use Rattle.node_reader.proofs.nodes.path_at.Given as goal

abbrev pub invariant-loop-place : goal.invariant-loop-place
invariant-loop-place g l = record {
  same : l.w ≡ l.fn.w;
  long : length l.nodes ≡ 17;
  at :
      (d : Dataset) (b : Base) (log : List Entry) (v : ℕ) → ParentImage d b log (g.W.Words.words l.fn.w) → HoldsSupervoxel d b log l.fn.sv v → l.fn.prefix ≤ length log
      → HoldsId d b log l.spot (child_at d b (log_at d b log l.fn.prefix) (l.place + 2) v);
  shown :
      (d : Dataset) (b : Base) (log : List Entry) (v : ℕ) → ParentImage d b log (g.W.Words.words l.fn.w) → HoldsSupervoxel d b log l.fn.sv v → l.fn.prefix ≤ length log
      → take l.place l.nodes ≡ map (λ layer. node d b (log_at d b log l.fn.prefix) layer v) (layers_from 2 l.place);
}
