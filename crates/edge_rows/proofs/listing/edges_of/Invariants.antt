use Rattle.std.proofs.Common.{◌≡◌, ℕ, List, length}
use Rattle.op_model.specs.declared.base.Dataset.{Dataset}
use Rattle.op_model.specs.declared.base.Base.{Base}
use Rattle.op_model.specs.declared.entry.Entry.{Entry}
use Rattle.op_model.specs.Labels.{edges}
use Rattle.op_model.specs.Transcript.{log_at}
use Rattle.record_rows.specs.LogRows.{rows_of}
use Rattle.record_rows.specs.Readings.{Image, HoldsSupervoxel}
use Rattle.record_rows.proofs.WalkLemmas.{steps_left}
use Rattle.edge_rows.proofs.Listed.{Listed}
use Rattle.edge_rows.proofs.listing.edges_of.Given as goal

abbrev pub invariant-loop-at : goal.invariant-loop-at
invariant-loop-at g l = record {
  same : l.w ≡ l.fn.w;
  left : (d : Dataset) (b : Base) (log : List Entry) (v : ℕ) → Image d b log (g.W.Words.words l.fn.w) → HoldsSupervoxel d b log l.fn.sv v
      → (l.id ≡ v) × Listed (rows_of d b log) (edges d b (log_at d b log l.fn.prefix)) v l.fn.prefix l.list.items l.at;
}

abbrev pub decreases-loop-at : goal.decreases-loop-at
decreases-loop-at g l = steps_left (length (g.W.Words.words l.w)) l.at
