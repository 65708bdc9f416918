use Rattle.std.proofs.Common.{◌≡◌, List, take}
use Rattle.std.specs.List.{filter}
use Rattle.op_model.specs.declared.base.Dataset.{Dataset}
use Rattle.op_model.specs.declared.base.Base.{Base}
use Rattle.op_model.specs.declared.entry.Entry.{Entry}
use Rattle.op_model.specs.Labels.{edges}
use Rattle.op_model.specs.Transcript.{log_at}
use Rattle.record_rows.specs.Readings.{Image}
use Rattle.node_reader.specs.Readable.{AreKnown}
use Rattle.component_reader.specs.Among.{leads}
use Rattle.component_reader.specs.Taking.{AreMet}
use Rattle.component_reader.proofs.among.edges_among.Given as goal

abbrev pub invariant-loop-place : goal.invariant-loop-place
invariant-loop-place g l = record {
  same : l.w ≡ l.fn.w;
  met : (d : Dataset) (b : Base) (log : List Entry) → Image d b log (g.W.Words.words l.fn.w) → AreKnown b l.fn.leaves
      → AreMet l.fn.most (filter (leads (take l.place l.fn.leaves) l.fn.leaves) (edges d b (log_at d b log l.fn.prefix))) l.met;
}
