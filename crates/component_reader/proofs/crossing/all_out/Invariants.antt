use Rattle.std.proofs.Common.{◌≡◌, List, take}
use Rattle.std.specs.List.{filter, flat_map}
use Rattle.op_model.specs.declared.base.Base.{Base}
use Rattle.op_model.specs.declared.entry.Entry.{Entry}
use Rattle.op_model.specs.Labels.{edges}
use Rattle.op_model.specs.Transcript.{log_at}
use Rattle.record_rows.specs.Readings.{Image}
use Rattle.record_rows.specs.Walks.{edges_at}
use Rattle.node_reader.specs.Readable.{AreKnown}
use Rattle.component_reader.specs.Crossing.{goes_out}
use Rattle.component_reader.proofs.crossing.all_out.Given as goal

abbrev pub invariant-loop-place : goal.invariant-loop-place
invariant-loop-place g l = record {
  same : l.w ≡ l.fn.w;
  found : (b : Base) (log : List Entry) → Image l.fn.dataset b log (g.W.Words.words l.fn.w) → AreKnown b l.fn.leaves
      → l.list.items ≡ flat_map (λ v. filter (goes_out l.fn.dataset l.fn.layer) (edges_at (edges l.fn.dataset b (log_at l.fn.dataset b log l.fn.prefix)) v)) (take l.place l.fn.leaves);
}
