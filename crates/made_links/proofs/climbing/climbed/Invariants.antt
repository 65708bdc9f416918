use Rattle.std.proofs.Common.{◌≡◌, ◌≤◌, List, length, true}
use Rattle.op_model.specs.declared.base.Dataset.{Dataset}
use Rattle.op_model.specs.declared.base.Base.{Base}
use Rattle.op_model.specs.declared.entry.Entry.{Entry}
use Rattle.graph_model.specs.Lists.{has}
use Rattle.op_model.specs.Chunks.{top}
use Rattle.op_model.specs.Transcript.{log_at}
use Rattle.record_rows.specs.Chains.{has_id}
use Rattle.record_rows.specs.LogRows.{rows_of}
use Rattle.record_rows.specs.Readings.{HoldsId, ParentImage}
use Rattle.record_rows.specs.Versions.{child_at}
use Rattle.record_rows.specs.Words.{place_from}
use Rattle.made_links.proofs.climbing.climbed.Given as goal

abbrev pub invariant-loop-above : goal.invariant-loop-above
invariant-loop-above g l = record {
  same : l.w ≡ l.fn.w;
  low : 2 ≤ l.above;
  at :
      (d : Dataset) (b : Base) (log : List Entry) → ParentImage d b log (g.W.Words.words l.fn.w) → has b.supervoxels l.fn.sv ≡ true → l.fn.prefix ≡ length log → l.fn.layer ≤ top d
      → HoldsId d b log l.spot (child_at d b (log_at d b log l.fn.prefix) l.above l.fn.sv);
  first :
      (d : Dataset) (b : Base) (log : List Entry) → ParentImage d b log (g.W.Words.words l.fn.w) → has b.supervoxels l.fn.sv ≡ true → l.above ≡ 2
      → place_from (has_id l.fn.sv) 0 (rows_of d b log) ≡ l.spot;
}
