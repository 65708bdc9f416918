use Rattle.std.proofs.Common.{◌≡◌, ◌++◌, List, take}
use Rattle.std.specs.List.{flat_map}
use Rattle.op_model.specs.declared.base.Base.{Base}
use Rattle.op_model.specs.declared.entry.Entry.{Entry}
use Rattle.record_rows.specs.LogRows.{rows_of}
use Rattle.record_rows.specs.Readings.{ParentImage}
use Rattle.node_reader.specs.Spreads.{AreNodes}
use Rattle.united_layers.specs.Jointed.{place_joints}
use Rattle.united_layers.proofs.reading.put_nodes.Given as goal

abbrev pub invariant-loop-place : goal.invariant-loop-place
invariant-loop-place g l = record {
  same : l.w ≡ l.fn.w;
  put :
      (b : Base) (log : List Entry) → ParentImage l.dataset b log (g.W.Words.words l.fn.w) → AreNodes l.dataset b log l.places
      → l.list.items ≡ l.fn.list.items ++ flat_map (place_joints l.dataset (rows_of l.dataset b log)) (take l.place l.places);
}
