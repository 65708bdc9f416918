use Rattle.std.proofs.Common.{◌≡◌, ◌≤◌, ◌-◌, List}
use Rattle.op_model.specs.declared.base.Dataset.{Dataset}
use Rattle.op_model.specs.declared.base.Base.{Base}
use Rattle.op_model.specs.declared.entry.Entry.{Entry}
use Rattle.record_rows.specs.Readings.{Image}
use Rattle.edge_rows.proofs.BaseSearch.{Parts}
use Rattle.edge_rows.proofs.base_edges.lower.Given as goal

abbrev pub invariant-loop-low : goal.invariant-loop-low
invariant-loop-low g l = record {
  same : l.w ≡ l.fn.w;
  order : l.low ≤ l.high;
  parts : (d : Dataset) (b : Base) (log : List Entry) (i : Image d b log (g.W.Words.words l.fn.w)) → Parts d b log (g.W.Words.words l.fn.w) i l.pair l.low l.high;
}

abbrev pub decreases-loop-low : goal.decreases-loop-low
decreases-loop-low g l = l.high - l.low
