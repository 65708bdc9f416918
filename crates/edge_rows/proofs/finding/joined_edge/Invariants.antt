use Rattle.std.proofs.Common.{◌≡◌, List, length}
use Rattle.op_model.specs.declared.base.Dataset.{Dataset}
use Rattle.op_model.specs.declared.base.Base.{Base}
use Rattle.op_model.specs.declared.entry.Entry.{Entry}
use Rattle.record_rows.specs.Chains.{edge_at, is_edge}
use Rattle.record_rows.specs.LogRows.{rows_of}
use Rattle.record_rows.specs.Readings.{Image}
use Rattle.record_rows.proofs.WalkLemmas.{steps_left}
use Rattle.edge_rows.proofs.Walks.{edge_apart, edge_apart_other}
use Rattle.edge_rows.proofs.Narrow.{Sought}
use Rattle.edge_rows.proofs.finding.joined_edge.Given as goal

abbrev pub invariant-loop-one : goal.invariant-loop-one
invariant-loop-one g l = record {
  same : l.w ≡ l.fn.w;
  one : (d : Dataset) (b : Base) (log : List Entry) → Image d b log (g.W.Words.words l.fn.w) → Sought (edge_at l.fn.pair.a) (is_edge l.fn.pair) (edge_apart l.fn.pair) (rows_of d b log) l.one;
  other : (d : Dataset) (b : Base) (log : List Entry) → Image d b log (g.W.Words.words l.fn.w) → Sought (edge_at l.fn.pair.b) (is_edge l.fn.pair) (edge_apart_other l.fn.pair) (rows_of d b log) l.other;
}

abbrev pub decreases-loop-one : goal.decreases-loop-one
decreases-loop-one g l = steps_left (length (g.W.Words.words l.w)) l.one
