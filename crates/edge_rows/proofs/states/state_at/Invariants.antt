use Rattle.std.proofs.Common.{◌≡◌, ℕ, List, length}
use Rattle.op_model.specs.declared.base.Dataset.{Dataset}
use Rattle.op_model.specs.declared.base.Base.{Base}
use Rattle.op_model.specs.declared.base.Edge.{Edge}
use Rattle.op_model.specs.declared.entry.Entry.{Entry}
use Rattle.op_model.specs.Labels.{edges}
use Rattle.op_model.specs.Transcript.{log_at}
use Rattle.record_rows.specs.LogRows.{rows_of}
use Rattle.record_rows.specs.Readings.{Image, HoldsEdge}
use Rattle.record_rows.specs.Walks.{is_active}
use Rattle.record_rows.proofs.WalkLemmas.{steps_left}
use Rattle.edge_rows.proofs.StateWalks.{Told}
use Rattle.edge_rows.proofs.states.state_at.Given as goal

abbrev pub invariant-loop-at : goal.invariant-loop-at
invariant-loop-at g l = record {
  same : l.w ≡ l.fn.w;
  left : (d : Dataset) (b : Base) (log : List Entry) (made : ℕ) (e : Edge) → Image d b log (g.W.Words.words l.fn.w) → HoldsEdge d b log l.fn.edge made e
      → Told (rows_of d b log) e.pair l.fn.prefix (is_active (edges d b (log_at d b log l.fn.prefix)) e.pair) l.active l.at;
}

abbrev pub decreases-loop-at : goal.decreases-loop-at
decreases-loop-at g l = steps_left (length (g.W.Words.words l.w)) l.at
