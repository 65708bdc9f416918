use Rattle.std.proofs.Common.{◌≡◌, ℕ, ◌++◌, List, length}
use Rattle.std.specs.List.{filter_map}
use Rattle.op_model.specs.declared.base.Dataset.{Dataset}
use Rattle.op_model.specs.declared.base.Base.{Base}
use Rattle.op_model.specs.declared.entry.Entry.{Entry}
use Rattle.record_rows.specs.LogRows.{rows_of}
use Rattle.record_rows.specs.Readings.{HoldsChunk, ParentImage}
use Rattle.record_rows.specs.Walks.{first_in}
use Rattle.record_rows.proofs.WalkLemmas.{steps_left}
use Rattle.timestamp_reader.specs.Places.{FirstNodeAt, first_from}
use Rattle.timestamp_reader.proofs.first_roots.collected.Given as goal

abbrev pub invariant-loop-at : goal.invariant-loop-at
invariant-loop-at g l = record {
  same : l.w ≡ l.fn.w;
  node : (d : Dataset) (b : Base) (log : List Entry) (c : ℕ) → ParentImage d b log (g.W.Words.words l.fn.w) → HoldsChunk d b log l.fn.chunk c → FirstNodeAt d b log c l.at;
  shown :
      (d : Dataset) (b : Base) (log : List Entry) (c : ℕ) → ParentImage d b log (g.W.Words.words l.fn.w) → HoldsChunk d b log l.fn.chunk c
      → l.list.items ++ first_from d b log c l.at ≡ filter_map (first_in c) (rows_of d b log);
}

abbrev pub decreases-loop-at : goal.decreases-loop-at
decreases-loop-at g l = steps_left (length (g.W.Words.words l.fn.w)) l.at
