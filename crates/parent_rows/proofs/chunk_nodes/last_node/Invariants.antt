use Rattle.std.proofs.Common.{◌≡◌, ℕ, ◌/◌, List, length}
use Rattle.op_model.specs.declared.base.Dataset.{Dataset}
use Rattle.op_model.specs.declared.base.Base.{Base}
use Rattle.op_model.specs.declared.entry.Entry.{Entry}
use Rattle.record_rows.specs.Chains.{node_in}
use Rattle.record_rows.specs.LogRows.{rows_of}
use Rattle.record_rows.specs.Readings.{ParentImage, HoldsChunk}
use Rattle.record_rows.proofs.WalkLemmas.{steps_left}
use Rattle.parent_rows.proofs.ChainWalks.{AtLast}
use Rattle.parent_rows.proofs.chunk_nodes.last_node.Given as goal

abbrev pub invariant-loop-at : goal.invariant-loop-at
invariant-loop-at g l =
    (l.w ≡ l.fn.w)
    × ((d : Dataset) (b : Base) (log : List Entry) (c : ℕ) → ParentImage d b log (g.W.Words.words l.fn.w) → HoldsChunk d b log l.fn.chunk c → AtLast (node_in c) (rows_of d b log) l.at l.found)

abbrev pub decreases-loop-at : goal.decreases-loop-at
decreases-loop-at g l = steps_left (length (g.W.Words.words l.fn.w) / 8) l.at
