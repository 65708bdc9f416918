use Rattle.std.proofs.Common.{◌≡◌, ◌/◌, List, length}
use Rattle.op_model.specs.declared.base.Dataset.{Dataset}
use Rattle.op_model.specs.declared.base.Base.{Base}
use Rattle.op_model.specs.declared.entry.Entry.{Entry}
use Rattle.record_rows.specs.Rows.{Node}
use Rattle.record_rows.specs.LogRows.{rows_of}
use Rattle.record_rows.specs.Readings.{ParentImage, HoldsNode}
use Rattle.record_rows.proofs.WalkLemmas.{steps_left}
use Rattle.parent_rows.proofs.NodeWalks.{AtChild}
use Rattle.parent_rows.proofs.nodes.children.Given as goal

abbrev pub invariant-loop-at : goal.invariant-loop-at
invariant-loop-at g l =
    (l.w ≡ l.fn.w)
    × ((d : Dataset) (b : Base) (log : List Entry) (n : Node) → ParentImage d b log (g.W.Words.words l.fn.w) → HoldsNode d b log l.fn.spot n → AtChild (rows_of d b log) n.id l.at l.list.items)

abbrev pub decreases-loop-at : goal.decreases-loop-at
decreases-loop-at g l = steps_left (length (g.W.Words.words l.fn.w) / 8) l.at
