use Rattle.std.proofs.Common.{◌≡◌, ℕ, ◌+◌, ◌-◌, ◌*◌, List, ◌++◌, length, map, take}
use Rattle.op_model.specs.declared.base.Dataset.{Dataset}
use Rattle.record_rows.specs.Rows.{Node, NodeRow}
use Rattle.record_rows.specs.Words.{words_of}
use Rattle.base_rows.specs.declared.lists.BaseEdge.{BaseEdge}
use Rattle.base_rows.specs.Lists.{AreNodes}
use Rattle.base_rows.specs.BaseRows.{edged_rows}
use Rattle.base_rows.specs.States.{Noding}
use Rattle.base_rows.proofs.nodes.put_nodes.Given as goal

abbrev pub invariant-loop-node : goal.invariant-loop-node
invariant-loop-node l =
    ((d : Dataset) (ids : List ℕ) (edges : List BaseEdge) (ns : List Node) → l.first ≡ 1 + length ids → l.fn.w.words ≡ words_of (edged_rows d ids l.chunks edges)
    → AreNodes l.chunks l.nodes ns
    → Noding l.chunks (edged_rows d ids l.chunks edges ++ map NodeRow (take l.node-index ns)) l.w.words l.tails.items)
    × (length l.w.words ≡ length l.fn.w.words + 8 * l.node-index) × (l.w.spare ≡ l.fn.w.spare - 8 * l.node-index)
