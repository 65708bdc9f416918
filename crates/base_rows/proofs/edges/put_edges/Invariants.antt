use Rattle.std.proofs.Common.{◌≡◌, ℕ, ◌+◌, ◌-◌, ◌*◌, List, ◌++◌, length, map, take}
use Rattle.op_model.specs.declared.base.Dataset.{Dataset}
use Rattle.record_rows.specs.Rows.{EdgeRow}
use Rattle.record_rows.specs.Words.{words_of}
use Rattle.base_rows.specs.BaseRows.{owner_rows}
use Rattle.base_rows.specs.States.{Edging}
use Rattle.base_rows.proofs.edges.put_edges.Given as goal

abbrev pub invariant-loop-edge : goal.invariant-loop-edge
invariant-loop-edge l =
    ((d : Dataset) (chunks : List ℕ) → l.fn.w.words ≡ words_of (owner_rows d l.ids chunks)
    → Edging l.ids (owner_rows d l.ids chunks ++ map (λ x. EdgeRow 0 x.edge) (take l.edge-index l.edges)) l.w.words l.tails.items)
    × (length l.w.words ≡ length l.fn.w.words + 8 * l.edge-index) × (l.w.spare ≡ l.fn.w.spare - 8 * l.edge-index)
