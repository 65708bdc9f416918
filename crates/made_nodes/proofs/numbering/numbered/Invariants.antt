use Rattle.std.proofs.Common.{◌≡◌, ℕ, ◌+◌, ◌^◌, ◌≤◌, List, ◌++◌, drop}
use Rattle.std.specs.List.{All}
use Rattle.op_model.specs.declared.base.Dataset.{Dataset}
use Rattle.op_model.specs.declared.base.Base.{Base}
use Rattle.op_model.specs.declared.entry.Entry.{Entry}
use Rattle.op_model.specs.Labels.{used}
use Rattle.record_rows.specs.Readings.{ParentImage}
use Rattle.made_nodes.specs.Numbers.{IsHeld, numbered}
use Rattle.made_nodes.proofs.numbering.numbered.Given as goal

abbrev pub invariant-loop-owner : goal.invariant-loop-owner
invariant-loop-owner g l = record {
  same : l.w ≡ l.fn.w;
  low : l.number ≤ 2 ^ 56 + l.owner-index;
  done : (d : Dataset) (b : Base) (log : List Entry) (layer : ℕ) → ParentImage d b log (g.W.Words.words l.fn.w) → All (λ o. IsHeld d b layer o.chunk) l.owners
      → l.list.items ++ numbered (used d b log layer) l.ids l.last l.number (drop l.owner-index l.owners) ≡ numbered (used d b log layer) l.ids 0 0 l.owners;
}
