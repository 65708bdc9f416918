use Rattle.std.proofs.Common.{◌≡◌, List, map, take}
use Rattle.op_model.specs.declared.base.Dataset.{Dataset}
use Rattle.op_model.specs.declared.base.Base.{Base}
use Rattle.op_model.specs.declared.entry.Changed.{Changed}
use Rattle.op_model.specs.declared.entry.Entry.{Entry}
use Rattle.record_rows.specs.LogRows.{unknown}
use Rattle.record_rows.specs.Readings.{Image}
use Rattle.entry_lists.proofs.edges.unknown_pairs.Given as goal

abbrev pub invariant-loop-change : goal.invariant-loop-change
invariant-loop-change g l = record {
  same : l.w ≡ l.fn.w;
  are : (d : Dataset) (b : Base) (log : List Entry) → Image d b log (g.W.Words.words l.fn.w) → l.list.items ≡ map (λ (c : Changed). c.pair) (unknown d b log (take l.change-index l.changed));
}
