use Rattle.std.proofs.Common.{◌≡◌, ◌≤◌, ◌+◌, List, map, take}
use Rattle.op_model.specs.declared.base.Dataset.{Dataset}
use Rattle.op_model.specs.declared.base.Base.{Base}
use Rattle.op_model.specs.declared.entry.Entry.{Entry}
use Rattle.record_rows.specs.Readings.{Image}
use Rattle.entry_rows.specs.declared.changes.EntryChange.{EntryChange}
use Rattle.entry_lists.specs.Changing.{AreChanging}
use Rattle.entry_lists.proofs.changes.list_changes.Given as goal

abbrev pub invariant-loop-change : goal.invariant-loop-change
invariant-loop-change g l = record {
  same : l.w ≡ l.fn.w;
  low : l.next ≤ 16777216 + l.change-index;
  pairs : map (λ (x : EntryChange). x.changed) l.list.items ≡ take l.change-index l.changed;
  told : (d : Dataset) (b : Base) (log : List Entry) → Image d b log (g.W.Words.words l.fn.w) → AreChanging d b log (take l.change-index l.changed) l.next l.list.items;
}
