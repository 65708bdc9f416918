use Rattle.std.proofs.Common.{◌≡◌, ℕ, List, take}
use Rattle.op_model.specs.declared.base.Dataset.{Dataset}
use Rattle.op_model.specs.declared.base.Base.{Base}
use Rattle.op_model.specs.declared.entry.Entry.{Entry}
use Rattle.record_rows.specs.LogRows.{rows_of}
use Rattle.record_rows.specs.Readings.{ParentImage}
use Rattle.row_append.specs.Ends.{VersionsOf}
use Rattle.base_rows.specs.States.{AreTails}
use Rattle.entry_rows.specs.States.{ArePointers}
use Rattle.entry_lists.specs.Links.{AreHeld}
use Rattle.entry_lists.proofs.links.link_ends.Given as goal

abbrev pub invariant-loop-place : goal.invariant-loop-place
invariant-loop-place g l = record {
  same : l.w ≡ l.fn.w;
  ends : (d : Dataset) (b : Base) (log : List Entry) (ids : List ℕ) → ParentImage d b log (g.W.Words.words l.fn.w) → AreHeld d b log ids l.places → AreTails VersionsOf (take l.place-index ids) (rows_of d b log) l.list.items;
  pointers : ArePointers l.list.items;
}
