-- Inner: no clause of `run` is made of it.
-- The entry that a plan makes behind a log, and what is told of it.
use Rattle.std.specs.Prelude.{◌≡◌, ℕ, List, length, Some, None}
use Rattle.op_model.specs.declared.base.Dataset.{Dataset}
use Rattle.op_model.specs.declared.base.Base.{Base}
use Rattle.op_model.specs.declared.request.Edit.{Edit}
use Rattle.op_model.specs.declared.entry.Entry.{Entry}
use Rattle.op_model.specs.declared.reply.Refusal.{Refusal}
use Rattle.op_model.specs.declared.reply.Refusal.TheVariants.{NoMemory}
use Rattle.op_model.specs.Operations.{next_entry}
use Rattle.op_model.specs.Refusals.{refuse_late}
use Rattle.op_model.specs.Stamps.{stamp}
use Rattle.record_rows.specs.LogRows.{entry_rows, rows_of}
use Rattle.grown_rows.specs.Drafted.{IsDrafted}
use Rattle.hierarchy_edit.specs.declared.remaking.Stamp.{Stamp}
use Rattle.hierarchy_edit.specs.declared.remaking.Remade.{Remade}

module _ (d : Dataset) (b : Base) (log : List Entry) (edit : Edit) (s : Stamp) where
  -- the entry
  abbrev pub entry_for : Entry
  entry_for = next_entry d b log s.client s.line (stamp log s.now) edit

  -- Neither the store, the ids nor the clock refuse the edit. The draft makes the words of the log with the entry, and the rest is told as the entry has it.
  pub record IsRemade (r : Remade) : Type 0 where
    pub allowed : refuse_late d b log edit ≡ None
    pub draft : IsDrafted (rows_of d b log) (entry_rows d b log entry_for) r.draft
    pub op : r.op ≡ length log
    pub at : r.at ≡ stamp log s.now
    pub retired : r.retired ≡ entry_for.retired
    pub made : r.made ≡ entry_for.made

-- this is the timestamp of an entry behind the log
abbrev pub IsStamped : List Entry → Stamp → ℕ → Type 0
IsStamped log s at = at ≡ stamp log s.now

-- what the store, the ids or the clock refuse, unless there was no memory
abbrev pub IsLate : Dataset → Base → List Entry → Edit → Refusal → Type 0
IsLate d b log edit NoMemory = Unit {0}
IsLate d b log edit refusal = refuse_late d b log edit ≡ Some refusal
