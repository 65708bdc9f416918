-- The lines of a log, and its counts.
use Rattle.std.specs.Prelude.{◌≡◌, ℕ, List, [], ◌∷◌, ◌++◌, length}
use Rattle.op_model.specs.declared.base.Dataset.{Dataset}
use Rattle.op_model.specs.declared.base.Base.{Base}
use Rattle.op_model.specs.declared.entry.Entry.{Entry}
use Rattle.op_model.specs.Records.{records}
use Rattle.request_lines.specs.Texts.{text_of_entry}
use Rattle.histories.specs.Histories.{live_roots}
use Rattle.log_lines.specs.declared.writing.LogCounts.{LogCounts}
use Rattle.log_lines.specs.declared.writing.RootChange.{RootChange}

-- the lines of a log, its oldest entry first
unfoldable pub log_text : List Entry → List ℕ
log_text [] = []
log_text (e ∷ log) = log_text log ++ text_of_entry e

-- the counts are those of this log
pub record Counts (d : Dataset) (b : Base) (log : List Entry) (c : LogCounts) : Type 0 where
  pub entries : c.entries ≡ length log
  pub records : c.records ≡ records d b log
  pub roots : c.roots ≡ length (live_roots log)

-- an entry makes and retires so many roots
pub record IsRootChange (e : Entry) (x : RootChange) : Type 0 where
  pub made : x.made ≡ length e.made
  pub retired : x.retired ≡ length e.retired
