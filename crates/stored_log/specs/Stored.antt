-- The words of a log in memory, with a draft that waits.
use Rattle.std.specs.Prelude.{◌≡◌, ℕ, ◌+◌, ◌*◌, ◌≤◌, List, ◌∷◌, length, Option, Some, None, Result, Ok, Err}
use Rattle.op_model.specs.declared.base.Dataset.{Dataset}
use Rattle.op_model.specs.declared.base.Base.{Base}
use Rattle.op_model.specs.declared.entry.Entry.{Entry}
use Rattle.op_model.specs.declared.request.Request.{Request}
use Rattle.op_model.specs.declared.request.LineError.{LineError}
use Rattle.op_model.specs.Transcript.{Line, Asks, Faulty}
use Rattle.pcg_base.specs.WordStores.{WordStore}
use Rattle.record_rows.specs.Readings.{Image}
use Rattle.request_lines.specs.Asking.{asked}
use Rattle.row_words.specs.Drafts.{DraftRows, applied}
use Rattle.stored_log.specs.declared.logs.StoredLog.{StoredLog}

-- what a line is that is read as this
abbrev pub line_read : Result Request LineError → Line
line_read (Ok request) = Asks request
line_read (Err error) = Faulty error

-- what a line of these bytes is
abbrev pub asked_line : List ℕ → Line
asked_line bytes = line_read (asked bytes)

-- the draft is one of the entry: there is room for it behind the words, and with it they are those of the log with the entry
pub record IsDraftOf (d : Dataset) (b : Base) (log : List Entry) (e : Entry) (store : WordStore) (draft : DraftRows) : Type 0 where
  pub tail : length store.words ≡ 8 * draft.tail
  pub room : 8 * length draft.rows ≤ store.spare
  pub image : Image d b (e ∷ log) (applied draft store.words)
  pub longer : length (applied draft store.words) ≡ length store.words + 8 * length draft.rows

-- a draft of the entry waits
abbrev pub Waits : WordStore → Option DraftRows → Dataset → Base → List Entry → Entry → Type 0
Waits store (Some draft) d b log e = IsDraftOf d b log e store draft
Waits store None d b log e = ⊥

-- the words are those of the legal log, with room for as many records as the dataset's capacity
pub record Stands (r : StoredLog) (d : Dataset) (b : Base) (log : List Entry) : Type 0 where
  pub image : Image d b log r.words.words
  pub same : r.dataset ≡ d
  pub room : 8 * d.capacity ≤ length r.words.words + r.words.spare

-- they are, and a draft of the entry waits
abbrev pub Drafts : StoredLog → Dataset → Base → List Entry → Entry → Type 0
Drafts r d b log e = Stands r d b log × Waits r.words r.draft d b log e

-- the log of these words, with no draft
abbrev pub at_rest : WordStore → Dataset → StoredLog
at_rest store d = record { words = store; dataset = d; draft = None }
