-- Inner: no clause of `run` is made of it.
-- What a call prints that came past its sessions.
use Rattle.std.specs.Prelude.{◌≡◌, ℕ, ◌-◌, List, ◌++◌, length}
use Rattle.op_model.specs.declared.base.Dataset.{Dataset}
use Rattle.op_model.specs.declared.base.Base.{Base}
use Rattle.op_model.specs.declared.entry.Entry.{Entry}
use Rattle.op_model.specs.Records.{records}
use Rattle.histories.specs.Histories.{live_roots}
use Rattle.log_lines.specs.declared.writing.LogCounts.{LogCounts}
use Rattle.log_lines.specs.LogTexts.{log_text}
use Rattle.call_lines.specs.Statuses.{code}
use Rattle.call_lines.specs.declared.summary.ClientFault.{ClientFault}
use Rattle.call_lines.specs.declared.summary.Summary.{Summary}
use Rattle.call_lines.specs.Texts.{summary_line}
use Rattle.session_results.specs.Results.{status_for}

-- the log and the summary of so many clients with these faults
abbrev pub whole_text : Dataset → Base → List Entry → ℕ → List ClientFault → ℕ → ℕ → List ℕ
whole_text d b log clients faults lines refused =
    log_text log ++ summary_line (length log - 1) clients (length log) faults lines (records d b log) refused (length (live_roots log)) (code (status_for faults))

-- a summary tells of these counts
pub record Sums (clients : ℕ) (counts : LogCounts) (faults : List ClientFault) (lines refused : ℕ) (s : Summary) : Type 0 where
  pub accepted : s.accepted ≡ counts.entries - 1
  pub clients_so : s.clients ≡ clients
  pub entries : s.entries ≡ counts.entries
  pub faults_so : s.faults.items ≡ faults
  pub lines_so : s.lines ≡ lines
  pub records : s.records ≡ counts.records
  pub refused_so : s.refused ≡ refused
  pub roots : s.roots ≡ counts.roots
  pub status : s.status ≡ status_for faults
