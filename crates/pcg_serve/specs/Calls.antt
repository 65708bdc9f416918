-- What a call of the program comes to, by the mode of its job.
use Rattle.std.specs.Prelude.{◌≡◌, ◌≤◌, ◌⊎◌, ⊤, Option, Some, None}
use Rattle.pcg_base.specs.Causes.{Rose}
use Rattle.pcg_base.specs.States.{PlaceState, SinkState}
use Rattle.pcg_base.specs.Told.{Files, KeepsFiles}
use Rattle.pcg_words.specs.declared.job.Job.{Job}
use Rattle.pcg_words.specs.declared.job.Job.TheVariants as job
use Rattle.call_lines.specs.declared.status.Status.{Status}
use Rattle.call_lines.specs.declared.status.Status.TheVariants as statuses
use Rattle.call_lines.specs.declared.stops.Stop.TheVariants as stops
use Rattle.call_lines.specs.Printing.{Prints}
use Rattle.call_lines.specs.Texts.{stop_text}
use Rattle.job_files.specs.Kept.{KeepsOther}
use Rattle.made_files.specs.Files as made
use Rattle.made_files.specs.Writing.{KeepsBut}
use Rattle.rehearsal.specs.Between.{Between}
use Rattle.rehearsal.specs.Exact.{IsDue, IsFine, Tells}
use Rattle.rehearsal.specs.Outcomes.{IsDone, Outcome, answers_of}
use Rattle.trials.specs.Trials.{HasFullTrial, IsTrialDone, TrialOutcome, TrialTells}
use Rattle.pcg_serve.specs.Making.{IsMade, MakeOutcome}

-- memory ran out over the words, and no file changed
abbrev pub WordsLost : Between PlaceState → Between SinkState → Status → Type 0
WordsLost place out status = KeepsFiles place.old.files place.new.files × (status ≡ statuses.NoMemory) × Prints out.old out.new (stop_text stops.NoMemory)

-- The words spell no job, and no file changed; or the outcome is that of their job's mode, or memory ran out over them.
abbrev pub JobOutcome : Option Job → Between PlaceState → Between SinkState → Status → Type 0
JobOutcome None place out status =
    (KeepsFiles place.old.files place.new.files × (status ≡ statuses.BadWords) × Prints out.old out.new (stop_text stops.BadWords)) ⊎ WordsLost place out status
JobOutcome (Some (job.Rehearse found)) place out status =
    Outcome found place out status ⊎ WordsLost place out status
JobOutcome (Some (job.Make found)) place out status =
    ((place.new.reads ≡ place.old.reads) × MakeOutcome found place out status) ⊎ WordsLost place out status
JobOutcome (Some (job.Trial found)) place out status =
    ((place.new ≡ place.old) × TrialOutcome found out status) ⊎ WordsLost place out status

-- what status 0 promises
abbrev pub IsJobDone : Option Job → Between PlaceState → Between SinkState → Type 0
IsJobDone None place out = ⊥
IsJobDone (Some (job.Rehearse found)) place out = IsDone found place out
IsJobDone (Some (job.Make found)) place out = IsMade found place out
IsJobDone (Some (job.Trial found)) place out = (place.new ≡ place.old) × IsTrialDone found out

-- each count stood still
abbrev pub IsFaultless : Between PlaceState → Between SinkState → Type 0
IsFaultless place out = (place.new.reads ≡ place.old.reads) × (place.new.writes ≡ place.old.writes) × (out.new.faults ≡ out.old.faults)

-- neither count of the place fell
abbrev pub NoneFell : Between PlaceState → Type 0
NoneFell place = (place.old.reads ≤ place.new.reads) × (place.old.writes ≤ place.new.writes)

-- what a status tells: 1 comes just where the words spell no job, and 5 at any time
abbrev pub JobTells : Option Job → Between PlaceState → Between SinkState → Status → Type 0
JobTells None place out status = (status ≡ statuses.BadWords) ⊎ (status ≡ statuses.NoMemory)
JobTells (Some (job.Rehearse found)) place out status = Tells found place out status
JobTells (Some (job.Make found)) place out status =
    (status ≡ statuses.Done) ⊎ (status ≡ statuses.NoMemory) ⊎ ((status ≡ statuses.WriteFault) × (Rose place.old.writes place.new.writes ⊎ Rose out.old.faults out.new.faults))
JobTells (Some (job.Trial found)) place out status = TrialTells found out status

-- the status that the input of the words' job asks for
abbrev pub IsJobDue : Option Files → Option Job → Status → Type 0
IsJobDue m None status = ⊥
IsJobDue m (Some (job.Rehearse found)) status = IsDue m found status
IsJobDue m (Some (job.Make found)) status = ⊥
IsJobDue m (Some (job.Trial found)) status = (status ≡ statuses.Full) × HasFullTrial found

-- the words spell a job, and its input is of its form
abbrev pub IsJobFine : Option Files → Option Job → Type 0
IsJobFine m None = ⊥
IsJobFine m (Some (job.Rehearse found)) = IsFine m found
IsJobFine m (Some (job.Make found)) = ⊤
IsJobFine m (Some (job.Trial found)) = ¬ (HasFullTrial found)

-- where the place tells its bytes, none but the files that the words' job writes have changed
abbrev pub KeepsJobOthers : Option Job → Between PlaceState → Type 0
KeepsJobOthers None place = KeepsFiles place.old.files place.new.files
KeepsJobOthers (Some (job.Rehearse found)) place = KeepsOther place.old.files (answers_of found) place.new.files
KeepsJobOthers (Some (job.Make found)) place = KeepsBut (made.files_of found) place.old.files place.new.files
KeepsJobOthers (Some (job.Trial found)) place = KeepsFiles place.old.files place.new.files
