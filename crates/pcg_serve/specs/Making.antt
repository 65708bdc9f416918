-- What a call of `make` promises.
use Rattle.std.specs.Prelude.{◌≡◌, ◌*◌, ◌⊎◌, ℕ, List, length}
use Rattle.std.specs.Io.KnownBytes.{Appends}
use Rattle.pcg_base.specs.States.{PlaceState, SinkState}
use Rattle.pcg_words.specs.declared.job.MakeJob.{MakeJob}
use Rattle.made_input.specs.Texts.{input_of}
use Rattle.made_files.specs.Files.{StopsSo, files_of, wish_of}
use Rattle.made_files.specs.Writing.{PutsAll, PutsSome}
use Rattle.made_files.specs.declared.stops.MadeFile.TheVariants as made
use Rattle.made_files.specs.declared.stops.MakeStop.{MakeStop}
use Rattle.made_files.specs.declared.stops.MakeStop.TheVariants as makes
use Rattle.call_lines.specs.declared.status.Status.{Status}
use Rattle.call_lines.specs.declared.stops.FileName.TheVariants as files
use Rattle.call_lines.specs.declared.stops.Stop.{Stop}
use Rattle.call_lines.specs.declared.stops.Stop.TheVariants as stops
use Rattle.call_lines.specs.Printing.{Prints}
use Rattle.call_lines.specs.Statuses.{status_of}
use Rattle.call_lines.specs.Texts.{made_line, stop_text}
use Rattle.rehearsal.specs.Between.{Between}
use Rattle.trials.specs.Trials.{LinePrinted}

-- how it is told that files weren't made
abbrev pub stop_of : MakeStop → Stop
stop_of (makes.Failed made.Supervoxels) = stops.WriteFault 0 files.Supervoxels
stop_of (makes.Failed made.Edges) = stops.WriteFault 0 files.Edges
stop_of (makes.Failed (made.Requests client)) = stops.WriteFault client files.Requests
stop_of makes.NoMemory = stops.NoMemory

-- the line that is printed if all files were made
abbrev pub made_text : MakeJob → List ℕ
made_text job = made_line (input_of (wish_of job)).edge_count (length job.stems * job.requests) job.size

-- where place and output tell their bytes, all files were made, and just that line was printed
abbrev pub IsMade : MakeJob → Between PlaceState → Between SinkState → Type 0
IsMade job place out = PutsAll place.old.files place.new.files (files_of job) × Appends out.old.held out.new.held (made_text job)

-- All files were made and no count rose, and the line about them was printed unless the output failed. Or only some first ones were made and at most a front of the next one, for this reason, and the fault line alone was printed.
abbrev pub MakeOutcome : MakeJob → Between PlaceState → Between SinkState → Status → Type 0
MakeOutcome job place out status =
    (PutsAll place.old.files place.new.files (files_of job) × (place.new.writes ≡ place.old.writes) × LinePrinted out (made_text job) status)
    ⊎ ((stop : MakeStop) × PutsSome place.old.files place.new.files (files_of job) × StopsSo job place.old place.new stop × (status ≡ status_of (stop_of stop)) × Prints out.old out.new (stop_text (stop_of stop)))
