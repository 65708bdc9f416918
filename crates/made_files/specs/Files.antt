-- The files that a job of `make` asks for.
use Rattle.std.specs.Prelude.{◌≡◌, ◌≤◌, ◌-◌, ⊤, ℕ, List, [], ◌∷◌, ◌++◌, length, get_or, Result, Ok, Err}
use Rattle.pcg_base.specs.Causes.{Rose}
use Rattle.pcg_base.specs.States.{PlaceState}
use Rattle.pcg_words.specs.Job.{request_file}
use Rattle.pcg_words.specs.declared.job.MakeJob.{MakeJob}
use Rattle.made_input.specs.Texts.{Text, input_of}
use Rattle.made_input.specs.declared.wish.Wish.{Wish}
use Rattle.made_files.specs.Writing.{File, PutsAll, PutsSome, RoseAt, WritesLater}
use Rattle.made_files.specs.declared.stops.MadeFile.{MadeFile}
use Rattle.made_files.specs.declared.stops.MadeFile.TheVariants as made
use Rattle.made_files.specs.declared.stops.MakeStop.{MakeStop}
use Rattle.made_files.specs.declared.stops.MakeStop.TheVariants as stops

-- what input a job wishes for
unfoldable pub wish_of : MakeJob → Wish
wish_of job = record {
  layout = record { version = 1; bits = job.bits };
  grid = job.grid;
  number = job.from;
  size = job.size;
  clients = length job.stems;
  requests = job.requests;
}

-- each stream at the request file of its client
unfoldable pub streams_at : List (List ℕ) → List Text → List File
streams_at [] texts = []
streams_at (stem ∷ stems) [] = []
streams_at (stem ∷ stems) (text ∷ texts) = (request_file stem, text) ∷ streams_at stems texts

-- the two tables
abbrev pub tables_of : MakeJob → List File
tables_of job = (job.supervoxels, (input_of (wish_of job)).supervoxels) ∷ (job.edges, (input_of (wish_of job)).edges) ∷ []

-- all files, in the order in which they are written: the supervoxels, the edges, and each client's requests
abbrev pub files_of : MakeJob → List File
files_of job = tables_of job ++ streams_at job.stems (input_of (wish_of job)).streams

-- the name of one of them
abbrev pub name_of : MakeJob → MadeFile → List ℕ
name_of job made.Supervoxels = job.supervoxels
name_of job made.Edges = job.edges
name_of job (made.Requests client) = request_file (get_or job.stems (client - 1) [])

-- a client's number
abbrev pub IsFile : MakeJob → MadeFile → Type 0
IsFile job made.Supervoxels = ⊤
IsFile job made.Edges = ⊤
IsFile job (made.Requests client) = (1 ≤ client) × (client ≤ length job.stems)

-- none of these counts fell
pub record IsLater (old new : PlaceState) : Type 0 where
  pub writes : old.writes ≤ new.writes
  pub counts : (name : List ℕ) → WritesLater (old.counts name) (new.counts name)

-- a count of faults of writing rose, and so did one beside the name of the file that failed
abbrev pub StopsSo : MakeJob → PlaceState → PlaceState → MakeStop → Type 0
StopsSo job old new (stops.Failed file) = IsFile job file × Rose old.writes new.writes × RoseAt (old.counts (name_of job file)) (new.counts (name_of job file))
StopsSo job old new stops.NoMemory = ⊤

-- All of these files were written and no count rose; or only some first ones were and at most a front of the next one, for this reason.
abbrev pub Wrote : {A : Type 0} → MakeJob → PlaceState → PlaceState → List File → Result A MakeStop → Type 0
Wrote job old new fs (Ok x) = PutsAll old.files new.files fs × (new.writes ≡ old.writes)
Wrote job old new fs (Err stop) = PutsSome old.files new.files fs × StopsSo job old new stop
