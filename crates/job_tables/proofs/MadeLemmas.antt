-- What the texts of a job make.
use Rattle.std.proofs.Common.{◌≡◌, ◌≤◌, ◌+◌, ◌*◌, ℕ, List, length, Option, Some, None, sym, subst}
use Rattle.std.specs.Prelude.{Result, Ok, Err, IfErr, IfOk}
use Rattle.op_model.specs.declared.base.Dataset.{Dataset}
use Rattle.op_model.specs.declared.base.Base.{Base}
use Rattle.op_model.specs.Ingest.{ingested}
use Rattle.record_rows.specs.Readings.{Image}
use Rattle.hierarchy_build.specs.declared.errors.BuildError.{BuildError}
use Rattle.hierarchy_build.specs.declared.errors.BuildError.TheVariants as builds
use Rattle.hierarchy_build.specs.Built.{IsFull}
use Rattle.pcg_base.specs.States.{PlaceState}
use Rattle.pcg_base.specs.Told.{Files}
use Rattle.pcg_words.specs.declared.job.RehearseJob.{RehearseJob}
use Rattle.table_ingest.specs.Bases.{Faulty, Spells}
use Rattle.table_ingest.specs.declared.errors.Table.{Table}
use Rattle.table_ingest.specs.declared.errors.Cause.{Cause}
use Rattle.call_lines.specs.declared.stops.Stop.{Stop}
use Rattle.call_lines.specs.declared.stops.Stop.TheVariants as stops
use Rattle.job_tables.specs.declared.tables.JobBase.{JobBase}
use Rattle.job_tables.specs.declared.texts.Texts.{Texts}
use Rattle.job_tables.specs.Inputs.{HasBase, HasFault, HasSchedule, IsFullSo, IsRead, NamesClients, NamesNone, clock_time, dataset_of, dataset_with}
use Rattle.job_tables.specs.Stops.{AllRead, InputStop}
use Rattle.job_tables.specs.Made.{AreTables, AreTexts, IsMade, IsSchedule, MakesStop, Named, NotNamed, TextsSpell, schedule_text}
use Rattle.job_tables.proofs.Numbers.{named_in}

-- all was made
pub is_made : (job : RehearseJob) (t : Texts) (b : Base) (r : JobBase) → r.dataset ≡ dataset_of job → Spells r.dataset t.tables.supervoxels.items t.tables.edges.items b
    → Named (length job.stems) (schedule_text t) r.schedule.items → Image r.dataset b (ingested r.dataset b (clock_time job.clock 0)) r.words.words
    → 8 * r.dataset.capacity ≤ length r.words.words + r.words.spare → ((e : BuildError) → IsFull r.dataset b e → ⊥) → IsMade job t r
unfolding dataset_of dataset_with
is_made job t b r is spells named image room fits = record {
  base = b;
  spells = subst (λ x. Spells x t.tables.supervoxels.items t.tables.edges.items b) is spells;
  fits = λ e h. fits e (subst (λ x. IsFull x b e) (sym is) h);
  dataset = is;
  image = subst (λ x. Image x b (ingested x b (clock_time job.clock 0)) r.words.words) is image;
  room = subst (λ (x : Dataset). 8 * x.capacity ≤ length r.words.words + r.words.spare) is room;
  named = named;
}

-- what texts spell is what the place's tables do
has_base : (m : Option Files) (job : RehearseJob) (t : Texts) (b : Base) → AreTables m job t.tables → TextsSpell job t b → HasBase m job b
has_base None job t b are spells = tt
has_base (Some f) job t b are spells = (t.tables.supervoxels.items, t.tables.edges.items, are, spells)

has_fault : (m : Option Files) (job : RehearseJob) (t : Texts) (table : Table) (row : ℕ) (cause : Cause) → AreTables m job t.tables
    → Faulty (dataset_of job) t.tables.supervoxels.items t.tables.edges.items table row cause → HasFault m job table row cause
has_fault None job t table row cause are h = tt
has_fault (Some f) job t table row cause are h = (t.tables.supervoxels.items, t.tables.edges.items, are, h)

names_clients : (m : Option Files) (job : RehearseJob) (schedule text : Option (List ℕ)) (ns : List ℕ) → IsSchedule m schedule text → Named (length job.stems) text ns → NamesClients m job schedule ns
names_clients m job None None ns is h = h
names_clients m job None (Some text) ns is h = absurd is
names_clients m job (Some name) None ns is h = absurd is
names_clients None job (Some name) (Some text) ns is h = tt
names_clients (Some f) job (Some name) (Some text) ns is h = (text, is, h)

names_none : (m : Option Files) (job : RehearseJob) (schedule text : Option (List ℕ)) (word : ℕ) → IsSchedule m schedule text → NotNamed (length job.stems) text word → NamesNone m job schedule word
names_none m job None None word is h = absurd h
names_none m job None (Some text) word is h = absurd is
names_none m job (Some name) None word is h = absurd is
names_none None job (Some name) (Some text) word is h = tt
names_none (Some f) job (Some name) (Some text) word is h = (text, is, h)

is_read : (m : Option Files) (job : RehearseJob) (t : Texts) (r : JobBase) → AreTexts m job t → IsMade job t r → IsRead m job r
is_read m job t r are made = record {
  base = made.base;
  has_base = has_base m job t made.base are.both made.spells;
  fits = made.fits;
  dataset = made.dataset;
  image = made.image;
  room = made.room;
  schedule = names_clients m job job.schedule (schedule_text t) r.schedule.items are.third made.named;
  numbers = named_in (length job.stems) (schedule_text t) r.schedule.items made.named;
}

-- what is made of texts is read of the place
pub read_so : (m : Option Files) (job : RehearseJob) (t : Texts) (r : Result JobBase Stop) → AreTexts m job t → IfOk r (λ x. IsMade job t x) → IfOk r (λ x. IsRead m job x)
read_so m job t (Ok x) are made = is_read m job t x are made
read_so m job t (Err stop) are made = tt

full_so : (m : Option Files) (job : RehearseJob) (t : Texts) (e : BuildError) → AreTexts m job t
    → (((b : Base) × TextsSpell job t b × IsFull (dataset_of job) b e) × ((ns : List ℕ) × Named (length job.stems) (schedule_text t) ns))
    → IsFullSo m job e × ((ns : List ℕ) × HasSchedule m job ns)
full_so m job t e are h =
    ((h.0.0, has_base m job t h.0.0 are.both h.0.1, h.0.2), (h.1.0, names_clients m job job.schedule (schedule_text t) h.1.0 are.third h.1.1))

input_stop : (job : RehearseJob) (a c : PlaceState) (t : Texts) (stop : Stop) → AreTexts a.files job t → AllRead a.files c.left job → MakesStop job t stop → InputStop job a c stop
input_stop job a c t (stops.BadTable table row cause) are r h = (has_fault a.files job t table row cause are.both h, r)
input_stop job a c t (stops.BadSchedule word) are r h =
    (names_none a.files job job.schedule (schedule_text t) word are.third h.0, (h.1.0, has_base a.files job t h.1.0 are.both h.1.1), r)
input_stop job a c t (stops.IdsSpent layer x y z) are r h =
    let full = full_so a.files job t (builds.IdsSpent layer x y z) are h in
    (full.0, full.1, r)
input_stop job a c t (stops.TooSmall need given) are r h =
    let full = full_so a.files job t (builds.TooSmall need given) are h in
    (full.0, full.1, r)
input_stop job a c t stops.NoMemory are r h = tt
input_stop job a c t stops.BadWords are r h = absurd h
input_stop job a c t (stops.ReadFault client file) are r h = absurd h
input_stop job a c t (stops.WriteFault client file) are r h = absurd h
input_stop job a c t (stops.TooLong client file) are r h = absurd h

pub stop_so : (job : RehearseJob) (a c : PlaceState) (t : Texts) (r : Result JobBase Stop) → AreTexts a.files job t → AllRead a.files c.left job → IfErr r (λ stop. MakesStop job t stop)
    → IfErr r (λ stop. InputStop job a c stop)
stop_so job a c t (Ok x) are read h = tt
stop_so job a c t (Err stop) are read h = input_stop job a c t stop are read h
