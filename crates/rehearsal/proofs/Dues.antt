-- The status that a job's input asks for.
use Rattle.std.proofs.Common.{◌≡◌, ℕ, List, length, Option, Some, None, refl, sym, ◌∙◌, ap, subst, arith, inl, inr}
use Rattle.std.specs.Prelude.{◌⊎◌}
use Rattle.std.specs.FinMap.{get}
use Rattle.std.proofs.lemmas.Option.{same_Some}
use Rattle.op_model.specs.declared.base.Base.{Base}
use Rattle.hierarchy_build.specs.declared.errors.BuildError.{BuildError}
use Rattle.hierarchy_build.specs.declared.errors.BuildError.TheVariants as builds
use Rattle.hierarchy_build.specs.Built.{IsFull}
use Rattle.pcg_base.specs.States.{PlaceState, SinkState}
use Rattle.pcg_base.specs.Told.{Files, IsLongerAt}
use Rattle.pcg_words.specs.declared.job.RehearseJob.{RehearseJob}
use Rattle.schedules.specs.Schedules.{schedule_of}
use Rattle.table_ingest.specs.Bases.{Faulty, Spells}
use Rattle.table_ingest.proofs.BaseLemmas.{base_or_fault, one_base as bases_are_one}
use Rattle.call_lines.specs.declared.status.Status.{Status}
use Rattle.call_lines.specs.declared.status.Status.TheVariants as statuses
use Rattle.call_lines.specs.declared.stops.Stop.{Stop}
use Rattle.call_lines.specs.declared.stops.Stop.TheVariants as stops
use Rattle.call_lines.specs.Statuses.{status_of}
use Rattle.job_tables.specs.Inputs.{HasBase, HasSchedule, HasText, NamesClients, NamesNone, dataset_of, limit}
use Rattle.job_tables.specs.Stops.{AllRead, InputStop, ScheduleLong, ScheduleRead}
use Rattle.rehearsal.specs.Between.{Between}
use Rattle.rehearsal.specs.Exact.{HasBadSchedule, HasBadTable, HasFullBase, HasLongText, IsDue}
use Rattle.rehearsal.specs.Outcomes.{HasInput, Outcome, StopCause}
use Rattle.rehearsal.proofs.Exact.{long_stop}

-- the status is the one that is asked for, or that of a fault of reading or of want of memory
abbrev Ends : Status → Status → Type 0
Ends status s = (status ≡ s) ⊎ (status ≡ statuses.ReadFault) ⊎ (status ≡ statuses.NoMemory)

-- a name has one file
one_file : (m : Files) (name xs ys : List ℕ) → get m name ≡ Some xs → get m name ≡ Some ys → xs ≡ ys
one_file m name xs ys e f = same_Some xs ys (sym e ∙ f)

-- a text isn't both too long and not
not_long : (m : Files) (name bytes : List ℕ) → HasText (Some m) name bytes → IsLongerAt (Some m) name limit → ⊥
not_long m name bytes h long =
    let same : length long.0 ≡ length bytes = ap length (one_file m name long.0 bytes long.1 h.0) in
    omega (arith, same, h.1, long.2)

-- the tables don't both spell a base and have a fault
no_fault : (m : Files) (job : RehearseJob) (b : Base) (bad : HasBadTable (Some m) job) → HasBase (Some m) job b → ⊥
no_fault m job b bad h =
    let d = dataset_of job in
    let f = bad.3 in
    let S : List ℕ → Type 0 = λ x. Faulty d x f.1 bad.0 bad.1 bad.2 in
    let E : List ℕ → Type 0 = λ x. Faulty d h.0 x bad.0 bad.1 bad.2 in
    base_or_fault d h.0 h.1 b bad.0 bad.1 bad.2 h.3 (subst E (one_file m job.edges f.1 h.1 f.2.1.0 h.2.1.0) (subst S (one_file m job.supervoxels f.0 h.0 f.2.0.0 h.2.0.0) f.3))

-- nor two bases
one_base : (m : Files) (job : RehearseJob) (b c : Base) → HasBase (Some m) job b → HasBase (Some m) job c → b ≡ c
one_base m job b c h k =
    let d = dataset_of job in
    let S : List ℕ → Type 0 = λ x. Spells d x k.1 c in
    let E : List ℕ → Type 0 = λ x. Spells d h.0 x c in
    bases_are_one d h.0 h.1 b c h.3 (subst E (one_file m job.edges k.1 h.1 k.2.1.0 h.2.1.0) (subst S (one_file m job.supervoxels k.0 h.0 k.2.0.0 h.2.0.0) k.3))

-- they don't spell one whose records can be had and can't
not_full : (m : Files) (job : RehearseJob) (b : Base) → HasBase (Some m) job b → ((e : BuildError) → IsFull (dataset_of job) b e → ⊥) → HasFullBase (Some m) job → ⊥
not_full m job b h fits full =
    let F : Base → Type 0 = λ x. IsFull (dataset_of job) x full.1 in
    let at = full.2 in
    fits full.1 (subst F (one_base m job at.0 b at.1 h) at.2)

-- a schedule doesn't name clients and have a word that is none
one_schedule : (m : Files) (job : RehearseJob) (schedule : Option (List ℕ)) (numbers : List ℕ) (word : ℕ) → NamesClients (Some m) job schedule numbers → NamesNone (Some m) job schedule word → ⊥
one_schedule m job None numbers word h bad = bad
one_schedule m job (Some name) numbers word h bad =
    let e = sym h.2 ∙ ap (schedule_of (length job.stems)) (one_file m name h.0 bad.0 h.1.0 bad.1.0) ∙ bad.2 in cc e

not_bad : (m : Files) (job : RehearseJob) (numbers : List ℕ) → HasSchedule (Some m) job numbers → HasBadSchedule (Some m) job → ⊥
not_bad m job numbers h bad = one_schedule m job job.schedule numbers bad.1 h bad.2

-- a schedule that names clients isn't too long
named_short : (m : Files) (job : RehearseJob) (schedule : Option (List ℕ)) (numbers : List ℕ) → NamesClients (Some m) job schedule numbers → ScheduleLong (Some m) schedule → ⊥
named_short m job None numbers h long = long
named_short m job (Some name) numbers h long = not_long m name h.0 h.1 long

-- tables that spell a base, beside a schedule that names clients, have no text that is too long
full_short : (m : Files) (job : RehearseJob) → HasFullBase (Some m) job → HasLongText (Some m) job → ⊥
full_short m job full (inl long) =
    let h = full.2.1 in
    not_long m job.supervoxels h.0 h.2.0 long
full_short m job full (inr more) = go more.2
  where
    go : IsLongerAt (Some m) job.edges limit ⊎ ((bytes : List ℕ) × HasText (Some m) job.edges bytes × ScheduleLong (Some m) job.schedule) → ⊥
    go (inl long) =
        let h = full.2.1 in
        not_long m job.edges h.1 h.2.1 long
    go (inr long) = named_short m job job.schedule full.0.0 full.0.1 long.2

-- nor have texts that were read
read_short : (m : Files) (left : List ℕ → List ℕ) (schedule : Option (List ℕ)) → ScheduleRead (Some m) left schedule → ScheduleLong (Some m) schedule → ⊥
read_short m left None r long = long
read_short m left (Some name) r long = not_long m name r.1 r.2 long

none_long : (m : Files) (left : List ℕ → List ℕ) (job : RehearseJob) → AllRead (Some m) left job → HasLongText (Some m) job → ⊥
none_long m left job r (inl long) = not_long m job.supervoxels r.0.0.1 r.0.0.2 long
none_long m left job r (inr more) = go more.2
  where
    go : IsLongerAt (Some m) job.edges limit ⊎ ((bytes : List ℕ) × HasText (Some m) job.edges bytes × ScheduleLong (Some m) job.schedule) → ⊥
    go (inl long) = not_long m job.edges r.0.1.1 r.0.1.2 long
    go (inr long) = read_short m left job.schedule r.1 long.2

-- a call that stopped for a text that is too long
long_due : (m : Files) (job : RehearseJob) → HasLongText (Some m) job → (s : Status) → IsDue (Some m) job s → Ends statuses.TooLong s
long_due m job long s (inl d) = absurd (d.1 long)
long_due m job long s (inr (inl d)) = inl (sym d.0)
long_due m job long s (inr (inr d)) = absurd (full_short m job d.1 long)

-- for a record of a table
table_due : (m : Files) (left : List ℕ → List ℕ) (job : RehearseJob) → HasBadTable (Some m) job → AllRead (Some m) left job → (s : Status) → IsDue (Some m) job s → Ends statuses.BadInput s
table_due m left job bad r s (inl d) = inl (sym d.0)
table_due m left job bad r s (inr (inl d)) = absurd (none_long m left job r d.1)
table_due m left job bad r s (inr (inr d)) =
    let full = d.1.2 in
    absurd (no_fault m job full.0 bad full.1)

-- for a word of the schedule
word_due : (m : Files) (left : List ℕ → List ℕ) (job : RehearseJob) → HasBadSchedule (Some m) job → AllRead (Some m) left job → (s : Status) → IsDue (Some m) job s → Ends statuses.BadInput s
word_due m left job bad r s (inl d) = inl (sym d.0)
word_due m left job bad r s (inr (inl d)) = absurd (none_long m left job r d.1)
word_due m left job bad r s (inr (inr d)) = absurd (not_bad m job d.1.0.0 d.1.0.1 bad)

-- for a base whose records can't be had
full_due : (m : Files) (left : List ℕ → List ℕ) (job : RehearseJob) → HasFullBase (Some m) job → AllRead (Some m) left job → (s : Status) → IsDue (Some m) job s → Ends statuses.Full s
full_due m left job full r s (inl d) = absurd (go d.2)
  where
    go : HasBadTable (Some m) job ⊎ HasBadSchedule (Some m) job → ⊥
    go (inl bad) =
        let at = full.2 in
        no_fault m job at.0 bad at.1
    go (inr bad) = not_bad m job full.0.0 full.0.1 bad
full_due m left job full r s (inr (inl d)) = absurd (none_long m left job r d.1)
full_due m left job full r s (inr (inr d)) = inl (sym d.0)

-- an input that was read and is of its form asks for no status
none_due : (m : Files) (left : List ℕ → List ℕ) (job : RehearseJob) → HasInput (Some m) job → AllRead (Some m) left job → (s : Status) → IsDue (Some m) job s → ⊥
none_due m left job h r s (inl d) = go d.2
  where
    go : HasBadTable (Some m) job ⊎ HasBadSchedule (Some m) job → ⊥
    go (inl bad) = no_fault m job h.0 bad h.1
    go (inr bad) = not_bad m job h.3 h.4 bad
none_due m left job h r s (inr (inl d)) = none_long m left job r d.1
none_due m left job h r s (inr (inr d)) = not_full m job h.0 h.1 h.2 d.1

-- a place that tells these files, and else what this one does
abbrev telling : Files → PlaceState → PlaceState
telling m s = record s { files = Some m }

stop_due : (m : Files) (job : RehearseJob) (old new : PlaceState) (stop : Stop) → InputStop job (telling m old) new stop → (s : Status) → IsDue (Some m) job s → Ends (status_of stop) s
stop_due m job old new stops.BadWords t s d = absurd t
stop_due m job old new (stops.ReadFault client file) t s d = inr (inl refl)
stop_due m job old new (stops.WriteFault client file) t s d = absurd t
stop_due m job old new (stops.TooLong client file) t s d = long_due m job (long_stop job (telling m old) new client file t) s d
stop_due m job old new (stops.BadTable table row cause) t s d = table_due m new.left job (table, row, cause, t.0) t.1 s d
stop_due m job old new (stops.BadSchedule word) t s d = word_due m new.left job (t.1, word, t.0) t.2 s d
stop_due m job old new (stops.IdsSpent layer x y z) t s d = full_due m new.left job (t.1, builds.IdsSpent layer x y z, t.0) t.2 s d
stop_due m job old new (stops.TooSmall need given) t s d = full_due m new.left job (t.1, builds.TooSmall need given, t.0) t.2 s d
stop_due m job old new stops.NoMemory t s d = inr (inr refl)

told_due : (m : Files) (job : RehearseJob) (place : Between PlaceState) (out : Between SinkState) (status : Status) → Outcome job (record { old = telling m place.old; new = place.new }) out status
    → (s : Status) → IsDue (Some m) job s → Ends status s
told_due m job place out status (inl h) s d = subst (λ n. Ends n s) (sym h.1) (go h.2)
  where
    go : StopCause job (telling m place.old) place.new h.0 → Ends (status_of h.0) s
    go (inl t) = stop_due m job place.old place.new h.0 t.0 s d
    go (inr t) = absurd (none_due m place.new.left job t.0 t.1 s d)
told_due m job place out status (inr h) s d =
    let p = h.2 in
    absurd (none_due m place.new.left job (p.base, p.has_base, p.fits, p.schedule, p.has_schedule) p.read s d)

pub due : (job : RehearseJob) (place : Between PlaceState) (out : Between SinkState) (status : Status) → Outcome job place out status
    → (s : Status) → IsDue place.old.files job s → (status ≡ s) ⊎ (status ≡ statuses.ReadFault) ⊎ (status ≡ statuses.NoMemory)
due job place out status o s d = go place.old.files refl d
  where
    go : (files : Option Files) → place.old.files ≡ files → IsDue files job s → Ends status s
    go None e d = absurd d
    go (Some m) e d =
        let same : place.old ≡ telling m place.old = ap (λ (f : Option Files). record place.old { files = f }) e in
        told_due m job place out status (subst (λ (x : PlaceState). Outcome job (record { old = x; new = place.new }) out status) same o) s d
