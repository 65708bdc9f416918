-- What each status of a call tells.
use Rattle.std.proofs.Common.{◌≡◌, ◌<◌, ℕ, suc, ◌+◌, ◌^◌, false, List, [], ◌∷◌, ◌++◌, length, map, Option, Some, None, refl, sym, ◌∙◌, subst, arith, inl, inr, length-append}
use Rattle.std.specs.Prelude.{◌⊎◌, is_some, slice_get}
use Rattle.std.specs.List.{AllByRecursion}
use Rattle.std.specs.Io.KnownBytes.{Appends}
use Rattle.op_model.specs.declared.base.Dataset.{Dataset}
use Rattle.op_model.specs.declared.base.Base.{Base}
use Rattle.op_model.specs.declared.entry.Entry.{Entry}
use Rattle.op_model.specs.declared.reply.Reply.{Reply}
use Rattle.hierarchy_build.specs.declared.errors.BuildError.TheVariants as builds
use Rattle.pcg_base.specs.Causes.{Rose}
use Rattle.pcg_base.specs.declared.reading.StreamEnd.{StreamEnd}
use Rattle.pcg_base.specs.declared.reading.StreamEnd.TheVariants as ends
use Rattle.pcg_base.specs.States.{PlaceState, SinkState}
use Rattle.pcg_base.specs.Told.{Files, IsLongerAt}
use Rattle.pcg_words.specs.declared.job.RehearseJob.{RehearseJob}
use Rattle.pcg_words.specs.Job.{answer_file, request_file}
use Rattle.call_lines.specs.declared.status.Status.{Status}
use Rattle.call_lines.specs.declared.status.Status.TheVariants as statuses
use Rattle.call_lines.specs.declared.stops.FileName.{FileName}
use Rattle.call_lines.specs.declared.stops.FileName.TheVariants as files
use Rattle.call_lines.specs.declared.stops.Stop.{Stop}
use Rattle.call_lines.specs.declared.stops.Stop.TheVariants as stops
use Rattle.call_lines.specs.Statuses.{status_of}
use Rattle.job_tables.specs.Inputs.{HasText, dataset_of, limit}
use Rattle.job_tables.specs.Stops.{InputStop, ScheduleRose, WasRead}
use Rattle.session_results.specs.Results.{SessionResult, fault_at, fault_for, fault_of, faults_from, status_for}
use Rattle.rehearsal.specs.Between.{Between}
use Rattle.rehearsal.specs.Clients.{AllClients, LinesAre, ReadsSo, TakenAt, WritesSo, broke}
use Rattle.rehearsal.specs.Exact.{HasBadSchedule, HasBadTable, HasLongStream, HasLongText, IsFine, IsQuiet, Tells}
use Rattle.rehearsal.specs.Outcomes.{CamePast, ClientsStop, IsDone, Outcome, Printed, StopCause, at_fault}

-- a call that stopped before its sessions has no status 0
never_zero : (stop : Stop) → status_of stop ≡ statuses.Done → ⊥
never_zero stops.BadWords e = cc
never_zero (stops.ReadFault client file) e = cc
never_zero (stops.WriteFault client file) e = cc
never_zero (stops.TooLong client file) e = cc
never_zero (stops.BadTable table row cause) e = cc
never_zero (stops.BadSchedule word) e = cc
never_zero (stops.IdsSpent layer x y z) e = cc
never_zero (stops.TooSmall need given) e = cc
never_zero stops.NoMemory e = cc

-- the status behind a failed output
fault_is : (n : Status) → ((n ≡ statuses.Done) × (at_fault n ≡ statuses.WriteFault)) ⊎ (at_fault n ≡ n)
unfolding at_fault
fault_is statuses.Done = inl (refl, refl)
fault_is statuses.BadWords = inr refl
fault_is statuses.ReadFault = inr refl
fault_is statuses.BadInput = inr refl
fault_is statuses.WriteFault = inr refl
fault_is statuses.NoMemory = inr refl
fault_is statuses.Full = inr refl
fault_is statuses.TooLong = inr refl

done_fault : at_fault statuses.Done ≡ statuses.WriteFault
unfolding at_fault
done_fault = refl

not_done : statuses.WriteFault ≡ statuses.Done → ⊥
not_done x = cc

lost_done : statuses.NoMemory ≡ statuses.Done → ⊥
lost_done x = cc

-- a status 0 is that of sessions without a fault, behind which all was printed
all_printed : (out out' : SinkState) (text : List ℕ) (ended status : Status) → Printed out out' text ended status → status ≡ statuses.Done
    → Appends out.held out'.held text × (out'.faults ≡ out.faults) × (ended ≡ statuses.Done)
all_printed out out' text ended status (inl h) z = (h.0, h.1, sym h.2 ∙ z)
all_printed out out' text ended status (inr (inl h)) z = absurd (go (fault_is ended))
  where
    go : ((ended ≡ statuses.Done) × (at_fault ended ≡ statuses.WriteFault)) ⊎ (at_fault ended ≡ ended) → ⊥
    go (inl f) = not_done (sym f.1 ∙ sym h.2 ∙ z)
    go (inr f) =
        let e : ended ≡ statuses.Done = sym f ∙ sym h.2 ∙ z in
        let four : at_fault ended ≡ statuses.WriteFault = subst (λ n. at_fault n ≡ statuses.WriteFault) (sym e) done_fault in
        not_done (sym four ∙ sym h.2 ∙ z)
all_printed out out' text ended status (inr (inr h)) z = absurd (lost_done (sym h.2 ∙ z))

pub is_done : (job : RehearseJob) (place : Between PlaceState) (out : Between SinkState) (status : Status) → Outcome job place out status → status ≡ statuses.Done → IsDone job place out
is_done job place out status (inl h) z = absurd (never_zero h.0 (sym h.1 ∙ z))
is_done job place out status (inr h) z =
    let p = all_printed out.old out.new h.0 h.1 status h.3 z in
    (h.0, subst (λ n. CamePast job place.old place.new h.0 n) p.2 h.2, p.0)

read_done : statuses.ReadFault ≡ statuses.Done → ⊥
read_done x = cc

long_done : statuses.TooLong ≡ statuses.Done → ⊥
long_done x = cc

-- one session without a fault, ahead of others
one_well : (client : ℕ) (ending : StreamEnd) (last : Option Reply) (rs : List SessionResult) → status_for (fault_at client (fault_for (is_some last) ending) ++ faults_from (client + 1) rs) ≡ statuses.Done
    → (broke ending ≡ false) × (last ≡ None) × (status_for (faults_from (client + 1) rs) ≡ statuses.Done)
unfolding status_for fault_for
one_well client ends.Whole None rs e = (refl, refl, e)
one_well client ends.Broken None rs e = absurd (read_done e)
one_well client ends.TooLong None rs e = absurd (long_done e)
one_well client ending (Some r) rs e = absurd (not_done e)

-- where no session ended in a fault no stream was broken, and no reply failed
all_well : (client : ℕ) (rs : List SessionResult) → status_for (faults_from client rs) ≡ statuses.Done → AllByRecursion (λ r. broke r.ending ≡ false) rs × AllByRecursion (λ r. r.last ≡ None) rs
unfolding faults_from fault_of
all_well client [] e = (tt, tt)
all_well client (r ∷ rs) e =
    let one = one_well client r.ending r.last rs e in
    let more = all_well (client + 1) rs one.2 in
    ((one.0, more.0), (one.1, more.1))

pub is_faultless : (job : RehearseJob) (place : Between PlaceState) (out : Between SinkState) (status : Status) → Outcome job place out status → status ≡ statuses.Done
    → (place.new.reads ≡ place.old.reads) × (place.new.writes ≡ place.old.writes) × (out.new.faults ≡ out.old.faults)
is_faultless job place out status (inl h) z = absurd (never_zero h.0 (sym h.1 ∙ z))
is_faultless job place out status (inr h) z =
    let p = all_printed out.old out.new h.0 h.1 status h.3 z in
    let past = h.2 in
    let well = all_well 1 past.results (sym past.history.status ∙ p.2) in
    (past.history.reads well.0, past.history.writes well.1, p.1)

-- What the status of sessions tells.
abbrev Ended : Option Files → List (List ℕ) → PlaceState → PlaceState → Status → Type 0
Ended m stems old new status =
    (status ≡ statuses.Done) ⊎ ((status ≡ statuses.ReadFault) × Rose old.reads new.reads) ⊎ ((status ≡ statuses.WriteFault) × Rose old.writes new.writes)
    ⊎ ((status ≡ statuses.TooLong) × (k : ℕ) × (name : List ℕ) × (slice_get (map request_file stems) k ≡ Some name) × IsLongerAt m name limit)

one_more : (m : Option Files) (stem : List ℕ) (stems : List (List ℕ)) (old new : PlaceState) (status : Status) → Ended m stems old new status → Ended m (stem ∷ stems) old new status
one_more m stem stems old new status (inl h) = inl h
one_more m stem stems old new status (inr (inl h)) = inr (inl h)
one_more m stem stems old new status (inr (inr (inl h))) = inr (inr (inl h))
one_more m stem stems old new status (inr (inr (inr h))) = inr (inr (inr (h.0, suc h.1, h.2, h.3, h.4)))

-- a stream of which more was taken than it may have is longer
longer : (m : Option Files) (left : List ℕ → List ℕ) (name taken : List ℕ) → TakenAt m left name taken → 2 ^ 30 < length taken → IsLongerAt m name limit
longer None left name taken t more = tt
longer (Some m) left name taken t more =
    let count : length (taken ++ left name) ≡ length taken + length (left name) = length-append taken (left name) in
    (taken ++ left name, t, omega (arith, count, more))

-- what the fault of one client tells, or that of those behind it
one_ended : (client : ℕ) (stem : List ℕ) (stems : List (List ℕ)) (old new : PlaceState) (ending : StreamEnd) (last : Option Reply) (taken : List ℕ) (lines : List (List ℕ)) (rs : List SessionResult)
    → TakenAt old.files new.left (request_file stem) taken → LinesAre ending taken lines → ReadsSo ending (request_file stem) old new → WritesSo (is_some last) (answer_file stem) old new
    → Ended old.files stems old new (status_for (faults_from (client + 1) rs))
    → Ended old.files (stem ∷ stems) old new (status_for (fault_at client (fault_for (is_some last) ending) ++ faults_from (client + 1) rs))
unfolding status_for fault_for
one_ended client stem stems old new ends.Whole None taken lines rs t l r w more = one_more old.files stem stems old new _ more
one_ended client stem stems old new ends.Broken None taken lines rs t l r w more = inr (inl (refl, r.place))
one_ended client stem stems old new ends.TooLong None taken lines rs t l r w more = inr (inr (inr (refl, 0, request_file stem, refl, longer old.files new.left (request_file stem) taken t l.1)))
one_ended client stem stems old new ending (Some reply) taken lines rs t l r w more = inr (inr (inl (refl, w.place)))

all_ended : (d : Dataset) (b : Base) (log : List Entry) (old new : PlaceState) (client : ℕ) (stems : List (List ℕ)) (rs : List SessionResult) → AllClients d b log old new client stems rs
    → Ended old.files stems old new (status_for (faults_from client rs))
unfolding status_for faults_from fault_of
all_ended d b log old new client [] [] h = inl refl
all_ended d b log old new client [] (r ∷ rs) h = absurd h
all_ended d b log old new client (stem ∷ stems) [] h = absurd h
all_ended d b log old new client (stem ∷ stems) (r ∷ rs) h =
    let c = h.0 in
    one_ended client stem stems old new r.ending r.last c.taken r.lines rs c.stream c.lines c.reads c.writes (all_ended d b log old new (client + 1) stems rs h.1)

past_ended : (job : RehearseJob) (old new : PlaceState) (text : List ℕ) (ended : Status) → CamePast job old new text ended → Ended old.files job.stems old new ended
past_ended job old new text ended p =
    subst (λ n. Ended old.files job.stems old new n) (sym p.history.status) (all_ended (dataset_of job) p.base p.log old new 1 job.stems p.results p.history.clients)

-- what sessions tell is told by the call that answers their status
ended_tells : (job : RehearseJob) (place : Between PlaceState) (out : Between SinkState) (ended status : Status) → status ≡ ended → Ended place.old.files job.stems place.old place.new ended → Tells job place out status
ended_tells job place out ended status e (inl h) = inl (e ∙ h)
ended_tells job place out ended status e (inr (inl h)) = inr (inr (inl (e ∙ h.0, h.1)))
ended_tells job place out ended status e (inr (inr (inl h))) = inr (inr (inr (inr (inl (e ∙ h.0, inl h.1)))))
ended_tells job place out ended status e (inr (inr (inr h))) = inr (inr (inr (inr (inr (inr (e ∙ h.0, inr (h.1, h.2, h.3, h.4)))))))

past_tells : (job : RehearseJob) (place : Between PlaceState) (out : Between SinkState) (text : List ℕ) (ended status : Status) → CamePast job place.old place.new text ended → Printed out.old out.new text ended status
    → Tells job place out status
past_tells job place out text ended status p (inl h) = ended_tells job place out ended status h.2 (past_ended job place.old place.new text ended p)
past_tells job place out text ended status p (inr (inl h)) = go (fault_is ended)
  where
    go : ((ended ≡ statuses.Done) × (at_fault ended ≡ statuses.WriteFault)) ⊎ (at_fault ended ≡ ended) → Tells job place out status
    go (inl f) = inr (inr (inr (inr (inl (h.2 ∙ f.1, inr h.1)))))
    go (inr f) = ended_tells job place out ended status (h.2 ∙ f) (past_ended job place.old place.new text ended p)
past_tells job place out text ended status p (inr (inr h)) = inr (inl h.2)

-- a text that was read, at a place that tells its bytes or not
text_of : (m : Option Files) (left : List ℕ → List ℕ) (name : List ℕ) → WasRead m left name → (bytes : List ℕ) × HasText m name bytes
text_of None left name r = ([], tt)
text_of (Some m) left name r = (r.1, r.2)

-- a stop for a text that is too long
pub long_stop : (job : RehearseJob) (old new : PlaceState) (client : ℕ) (file : FileName) → InputStop job old new (stops.TooLong client file) → HasLongText old.files job
long_stop job old new client files.Supervoxels t = inl t.1
long_stop job old new client files.Edges t =
    let x = text_of old.files new.left job.supervoxels t.2 in
    inr (x.0, x.1, inl t.1)
long_stop job old new client files.Schedule t =
    let x = text_of old.files new.left job.supervoxels t.2.0 in
    let y = text_of old.files new.left job.edges t.2.1 in
    inr (x.0, x.1, inr (y.0, y.1, t.1))
long_stop job old new client files.Requests t = absurd t
long_stop job old new client files.Answers t = absurd t

-- and for one whose reading failed
read_stop : (job : RehearseJob) (old new : PlaceState) (client : ℕ) (file : FileName) → InputStop job old new (stops.ReadFault client file) → Rose old.reads new.reads
read_stop job old new client files.Supervoxels t = t.1.place
read_stop job old new client files.Edges t = t.1.place
read_stop job old new client files.Schedule t = go job.schedule t.1
  where
    go : (name : Option (List ℕ)) → ScheduleRose old new name → Rose old.reads new.reads
    go None r = absurd r
    go (Some name) r = r.place
read_stop job old new client files.Requests t = absurd t
read_stop job old new client files.Answers t = absurd t

input_tells : (job : RehearseJob) (place : Between PlaceState) (out : Between SinkState) (stop : Stop) → InputStop job place.old place.new stop → Tells job place out (status_of stop)
input_tells job place out stops.BadWords t = absurd t
input_tells job place out (stops.ReadFault client file) t = inr (inr (inl (refl, read_stop job place.old place.new client file t)))
input_tells job place out (stops.WriteFault client file) t = absurd t
input_tells job place out (stops.TooLong client file) t = inr (inr (inr (inr (inr (inr (refl, inl (long_stop job place.old place.new client file t)))))))
input_tells job place out (stops.BadTable table row cause) t = inr (inr (inr (inl (refl, inl (table, row, cause, t.0)))))
input_tells job place out (stops.BadSchedule word) t = inr (inr (inr (inl (refl, inr (t.1, word, t.0)))))
input_tells job place out (stops.IdsSpent layer x y z) t = inr (inr (inr (inr (inr (inl (refl, (t.1, builds.IdsSpent layer x y z, t.0)))))))
input_tells job place out (stops.TooSmall need given) t = inr (inr (inr (inr (inr (inl (refl, (t.1, builds.TooSmall need given, t.0)))))))
input_tells job place out stops.NoMemory t = inr (inl refl)

clients_tell : (job : RehearseJob) (place : Between PlaceState) (out : Between SinkState) (stop : Stop) → ClientsStop job place.old place.new stop → Tells job place out (status_of stop)
clients_tell job place out stops.BadWords t = absurd t
clients_tell job place out (stops.ReadFault client files.Requests) t = inr (inr (inl (refl, t.3.place)))
clients_tell job place out (stops.ReadFault client files.Supervoxels) t = absurd t
clients_tell job place out (stops.ReadFault client files.Edges) t = absurd t
clients_tell job place out (stops.ReadFault client files.Schedule) t = absurd t
clients_tell job place out (stops.ReadFault client files.Answers) t = absurd t
clients_tell job place out (stops.WriteFault client files.Answers) t = inr (inr (inr (inr (inl (refl, inl t.3.place)))))
clients_tell job place out (stops.WriteFault client files.Supervoxels) t = absurd t
clients_tell job place out (stops.WriteFault client files.Edges) t = absurd t
clients_tell job place out (stops.WriteFault client files.Schedule) t = absurd t
clients_tell job place out (stops.WriteFault client files.Requests) t = absurd t
clients_tell job place out (stops.TooLong client file) t = absurd t
clients_tell job place out (stops.BadTable table row cause) t = absurd t
clients_tell job place out (stops.BadSchedule word) t = absurd t
clients_tell job place out (stops.IdsSpent layer x y z) t = absurd t
clients_tell job place out (stops.TooSmall need given) t = absurd t
clients_tell job place out stops.NoMemory t = inr (inl refl)

pub tells : (job : RehearseJob) (place : Between PlaceState) (out : Between SinkState) (status : Status) → Outcome job place out status → Tells job place out status
tells job place out status (inl h) = subst (λ n. Tells job place out n) (sym h.1) (go h.2)
  where
    go : StopCause job place.old place.new h.0 → Tells job place out (status_of h.0)
    go (inl t) = input_tells job place out h.0 t.0
    go (inr t) = clients_tell job place out h.0 t.2
tells job place out status (inr h) = past_tells job place out h.0 h.1 status h.2 h.3

pub complete : (job : RehearseJob) (place : Between PlaceState) (out : Between SinkState) (status : Status) → Outcome job place out status → IsQuiet place out → IsFine place.old.files job
    → (status ≡ statuses.Done) ⊎ (status ≡ statuses.NoMemory)
complete job place out status o quiet fine = go (tells job place out status o)
  where
    no_table : HasBadTable place.old.files job ⊎ HasBadSchedule place.old.files job → ⊥
    no_table (inl x) = fine.tables x
    no_table (inr x) = fine.schedule x

    no_write : Rose place.old.writes place.new.writes ⊎ Rose out.old.faults out.new.faults → ⊥
    no_write (inl x) = quiet.1 x
    no_write (inr x) = quiet.2 x

    none_long : HasLongText place.old.files job ⊎ HasLongStream place.old.files job → ⊥
    none_long (inl x) = fine.texts x
    none_long (inr x) = fine.streams x

    go : Tells job place out status → (status ≡ statuses.Done) ⊎ (status ≡ statuses.NoMemory)
    go (inl x) = inl x
    go (inr (inl x)) = inr x
    go (inr (inr (inl x))) = absurd (quiet.0 x.1)
    go (inr (inr (inr (inl x)))) = absurd (no_table x.1)
    go (inr (inr (inr (inr (inl x))))) = absurd (no_write x.1)
    go (inr (inr (inr (inr (inr (inl x)))))) = absurd (fine.base x.1)
    go (inr (inr (inr (inr (inr (inr x)))))) = absurd (none_long x.1)
