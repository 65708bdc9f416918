-- Files that are opened, sessions that are played, and files that are kept back, together.
use Rattle.std.proofs.Common.{◌≡◌, ◌≤◌, ◌<◌, ℕ, ◌+◌, ◌*◌, List, map, length, Option, Some, None, IsTrue, bytes_eq, false, refl, sym, ◌∙◌, ap, subst}
use Rattle.std.specs.Prelude.{Err, IfErr, IfNone, IfOk, IfSome, Ok, Result}
use Rattle.std.specs.List.{AllByRecursion, list_any}
use Rattle.op_model.specs.declared.base.Dataset.{Dataset}
use Rattle.op_model.specs.declared.base.Base.{Base}
use Rattle.pcg_base.specs.declared.clock.Ticks.{Ticks}
use Rattle.pcg_base.specs.States.{PlaceState, SinkState}
use Rattle.pcg_base.specs.Told.{Files, KeepsFiles}
use Rattle.pcg_words.specs.declared.job.RehearseJob.{RehearseJob}
use Rattle.pcg_words.specs.Job.{all_differ, answer_file, request_file}
use Rattle.client_answers.specs.declared.answers.ClientAnswers.{ClientAnswers}
use Rattle.job_files.specs.Places.{EachStep, IsLater, IsSame, KeepsIn, KeepsOut}
use Rattle.stream_lines.specs.declared.reading.StreamLines.{StreamLines}
use Rattle.job_files.specs.Clients.{AnswersOpen, AreEmpty, AreOpened, Empties, ReadsAll, ReadsSome, kept_of}
use Rattle.job_files.specs.Kept.{AreKeptIn, AreKeptOut, KeepsOther}
use Rattle.job_files.proofs.Counting.{later_then}
use Rattle.call_lines.specs.declared.stops.Stop.TheVariants as stops
use Rattle.job_tables.specs.declared.tables.JobBase.{JobBase}
use Rattle.job_tables.specs.Inputs.{IsRead, clock_time, dataset_of, dataset_with}
use Rattle.session_results.specs.declared.playing.SessionsDone.{SessionsDone}
use Rattle.rehearsal.specs.Outcomes.{SessionsStop}
use Rattle.rehearsal.specs.Played.{ArePlayed, AreUnplayed, IsBefore}
use Rattle.rehearsal.specs.Served.{AreServed}
use Rattle.rehearsal.proofs.Emptied.{empties_behind, empties_kept, empty_behind, opened_behind, other_kept, other_then, same_keeps}
use Rattle.rehearsal.proofs.Left.{left_elsewhere}
use Rattle.rehearsal.proofs.OneClient.{IsKept, IsOpen}
use Rattle.rehearsal.proofs.Serving.{served}
use Rattle.rehearsal.proofs.Unplayed.{unplayed_stop}
use Rattle.rehearsal.proofs.Zips.{length_map}

-- the laws of files that are kept back
abbrev pub SourcesKept : Type 0
SourcesKept = (names : List (List ℕ)) (sources : List (Option (List ℕ) × ℕ)) (old new : PlaceState) → IsTrue (all_differ names) → EachStep KeepsIn names sources old new → AreKeptIn names sources old new

abbrev pub SinksKept : Type 0
SinksKept = (names : List (List ℕ)) (sinks : List (Option (List ℕ) × ℕ)) (old new : PlaceState) → IsTrue (all_differ names) → EachStep KeepsOut names sinks old new → AreKeptOut names sinks old new

abbrev pub AnswersEmptied : Type 0
AnswersEmptied = (files files' : Option Files) (names : List (List ℕ)) → Empties files names files' → KeepsOther files names files'

open_from : (answers : List (List ℕ)) (o s t : PlaceState) → IsBefore o s → AnswersOpen answers s t → IsOpen answers o t
open_from answers o s t b h = record {
  files = empties_behind o.files s.files t.files answers b.files h.files;
  reads = h.reads ∙ b.reads;
  writes = h.writes ∙ b.writes;
  counts = λ name. h.counts name ∙ b.counts name;
}

keeps : (f : Option Files) → KeepsFiles f f
keeps None = tt
keeps (Some m) = refl

before_same : (s : PlaceState) → IsBefore s s
before_same s = record { files = keeps s.files; reads = refl; writes = refl; counts = λ name. refl }

module _ (inlaw : SourcesKept) (outlaw : SinksKept) (emptied : AnswersEmptied) (requests answers : List (List ℕ)) (rd : IsTrue (all_differ requests)) (ad : IsTrue (all_differ answers)) where
  module _ {S K : Type 0} (left : S → Option (List ℕ)) (faults : S → ℕ) (state : K → SinkState) (d : Dataset) (b : Base) (clock : Ticks) (schedule : List ℕ) (stems : List (List ℕ))
      (sources : List S) (sinks : List (ClientAnswers K)) (o s t v : PlaceState) (done : SessionsDone) (h : AnswersOpen answers s t) (p : ArePlayed left state d b (clock_time clock 0) clock schedule requests answers sources sinks t v done) where
    pub whole_served : IsBefore o s → requests ≡ map request_file stems → answers ≡ map answer_file stems → AreOpened left faults s.files requests sources → AreEmpty state s.files answers sinks
        → AreServed d b clock schedule stems o v done
    whole_served before er ea opened empty =
        let kept : IsKept requests answers p.kept (map (kept_of state) p.ended) o t p.mid v = record {
          opened = open_from answers o s t before h;
          kept_in = inlaw requests p.kept t p.mid rd p.kept_in;
          kept_out = outlaw answers (map (kept_of state) p.ended) p.mid v ad p.kept_out;
        } in
        served left faults state d b p.done_so.log requests answers p.kept (map (kept_of state) p.ended) o t p.mid v kept stems sources p.read sinks p.ended clock schedule done er ea refl
        (subst (λ names. AreOpened left faults o.files names sources) er (opened_behind left faults o.files s.files requests sources before.files opened))
        (subst (λ names. AreEmpty state o.files names sinks) ea (empty_behind state o.files s.files answers sinks before.files empty))
        p.are_read p.count p.done_so refl

  module _ (in_kept out_kept : List (Option (List ℕ) × ℕ)) (s t u v : PlaceState) (h : AnswersOpen answers s t) (kin : EachStep KeepsIn requests in_kept t u) (kout : EachStep KeepsOut answers out_kept u v) where
    pub back_later : IsLater s t → IsLater s v
    back_later l = later_then s u v (later_then s t u l (inlaw requests in_kept t u rd kin).later) (outlaw answers out_kept u v ad kout).later

    pub back_others : KeepsOther s.files answers v.files
    back_others =
        other_then s.files u.files v.files answers (emptied s.files u.files answers (empties_kept s.files t.files u.files answers h.files (inlaw requests in_kept t u rd kin).files)) (outlaw answers out_kept u v ad kout).others

    pub back_left : (n : List ℕ) → list_any (bytes_eq n) requests ≡ false → v.left n ≡ s.left n
    back_left n e = (outlaw answers out_kept u v ad kout).left n ∙ left_elsewhere requests in_kept t u kin n e ∙ h.left n

  module _ {K : Type 0} (state : K → SinkState) (sinks : List (ClientAnswers K)) (s t v : PlaceState) (h : AnswersOpen answers s t) (p : AreUnplayed state requests answers sinks t v) where
    pub whole_unplayed : AreEmpty state s.files answers sinks → SessionsStop requests answers s v stops.NoMemory
    whole_unplayed empty =
        unplayed_stop state requests answers p.kept sinks s t p.mid v (open_from answers s s t (before_same s) h) empty
        (inlaw requests p.kept t p.mid rd p.kept_in) (outlaw answers (map (kept_of state) sinks) p.mid v ad p.kept_out) emptied

pub if_some_then : {A : Type 0} {P Q : A → Type 0} (o : Option A) → ((x : A) → P x → Q x) → IfSome o P → IfSome o Q
if_some_then None f h = tt
if_some_then (Some x) f h = f x h

-- what was read fits the job
pub room_of : (job : RehearseJob) (input : JobBase) (files : Option Files) → IsRead files job input → 8 * input.dataset.capacity ≤ length input.words.words + input.words.spare
unfolding dataset_of dataset_with
room_of job input files r = subst (λ (d : Dataset). 8 * d.capacity ≤ length input.words.words + input.words.spare) (sym r.dataset) r.room

pub numbers_within : (job : RehearseJob) (input : JobBase) (files : Option Files) (requests : List (List ℕ)) → requests ≡ map request_file job.stems → IsRead files job input
    → AllByRecursion (λ n. (0 < n) × (n ≤ length requests)) input.schedule.items
numbers_within job input files requests e r =
    subst (λ m. AllByRecursion (λ n. (0 < n) × (n ≤ m)) input.schedule.items) (sym (ap length e ∙ length_map request_file job.stems)) r.numbers

pub if_ok_then : {A E : Type 0} {P Q : A → Type 0} (r : Result A E) → ((x : A) → P x → Q x) → IfOk r P → IfOk r Q
if_ok_then (Ok x) f h = f x h
if_ok_then (Err e) f h = tt

pub if_err_then : {A E : Type 0} {P Q : E → Type 0} (r : Result A E) → ((e : E) → P e → Q e) → IfErr r P → IfErr r Q
if_err_then (Ok x) f h = tt
if_err_then (Err e) f h = f e h

pub if_none_then : {A : Type 0} {P Q : Type 0} (o : Option A) → (P → Q) → IfNone o P → IfNone o Q
if_none_then None f h = f h
if_none_then (Some x) f h = tt

-- all was kept back where memory ran out over the lines, or behind them
module _ {S K : Type 0} (left : S → Option (List ℕ)) (state : K → SinkState) (requests answers rs ns : List (List ℕ)) (sources : List S) where
  pub unplayed : (sinks ended : List (ClientAnswers K)) (s t u : PlaceState) → rs ≡ requests → ns ≡ answers → ended ≡ sinks → ReadsSome left rs sources s t → EachStep KeepsOut ns (map (kept_of state) ended) t u
      → AreUnplayed state requests answers sinks s u
  unplayed sinks ended s t u er en es read kept = record {
    kept = read.0;
    mid = t;
    kept_in = subst (λ names. EachStep KeepsIn names read.0 s t) er read.2;
    kept_out = subst (λ xs. EachStep KeepsOut answers (map (kept_of state) xs) t u) es (subst (λ names. EachStep KeepsOut names (map (kept_of state) ended) t u) en kept);
  }

  pub unread : (read : List StreamLines) (sinks ended : List (ClientAnswers K)) (s t u : PlaceState) → rs ≡ requests → ns ≡ answers → ended ≡ sinks → ReadsAll left rs sources read s t → EachStep KeepsOut ns (map (kept_of state) ended) t u
      → AreUnplayed state requests answers sinks s u
  unread read sinks ended s t u er en es all kept = record {
    kept = all.0;
    mid = t;
    kept_in = subst (λ names. EachStep KeepsIn names all.0 s t) er all.2;
    kept_out = subst (λ xs. EachStep KeepsOut answers (map (kept_of state) xs) t u) es (subst (λ names. EachStep KeepsOut names (map (kept_of state) ended) t u) en kept);
  }

-- answers that are opened behind requests
pub answers_behind : (answers ns : List (List ℕ)) (s t u : PlaceState) → ns ≡ answers → IsSame s t → AnswersOpen ns t u → AnswersOpen answers s u
answers_behind answers ns s t u e same h = record {
  files = subst (λ names. Empties s.files names u.files) e (empties_behind s.files t.files u.files ns same.files h.files);
  left = λ name. h.left name ∙ same.left name;
  reads = h.reads ∙ same.reads;
  writes = h.writes ∙ same.writes;
  counts = λ name. h.counts name ∙ same.counts name;
}

-- nothing was opened
pub unopened : (requests answers : List (List ℕ)) (s : PlaceState) → SessionsStop requests answers s s stops.NoMemory
unopened requests answers s = (same_keeps s.files s.files answers (keeps s.files), other_kept s.files s.files answers (keeps s.files))
