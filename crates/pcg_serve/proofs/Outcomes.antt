-- What a call's outcome tells, by the mode of its job.
use Rattle.std.proofs.Common.{◌≡◌, Option, Some, None, refl, sym, ◌∙◌, ap, subst, inl, inr}
use Rattle.std.specs.Prelude.{◌⊎◌}
use Rattle.pcg_base.specs.Causes.{Rose}
use Rattle.pcg_base.specs.States.{PlaceState, SinkState}
use Rattle.pcg_words.specs.declared.job.Job.{Job}
use Rattle.pcg_words.specs.declared.job.Job.TheVariants as job
use Rattle.pcg_words.specs.declared.job.MakeJob.{MakeJob}
use Rattle.pcg_words.specs.declared.job.RehearseJob.{RehearseJob}
use Rattle.pcg_words.specs.declared.job.TrialJob.{TrialJob}
use Rattle.call_lines.specs.declared.status.Status.{Status}
use Rattle.call_lines.specs.declared.status.Status.TheVariants as statuses
use Rattle.call_lines.specs.declared.stops.Stop.{Stop}
use Rattle.call_lines.specs.declared.stops.Stop.TheVariants as stops
use Rattle.call_lines.specs.Statuses.{status_of}
use Rattle.hierarchy_build.specs.declared.errors.BuildError.TheVariants as builds
use Rattle.job_files.specs.Kept.{KeepsOther}
use Rattle.job_files.proofs.Counting.{files_keep}
use Rattle.made_files.specs.Files.{files_of}
use Rattle.made_files.specs.Writing.{KeepsBut}
use Rattle.rehearsal.specs.Between.{Between}
use Rattle.rehearsal.specs.Exact.{IsQuiet}
use Rattle.rehearsal.specs.Outcomes.{Outcome, answers_of}
use Rattle.rehearsal.proofs.Dues.{due}
use Rattle.rehearsal.proofs.Exact.{complete, is_done, is_faultless, tells}
use Rattle.trials.specs.Trials.{HasFullTrial, IsTrialDone, TrialOutcome, TrialStop, TrialTells}
use Rattle.pcg_serve.specs.Calls.{IsFaultless, IsJobDone, IsJobDue, IsJobFine, JobOutcome, JobTells, KeepsJobOthers, WordsLost}
use Rattle.pcg_serve.specs.Making.{IsMade, MakeOutcome}
use Rattle.pcg_serve.proofs.Made.{stop_known, stop_rose}

not_both : {A : Type 0} (n a b : Status) → n ≡ a → n ≡ b → (a ≡ b → ⊥) → A
not_both n a b e f d = absurd (d (sym e ∙ f))

-- a trial stops for want of memory, or for its base
stop_of_trial : (found : TrialJob) (stop : Stop) → TrialStop found stop → (status_of stop ≡ statuses.NoMemory) ⊎ ((status_of stop ≡ statuses.Full) × HasFullTrial found)
stop_of_trial found stops.BadWords h = absurd h
stop_of_trial found (stops.ReadFault client file) h = absurd h
stop_of_trial found (stops.WriteFault client file) h = absurd h
stop_of_trial found (stops.TooLong client file) h = absurd h
stop_of_trial found (stops.BadTable table row cause) h = absurd h
stop_of_trial found (stops.BadSchedule word) h = absurd h
stop_of_trial found (stops.IdsSpent layer x y z) h = inr (refl, (builds.IdsSpent layer x y z, h))
stop_of_trial found (stops.TooSmall need given) h = inr (refl, (builds.TooSmall need given, h))
stop_of_trial found stops.NoMemory h = inl refl

module _ (place : Between PlaceState) (out : Between SinkState) (status : Status) where
  lost : {A : Type 0} → WordsLost place out status → status ≡ statuses.Done → A
  lost w z = not_both status statuses.NoMemory statuses.Done w.1 z (λ e. cc)

  -- all files were made, and the line about them was printed
  made_done : (found : MakeJob) → (place.new.reads ≡ place.old.reads) × MakeOutcome found place out status → status ≡ statuses.Done → IsMade found place out × IsFaultless place out
  made_done found (r, inl h) z = elim h.2 [
    | inl p ↦ ((h.0, p.0), (r, h.1, p.1))
    | inr p ↦ not_both status statuses.WriteFault statuses.Done p.2 z (λ e. cc)
  ]
  made_done found (r, inr h) z = elim (stop_known h.0) [
    | inl k ↦ not_both status statuses.WriteFault statuses.Done (h.3 ∙ k) z (λ e. cc)
    | inr k ↦ not_both status statuses.NoMemory statuses.Done (h.3 ∙ k) z (λ e. cc)
  ]

  made_tells : (found : MakeJob) → MakeOutcome found place out status → (status ≡ statuses.Done) ⊎ (status ≡ statuses.NoMemory) ⊎ ((status ≡ statuses.WriteFault) × (Rose place.old.writes place.new.writes ⊎ Rose out.old.faults out.new.faults))
  made_tells found (inl h) = elim h.2 [
    | inl p ↦ inl p.2
    | inr p ↦ inr (inr (p.2, inr p.1))
  ]
  made_tells found (inr h) = elim (stop_known h.0) [
    | inl k ↦ (let four = h.3 ∙ k in inr (inr (four, inl (stop_rose found place.old place.new h.0 status h.3 h.2 four))))
    | inr k ↦ inr (inl (h.3 ∙ k))
  ]

  -- the summary of a trial was printed
  trial_done : (found : TrialJob) → (place.new ≡ place.old) × TrialOutcome found out status → status ≡ statuses.Done → ((place.new ≡ place.old) × IsTrialDone found out) × IsFaultless place out
  trial_done found (same, inl h) z = elim (stop_of_trial found h.0 h.2) [
    | inl k ↦ not_both status statuses.NoMemory statuses.Done (h.1 ∙ k) z (λ e. cc)
    | inr k ↦ not_both status statuses.Full statuses.Done (h.1 ∙ k.0) z (λ e. cc)
  ]
  trial_done found (same, inr h) z = elim h.2 [
    | inl p ↦ ((same, (h.0, h.1, p.0)), (ap (λ (x : PlaceState). x.reads) same, ap (λ (x : PlaceState). x.writes) same, p.1))
    | inr p ↦ not_both status statuses.WriteFault statuses.Done p.2 z (λ e. cc)
  ]

  trial_tells : (found : TrialJob) → TrialOutcome found out status → TrialTells found out status
  trial_tells found (inl h) = elim (stop_of_trial found h.0 h.2) [
    | inl k ↦ inr (inl (h.1 ∙ k))
    | inr k ↦ inr (inr (inr (h.1 ∙ k.0, k.1)))
  ]
  trial_tells found (inr h) = elim h.2 [
    | inl p ↦ inl p.2
    | inr p ↦ inr (inr (inl (p.2, p.1)))
  ]

  -- a summary is printed just where the base has its records
  trial_due : (found : TrialJob) → TrialOutcome found out status → (s : Status) → (s ≡ statuses.Full) × HasFullTrial found → (status ≡ s) ⊎ (status ≡ statuses.ReadFault) ⊎ (status ≡ statuses.NoMemory)
  trial_due found (inl h) s d = elim (stop_of_trial found h.0 h.2) [
    | inl k ↦ inr (inr (h.1 ∙ k))
    | inr k ↦ inl (h.1 ∙ k.0 ∙ sym d.0)
  ]
  trial_due found (inr h) s d = absurd (h.1.fits d.1.0 d.1.1)

  pub job_done : (j : Option Job) → JobOutcome j place out status → status ≡ statuses.Done → IsJobDone j place out
  job_done None (inl h) z = not_both status statuses.BadWords statuses.Done h.1 z (λ e. cc)
  job_done None (inr h) z = lost h z
  job_done (Some (job.Rehearse found)) (inl h) z = is_done found place out status h z
  job_done (Some (job.Rehearse found)) (inr h) z = lost h z
  job_done (Some (job.Make found)) (inl h) z = (made_done found h z).0
  job_done (Some (job.Make found)) (inr h) z = lost h z
  job_done (Some (job.Trial found)) (inl h) z = (trial_done found h z).0
  job_done (Some (job.Trial found)) (inr h) z = lost h z

  pub job_faultless : (j : Option Job) → JobOutcome j place out status → status ≡ statuses.Done → IsFaultless place out
  job_faultless None (inl h) z = not_both status statuses.BadWords statuses.Done h.1 z (λ e. cc)
  job_faultless None (inr h) z = lost h z
  job_faultless (Some (job.Rehearse found)) (inl h) z = is_faultless found place out status h z
  job_faultless (Some (job.Rehearse found)) (inr h) z = lost h z
  job_faultless (Some (job.Make found)) (inl h) z = (made_done found h z).1
  job_faultless (Some (job.Make found)) (inr h) z = lost h z
  job_faultless (Some (job.Trial found)) (inl h) z = (trial_done found h z).1
  job_faultless (Some (job.Trial found)) (inr h) z = lost h z

  pub job_tells : (j : Option Job) → JobOutcome j place out status → JobTells j place out status
  job_tells None (inl h) = inl h.1
  job_tells None (inr h) = inr h.1
  job_tells (Some (job.Rehearse found)) (inl h) = tells found place out status h
  job_tells (Some (job.Rehearse found)) (inr h) = inr (inl h.1)
  job_tells (Some (job.Make found)) (inl h) = made_tells found h.1
  job_tells (Some (job.Make found)) (inr h) = inr (inl h.1)
  job_tells (Some (job.Trial found)) (inl h) = trial_tells found h.1
  job_tells (Some (job.Trial found)) (inr h) = inr (inl h.1)

  pub job_due : (j : Option Job) → JobOutcome j place out status → (s : Status) → IsJobDue place.old.files j s → (status ≡ s) ⊎ (status ≡ statuses.ReadFault) ⊎ (status ≡ statuses.NoMemory)
  job_due None h s d = absurd d
  job_due (Some (job.Rehearse found)) (inl h) s d = due found place out status h s d
  job_due (Some (job.Rehearse found)) (inr h) s d = inr (inr h.1)
  job_due (Some (job.Make found)) h s d = absurd d
  job_due (Some (job.Trial found)) (inl h) s d = trial_due found h.1 s d
  job_due (Some (job.Trial found)) (inr h) s d = inr (inr h.1)

  pub job_complete : (j : Option Job) → JobOutcome j place out status → IsQuiet place out → IsJobFine place.old.files j → (status ≡ statuses.Done) ⊎ (status ≡ statuses.NoMemory)
  job_complete None h q f = absurd f
  job_complete (Some (job.Rehearse found)) (inl h) q f = complete found place out status h q f
  job_complete (Some (job.Rehearse found)) (inr h) q f = inr h.1
  job_complete (Some (job.Make found)) (inl h) q f = quiet (made_tells found h.1)
    where
      quiet : (status ≡ statuses.Done) ⊎ (status ≡ statuses.NoMemory) ⊎ ((status ≡ statuses.WriteFault) × (Rose place.old.writes place.new.writes ⊎ Rose out.old.faults out.new.faults)) → (status ≡ statuses.Done) ⊎ (status ≡ statuses.NoMemory)
      quiet (inl z) = inl z
      quiet (inr (inl n)) = inr n
      quiet (inr (inr (four, inl r))) = absurd (q.1 r)
      quiet (inr (inr (four, inr r))) = absurd (q.2 r)
  job_complete (Some (job.Make found)) (inr h) q f = inr h.1
  job_complete (Some (job.Trial found)) (inl h) q f = quiet (trial_tells found h.1)
    where
      quiet : TrialTells found out status → (status ≡ statuses.Done) ⊎ (status ≡ statuses.NoMemory)
      quiet (inl z) = inl z
      quiet (inr (inl n)) = inr n
      quiet (inr (inr (inl r))) = absurd (q.2 r.1)
      quiet (inr (inr (inr full))) = absurd (f full.1)
  job_complete (Some (job.Trial found)) (inr h) q f = inr h.1

-- the same of a job whose mode is known
pub rehearsed_outcome : (j : Job) (found : RehearseJob) (place : Between PlaceState) (out : Between SinkState) (status : Status) → j ≡ job.Rehearse found → Outcome found place out status
    → JobOutcome (Some j) place out status
rehearsed_outcome j found place out status e h = subst (λ (x : Job). JobOutcome (Some x) place out status) (sym e) (inl h)

pub made_outcome : (j : Job) (found : MakeJob) (place : Between PlaceState) (out : Between SinkState) (status : Status) → j ≡ job.Make found → place.new.reads ≡ place.old.reads
    → MakeOutcome found place out status → JobOutcome (Some j) place out status
made_outcome j found place out status e r h = subst (λ (x : Job). JobOutcome (Some x) place out status) (sym e) (inl (r, h))

pub trial_outcome : (j : Job) (found : TrialJob) (place : PlaceState) (out : Between SinkState) (status : Status) → j ≡ job.Trial found → TrialOutcome found out status
    → JobOutcome (Some j) (record { old = place; new = place }) out status
trial_outcome j found place out status e h = subst (λ (x : Job). JobOutcome (Some x) (record { old = place; new = place }) out status) (sym e) (inl (refl, h))

pub rehearsed_others : (j : Job) (found : RehearseJob) (place : Between PlaceState) → j ≡ job.Rehearse found → KeepsOther place.old.files (answers_of found) place.new.files → KeepsJobOthers (Some j) place
rehearsed_others j found place e h = subst (λ (x : Job). KeepsJobOthers (Some x) place) (sym e) h

pub made_others : (j : Job) (found : MakeJob) (place : Between PlaceState) → j ≡ job.Make found → KeepsBut (files_of found) place.old.files place.new.files → KeepsJobOthers (Some j) place
made_others j found place e h = subst (λ (x : Job). KeepsJobOthers (Some x) place) (sym e) h

pub trial_others : (j : Job) (found : TrialJob) (place : PlaceState) → j ≡ job.Trial found → KeepsJobOthers (Some j) (record { old = place; new = place })
trial_others j found place e = subst (λ (x : Job). KeepsJobOthers (Some x) (record { old = place; new = place })) (sym e) (files_keep place.files)
