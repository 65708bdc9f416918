-- A call that came past its sessions.
use Rattle.std.proofs.Common.{◌≡◌, ℕ, ◌-◌, List, ◌++◌, length, bytes_eq, false, ◌∙◌, ap, inr}
use Rattle.std.specs.List.{list_any}
use Rattle.op_model.specs.Records.{records}
use Rattle.histories.specs.Histories.{live_roots}
use Rattle.histories.proofs.EachLog.{ids_stay, leaves_are_joined, roots_are_joined}
use Rattle.pcg_base.specs.States.{PlaceState, SinkState}
use Rattle.pcg_words.specs.declared.job.RehearseJob.{RehearseJob}
use Rattle.pcg_words.specs.Job.{IsRehearse}
use Rattle.call_lines.specs.declared.status.Status.{Status}
use Rattle.call_lines.specs.Statuses.{code}
use Rattle.call_lines.specs.Texts.{summary_line}
use Rattle.call_lines.specs.declared.stops.Stop.{Stop}
use Rattle.log_lines.specs.LogTexts.{log_text}
use Rattle.job_tables.specs.declared.tables.JobBase.{JobBase}
use Rattle.job_tables.specs.Inputs.{IsRead, dataset_of}
use Rattle.job_tables.specs.Stops.{AllRead}
use Rattle.session_results.specs.declared.playing.SessionsDone.{SessionsDone}
use Rattle.session_results.specs.Results.{faults_from, reply_count, status_for}
use Rattle.rehearsal.specs.Between.{Between}
use Rattle.rehearsal.specs.Outcomes.{CamePast, ClientsStop, Outcome, Printed, StopCause, answers_of, requests_of}
use Rattle.rehearsal.specs.Played.{IsBefore}
use Rattle.rehearsal.specs.Printing.{whole_text}
use Rattle.rehearsal.specs.Served.{AreServed, IsServed}
use Rattle.rehearsal.proofs.Before.{stop_before}
use Rattle.rehearsal.proofs.Left.{all_read}

module _ (job : RehearseJob) (old new : PlaceState) (done : SessionsDone) (q : IsServed job old new done) where
  abbrev text : List ℕ
  text = whole_text (dataset_of job) q.base q.served.log (length job.stems) done.faults.items done.lines done.refused

  pub came_past : CamePast job old new (whole_text (dataset_of job) q.base q.served.log (length job.stems) done.faults.items done.lines done.refused) (status_for done.faults.items)
  came_past =
      let s = q.served in
      let n = length s.log in
      let r = records (dataset_of job) q.base s.log in
      let l = length (live_roots s.log) in
      record {
        base = q.base;
        has_base = q.has_base;
        fits = q.fits;
        schedule = q.schedule;
        has_schedule = q.has_schedule;
        read = q.read;
        log = s.log;
        results = s.results;
        history = record {
          legal = s.image.legal;
          owned = s.owned;
          clients = s.clients;
          reads = s.reads;
          writes = s.writes;
          roots = roots_are_joined (dataset_of job) q.base s.log s.image.dataset s.image.base s.image.legal;
          leaves = leaves_are_joined (dataset_of job) q.base s.log s.image.dataset s.image.base s.image.legal;
          ids = ids_stay (dataset_of job) q.base s.log s.image.dataset s.image.base s.image.legal;
          status = ap status_for s.faults_so;
          text_so = ap (λ t. log_text s.log ++ t)
              (ap (λ fs. summary_line (n - 1) (length job.stems) n fs done.lines r done.refused l (code (status_for done.faults.items))) s.faults_so
              ∙ ap (λ k. summary_line (n - 1) (length job.stems) n (faults_from 1 s.results) k r done.refused l (code (status_for done.faults.items))) s.lines
              ∙ ap (λ k. summary_line (n - 1) (length job.stems) n (faults_from 1 s.results) (reply_count s.results) r k l (code (status_for done.faults.items))) s.refused);
        };
        play = s.play;
      }

  pub came_out : (out : Between SinkState) (status : Status)
      → Printed out.old out.new (whole_text (dataset_of job) q.base q.served.log (length job.stems) done.faults.items done.lines done.refused) (status_for done.faults.items) status
      → Outcome job (record { old = old; new = new }) out status
  came_out out status p = inr (_, _, came_past, p)

-- the sessions didn't begin, told from the call's start
pub sessions_stop : (job : RehearseJob) → IsRehearse job → (o s t : PlaceState) (input : JobBase) (stop : Stop) → IsBefore o s → IsRead o.files job input → AllRead o.files s.left job → ClientsStop job s t stop
    → ((n : List ℕ) → list_any (bytes_eq n) (requests_of job) ≡ false → t.left n ≡ s.left n) → StopCause job o t stop
sessions_stop job ok o s t input stop before read all h away =
    inr (
      (read.base, read.has_base, read.fits, input.schedule.items, read.schedule),
      all_read job ok o.files s.left t.left all away,
      stop_before o s t before (requests_of job) (answers_of job) stop h,
    )

-- they did
pub is_served : (job : RehearseJob) → IsRehearse job → (o s t : PlaceState) (input : JobBase) (done : SessionsDone) → IsBefore o s → (read : IsRead o.files job input) → AllRead o.files s.left job
    → AreServed (dataset_of job) read.base job.clock input.schedule.items job.stems o t done → ((n : List ℕ) → list_any (bytes_eq n) (requests_of job) ≡ false → t.left n ≡ s.left n) → IsServed job o t done
is_served job ok o s t input done before read all h away = record {
  base = read.base;
  has_base = read.has_base;
  fits = read.fits;
  schedule = input.schedule.items;
  has_schedule = read.schedule;
  read = all_read job ok o.files s.left t.left all away;
  served = h;
}
