-- A trial that came to its end.
use Rattle.std.proofs.Common.{◌≡◌, ◌≤◌, ◌+◌, ◌*◌, ℕ, List, [], Vec, Global, length, map, sym, ◌∙◌, ap, subst, arith}
use Rattle.op_model.specs.declared.base.Dataset.{Dataset}
use Rattle.histories.specs.Histories.{EntriesOwned}
use Rattle.histories.proofs.EachLog.{ids_stay, leaves_are_joined, roots_are_joined}
use Rattle.pcg_words.specs.declared.job.TrialJob.{TrialJob}
use Rattle.pcg_words.specs.Job.{IsTrial}
use Rattle.job_tables.specs.Inputs.{dataset_with}
use Rattle.rehearsal.proofs.Zips.{length_map}
use Rattle.session_results.specs.declared.playing.SessionsDone.{SessionsDone}
use Rattle.session_results.specs.Results.{refusal_count, reply_count}
use Rattle.trials.specs.declared.starting.Start.{Start}
use Rattle.trials.specs.Starts.{ArePlayed, IsStarted}
use Rattle.trials.specs.Trials.{IsTried, base_of, dataset_of, log_summary, streams_of}
use Rattle.trials.proofs.Beginnings.{streams_count}

-- the sessions of a trial's start are those over the made base and streams
pub played_over : (job : TrialJob) (s : Start) (done : SessionsDone) → IsStarted job s → ArePlayed s.dataset (base_of job) job.clock (map (λ v. v.items) s.streams.items) done
    → ArePlayed (dataset_of job) (base_of job) job.clock (streams_of job) done
played_over job s done h p =
    subst (λ ts. ArePlayed (dataset_of job) (base_of job) job.clock ts done) h.streams (subst (λ d. ArePlayed d (base_of job) job.clock (map (λ v. v.items) s.streams.items) done) h.dataset p)

pub is_tried : (job : TrialJob) (s : Start) (done : SessionsDone) (clients : ℕ) (text : List ℕ) → IsStarted job s → (p : ArePlayed (dataset_of job) (base_of job) job.clock (streams_of job) done)
    → clients ≡ job.clients → text ≡ log_summary (dataset_of job) (base_of job) p.log clients done.faults.items done.lines done.refused → IsTried job text
is_tried job s done clients text h p same e =
    let d = dataset_of job in
    let b = base_of job in
    record {
      fits = h.fits;
      log = p.log;
      results = p.results;
      legal = p.image.legal;
      owned = subst (λ n. EntriesOwned n p.log) (streams_count job) p.owned;
      clients = p.clients;
      roots = roots_are_joined d b p.log p.image.dataset p.image.base p.image.legal;
      leaves = leaves_are_joined d b p.log p.image.dataset p.image.base p.image.legal;
      ids = ids_stay d b p.log p.image.dataset p.image.base p.image.legal;
      play = p.play;
      text_so = e
          ∙ ap (λ n. log_summary d b p.log n done.faults.items done.lines done.refused) same
          ∙ ap (λ fs. log_summary d b p.log job.clients fs done.lines done.refused) p.faults_so
          ∙ ap (λ n. log_summary d b p.log job.clients [] n done.refused) p.lines
          ∙ ap (λ n. log_summary d b p.log job.clients [] (reply_count p.results) n) p.refused;
    }

-- the words have room for the capacity, and there are no more than 64 streams
pub room_of : (job : TrialJob) (s : Start) → IsStarted job s → 8 * s.dataset.capacity ≤ length s.words.words + s.words.spare
unfolding dataset_with
room_of job s h = subst (λ (d : Dataset). 8 * d.capacity ≤ length s.words.words + s.words.spare) (sym h.dataset) h.room

pub few_streams : (job : TrialJob) (s : Start) → IsTrial job → IsStarted job s → length s.streams.items ≤ 64
few_streams job s ok h =
    let items : Vec ℕ Global → List ℕ = λ v. v.items in
    let same = length_map items s.streams.items in
    let count = ap length h.streams ∙ streams_count job in
    let few = ok.clients.1 in
    omega (arith, same, count, few)
