-- What a trial begins with.
use Rattle.std.proofs.Common.{◌≡◌, ◌≤◌, ◌+◌, ◌*◌, ℕ, zero, suc, List, [], ◌∷◌, ◌++◌, length, map, refl, sym, ◌∙◌, ap, subst, arith, length-append}
use Rattle.op_model.specs.declared.base.Dataset.{Dataset}
use Rattle.op_model.specs.declared.base.Base.{Base}
use Rattle.op_model.specs.Ingest.{ingested}
use Rattle.record_rows.specs.Readings.{Image}
use Rattle.hierarchy_build.specs.declared.errors.BuildError.{BuildError}
use Rattle.hierarchy_build.specs.declared.errors.BuildError.TheVariants as builds
use Rattle.hierarchy_build.specs.Built.{IsFull}
use Rattle.made_input.specs.declared.wish.Wish.{Wish}
use Rattle.made_input.specs.Texts.{input_of, stream_of, streams_of as made_streams}
use Rattle.made_bases.specs.Laws.{base_made}
use Rattle.pcg_words.specs.declared.job.TrialJob.{TrialJob}
use Rattle.call_lines.specs.declared.stops.Stop.{Stop}
use Rattle.call_lines.specs.declared.stops.Stop.TheVariants as stops
use Rattle.job_tables.specs.Inputs.{clock_time, dataset_with}
use Rattle.job_tables.specs.Made.{StopsForRecords}
use Rattle.trials.specs.declared.starting.Start.{Start}
use Rattle.trials.specs.Starts.{IsStarted}
use Rattle.trials.specs.Trials.{TrialStop, base_of, dataset_of, streams_of, wish_of}

-- the dataset has the layout and the grid of the wish
pub same_layout : (job : TrialJob) (w : Wish) (d : Dataset) → w ≡ wish_of job → d ≡ dataset_of job → d.layout ≡ w.layout
unfolding wish_of dataset_with
same_layout job w d e f = ap (λ (x : Dataset). x.layout) f ∙ sym (ap (λ (x : Wish). x.layout) e)

pub same_grid : (job : TrialJob) (w : Wish) (d : Dataset) → w ≡ wish_of job → d ≡ dataset_of job → d.grid ≡ w.grid
unfolding wish_of dataset_with
same_grid job w d e f = ap (λ (x : Dataset). x.grid) f ∙ sym (ap (λ (x : Wish). x.grid) e)

module _ (job : TrialJob) (w : Wish) (d : Dataset) (b : Base) (ew : w ≡ wish_of job) (ed : d ≡ dataset_of job) (eb : b ≡ base_made w) where
  abbrev same_base : b ≡ base_of job
  same_base = eb ∙ ap base_made ew

  pub started : (s : Start) → s.dataset ≡ d → map (λ v. v.items) s.streams.items ≡ (input_of w).streams → Image d b (ingested d b (clock_time job.clock 0)) s.words.words
      → 8 * d.capacity ≤ length s.words.words + s.words.spare → ((e : BuildError) → IsFull d b e → ⊥) → IsStarted job s
  unfolding dataset_with
  started s es streams image room fits = record {
    fits = λ e h. fits e (subst (λ x. IsFull x b e) (sym ed) (subst (λ x. IsFull (dataset_of job) x e) (sym same_base) h));
    dataset = es ∙ ed;
    image = subst (λ x. Image (dataset_of job) x (ingested (dataset_of job) x (clock_time job.clock 0)) s.words.words) same_base
        (subst (λ x. Image x b (ingested x b (clock_time job.clock 0)) s.words.words) ed image);
    room = subst (λ (x : Dataset). 8 * x.capacity ≤ length s.words.words + s.words.spare) ed room;
    streams = streams ∙ ap (λ v. (input_of v).streams) ew;
  }

  full : (e : BuildError) → IsFull d b e → IsFull (dataset_of job) (base_of job) e
  full e h = subst (λ v. IsFull (dataset_of job) v e) same_base (subst (λ v. IsFull v b e) ed h)

  pub stopped : (stop : Stop) → StopsForRecords (IsFull d b) stop → TrialStop job stop
  stopped (stops.IdsSpent layer x y z) h = full (builds.IdsSpent layer x y z) h
  stopped (stops.TooSmall need given) h = full (builds.TooSmall need given) h
  stopped stops.NoMemory h = tt
  stopped stops.BadWords h = absurd h
  stopped (stops.ReadFault client file) h = absurd h
  stopped (stops.WriteFault client file) h = absurd h
  stopped (stops.TooLong client file) h = absurd h
  stopped (stops.BadTable table row cause) h = absurd h
  stopped (stops.BadSchedule word) h = absurd h

-- how many streams are made
streams_made : (w : Wish) (n : ℕ) → length (made_streams w n).0 ≡ n
unfolding made_streams
streams_made w zero = refl
streams_made w (suc n) = length-append (made_streams w n).0 ((stream_of w (made_streams w n).1 w.requests).0 ∷ []) ∙ omega (arith, streams_made w n)

pub streams_count : (job : TrialJob) → length (streams_of job) ≡ job.clients
unfolding input_of wish_of
streams_count job = streams_made (wish_of job) job.clients
