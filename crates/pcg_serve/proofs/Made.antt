-- Why files weren't made, and what is told of it.
use Rattle.std.proofs.Common.{◌≡◌, ◌∙◌, refl, sym, ap, inl, inr}
use Rattle.std.specs.Prelude.{◌⊎◌}
use Rattle.pcg_base.specs.States.{PlaceState}
use Rattle.pcg_base.specs.Causes.{Rose}
use Rattle.pcg_words.specs.declared.job.MakeJob.{MakeJob}
use Rattle.made_files.specs.Files.{StopsSo}
use Rattle.made_files.specs.declared.stops.MadeFile.TheVariants as made
use Rattle.made_files.specs.declared.stops.MakeStop.{MakeStop}
use Rattle.made_files.specs.declared.stops.MakeStop.TheVariants as makes
use Rattle.call_lines.specs.declared.status.Status.{Status}
use Rattle.call_lines.specs.declared.status.Status.TheVariants as statuses
use Rattle.call_lines.specs.declared.stops.Stop.{Stop}
use Rattle.pcg_serve.specs.Making.{stop_of}
use Rattle.call_lines.specs.Statuses.{status_of}

pub stop_known : (stop : MakeStop) → (status_of (stop_of stop) ≡ statuses.WriteFault) ⊎ (status_of (stop_of stop) ≡ statuses.NoMemory)
stop_known (makes.Failed made.Supervoxels) = inl refl
stop_known (makes.Failed made.Edges) = inl refl
stop_known (makes.Failed (made.Requests client)) = inl refl
stop_known makes.NoMemory = inr refl

pub stop_rose : (job : MakeJob) (a b : PlaceState) (stop : MakeStop) (status : Status) → status ≡ status_of (stop_of stop) → StopsSo job a b stop → status ≡ statuses.WriteFault → Rose a.writes b.writes
stop_rose job a b (makes.Failed file) status e h four = h.1
stop_rose job a b makes.NoMemory status e h four = absurd (apart (sym e ∙ four))
  where
    apart : statuses.NoMemory ≡ statuses.WriteFault → ⊥
    apart x = cc

not_done : statuses.WriteFault ≡ statuses.Done → ⊥
not_done x = cc

lost_done : statuses.NoMemory ≡ statuses.Done → ⊥
lost_done x = cc

pub never_done : {A : Type 0} (stop : MakeStop) (told : Stop) (status : Status) → told ≡ stop_of stop → status ≡ status_of told → status ≡ statuses.Done → A
never_done {A = A} stop told status t e zero = go (stop_known stop)
  where
    go : (status_of (stop_of stop) ≡ statuses.WriteFault) ⊎ (status_of (stop_of stop) ≡ statuses.NoMemory) → A
    go (inl k) =
        let four : status ≡ statuses.WriteFault = e ∙ ap status_of t ∙ k in
        absurd (not_done (sym four ∙ zero))
    go (inr k) =
        let five : status ≡ statuses.NoMemory = e ∙ ap status_of t ∙ k in
        absurd (lost_done (sym five ∙ zero))
