-- Stops, told from an earlier state of a place.
use Rattle.std.proofs.Common.{ℕ, pred, List, length, take, Option, Some, None, ◌∙◌, subst}
use Rattle.std.specs.Prelude.{◌⊎◌}
use Rattle.pcg_base.specs.Causes.{Rose}
use Rattle.pcg_base.specs.States.{PlaceState}
use Rattle.pcg_base.specs.Told.{Counts, Files, KeepsFiles}
use Rattle.job_files.specs.Places.{ReadRose, WasOpened, WriteRose}
use Rattle.job_files.specs.Clients.{FrontWhole}
use Rattle.call_lines.specs.declared.stops.FileName.TheVariants as files
use Rattle.call_lines.specs.declared.stops.Stop.{Stop}
use Rattle.call_lines.specs.declared.stops.Stop.TheVariants as stops
use Rattle.rehearsal.specs.Outcomes.{AreEmptyOrSame, SessionsStop}
use Rattle.rehearsal.specs.Played.{IsBefore}
use Rattle.rehearsal.proofs.Emptied.{empties_behind, keeps_then, other_behind}

same_behind : (a b c : Option Files) (names : List (List ℕ)) → KeepsFiles a b → AreEmptyOrSame names b c → AreEmptyOrSame names a c
same_behind None b c names h k = tt
same_behind (Some m) b c names h k = subst (λ f. AreEmptyOrSame names f c) h k

was_opened : (a b : Option Files) (left : List ℕ → List ℕ) (name : List ℕ) → KeepsFiles a b → WasOpened b left name → WasOpened a left name
was_opened None b left name h k = tt
was_opened (Some m) b left name h k = subst (λ f. WasOpened f left name) h k

module _ (o s t : PlaceState) (before : IsBefore o s) where
  read_rose : (name : List ℕ) → ReadRose s t name → ReadRose o t name
  read_rose name h = record {
    place = subst (λ n. Rose n t.reads) before.reads h.place;
    here = subst (λ (x : Counts). Rose x.source_openings (t.counts name).source_openings ⊎ Rose x.source_faults (t.counts name).source_faults) (before.counts name) h.here;
  }

  write_rose : (name : List ℕ) → WriteRose s t name → WriteRose o t name
  write_rose name h = record {
    place = subst (λ n. Rose n t.writes) before.writes h.place;
    here = subst (λ (x : Counts). Rose x.sink_openings (t.counts name).sink_openings) (before.counts name) h.here;
  }

  front_whole : (count : ℕ) (names : List (List ℕ)) → FrontWhole count names s.files t.left → FrontWhole count names o.files t.left
  front_whole count names h = λ k name below e. was_opened o.files s.files t.left name before.files (h k name below e)

  pub stop_before : (requests answers : List (List ℕ)) (stop : Stop) → SessionsStop requests answers s t stop → SessionsStop requests answers o t stop
  stop_before requests answers (stops.ReadFault client files.Requests) h =
      (h.0, h.1, h.2, read_rose h.0 h.3, keeps_then o.files s.files t.files before.files h.4, h.5 ∙ before.writes, front_whole (pred client) requests h.6)
  stop_before requests answers (stops.ReadFault client files.Supervoxels) h = absurd h
  stop_before requests answers (stops.ReadFault client files.Edges) h = absurd h
  stop_before requests answers (stops.ReadFault client files.Schedule) h = absurd h
  stop_before requests answers (stops.ReadFault client files.Answers) h = absurd h
  stop_before requests answers (stops.WriteFault client files.Answers) h =
      (h.0, h.1, h.2, write_rose h.0 h.3, empties_behind o.files s.files t.files (take (pred client) answers) before.files h.4, h.5 ∙ before.reads, front_whole (length requests) requests h.6)
  stop_before requests answers (stops.WriteFault client files.Requests) h = absurd h
  stop_before requests answers (stops.WriteFault client files.Supervoxels) h = absurd h
  stop_before requests answers (stops.WriteFault client files.Edges) h = absurd h
  stop_before requests answers (stops.WriteFault client files.Schedule) h = absurd h
  stop_before requests answers stops.NoMemory h = (same_behind o.files s.files t.files answers before.files h.0, other_behind o.files s.files t.files answers before.files h.1)
  stop_before requests answers stops.BadWords h = absurd h
  stop_before requests answers (stops.TooLong client file) h = absurd h
  stop_before requests answers (stops.BadTable table row cause) h = absurd h
  stop_before requests answers (stops.BadSchedule word) h = absurd h
  stop_before requests answers (stops.IdsSpent layer x y z) h = absurd h
  stop_before requests answers (stops.TooSmall need given) h = absurd h
