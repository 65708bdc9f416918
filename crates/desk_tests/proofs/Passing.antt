-- Passes that are started.
use Rattle.std.proofs.Common.{◌≡◌, ℕ, List, [], length, refl, ap, ◌∙◌}
use Rattle.std.specs.Prelude.{All, slice_index_or}
use Rattle.std.proofs.lemmas.Option.{slice_get-get_or}
use Rattle.op_model.specs.declared.base.Dataset.{Dataset}
use Rattle.op_model.specs.declared.base.Base.{Base}
use Rattle.op_model.specs.Ingest.{ingested}
use Rattle.record_rows.specs.Readings.{Image}
use Rattle.record_rows.specs.LogRows.{rows_of}
use Rattle.record_rows.proofs.TellLemmas.{length-words_of}
use Rattle.shared_rows.specs.declared.view.View.{View}
use Rattle.shared_rows.specs.Origin.{Origin, origin}
use Rattle.shared_rows.specs.Known.{Known, Place}
use Rattle.shared_rows.specs.Starts.{Opens, Starts}
use Rattle.edit_desk.specs.Desk.{IsReady}

pub all_ready : (a : Origin) (d : Dataset) (clients : ℕ) (s : Place) (ps : List Known) → a.dataset ≡ d → Starts a clients s ps → All (IsReady s d) ps
all_ready a d clients s ps e h = λ k x low.
    let b = h.begins k (slice_index_or ps k x) (slice_get-get_or ps k x low) in
    record {
      table_is = b.0;
      dataset_is = ap (λ (u : View). u.dataset) b.1.1 ∙ e;
      idle = record { held = ap (λ (u : View). u.held) b.1.1; has_turn = ap (λ (u : View). u.turn) b.1.1; draft = ap (λ (u : View). u.draft) b.1.1 };
    }

-- what the table is told of a base
abbrev pub told_of : Dataset → Base → List ℕ → Origin
told_of d b words = origin d b (ingested d b 1) words (length (rows_of d b (ingested d b 1)))

pub told_opens : (d : Dataset) (b : Base) (words : List ℕ) → Image d b (ingested d b 1) words → Opens (told_of d b words)
told_opens d b words i = record { stands = i; first = refl; tail_is = ap (λ (ws : List ℕ). length ws) i.stands ∙ length-words_of (rows_of d b (ingested d b 1)) }
