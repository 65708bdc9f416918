-- Passes that are started and that look.
use Rattle.std.proofs.Common.{◌≡◌, ℕ, List, [], length, refl, ◌∙◌, ap, subst, sym}
use Rattle.std.specs.Prelude.{All, slice_index_or}
use Rattle.std.proofs.lemmas.Option.{slice_get-get_or}
use Rattle.op_model.specs.declared.base.Dataset.{Dataset}
use Rattle.op_model.specs.declared.base.Base.{Base}
use Rattle.op_model.specs.Ingest.{ingested}
use Rattle.record_rows.specs.Readings.{Image}
use Rattle.record_rows.specs.LogRows.{rows_of}
use Rattle.record_rows.proofs.TellLemmas.{length-words_of}
use Rattle.shared_rows.specs.declared.view.View.{View}
use Rattle.shared_rows.specs.Origin.{Origin, origin}
use Rattle.shared_rows.specs.Known.{Known, Place, known}
use Rattle.shared_rows.specs.Plays.{Later, without_turn}
use Rattle.shared_rows.specs.Starts.{Opens, Starts}
use Rattle.root_locks.specs.Masks.{WithLeft}
use Rattle.bench_shared.specs.Passes.{IsFree}

pub all_free : (a : Origin) (clients : ℕ) (s : Place) (ps : List Known) → Starts a clients s ps → All (IsFree s) ps
all_free a clients s ps h = λ k d low.
    let b = h.begins k (slice_index_or ps k d) (slice_get-get_or ps k d low) in
    record {
      table_is = b.0;
      idle = record { held = ap (λ (u : View). u.held) b.1.1; has_turn = ap (λ (u : View). u.turn) b.1.1; draft = ap (λ (u : View). u.draft) b.1.1 };
    }

pub free_looked : (s : Place) (p q : Known) → IsFree s p → q.table ≡ p.table → Later p.view p.view q.view → IsFree s q
free_looked s p q e table later = record {
  table_is = table ∙ e.table_is;
  idle = record {
    held = ap (λ (u : View). u.held) later.is ∙ e.idle.held;
    has_turn = ap (λ (u : View). u.turn) later.is ∙ e.idle.has_turn;
    draft = ap (λ (u : View). u.draft) later.is ∙ e.idle.draft;
  };
}

pub free_same : (s : Place) (p q : Known) → q ≡ p → IsFree s p → IsFree s q
free_same s p q e h = subst (IsFree s) (sym e) h

-- it gives the turn and the locks back
pub free_left : (s : Place) (p a g u : Known) → IsFree s p → a.table ≡ p.table → a.view.draft ≡ [] → g ≡ known a.table (without_turn a.view) → u.table ≡ g.table → WithLeft g.view [] u.view → IsFree s u
free_left s p a g u e came clean given table left =
    let view : g.view ≡ without_turn a.view = ap (λ (k : Known). k.view) given in record {
      table_is = table ∙ ap (λ (k : Known). k.table) given ∙ came ∙ e.table_is;
      idle = record {
        held = ap (λ (x : View). x.held) left.is;
        has_turn = ap (λ (x : View). x.turn) left.is ∙ ap (λ (x : View). x.turn) view;
        draft = ap (λ (x : View). x.draft) left.is ∙ ap (λ (x : View). x.draft) view ∙ clean;
      };
    }

-- what the table is told of a base
abbrev pub told_of : Dataset → Base → List ℕ → Origin
told_of d b words = origin d b (ingested d b 1) words (length (rows_of d b (ingested d b 1)))

pub told_opens : (d : Dataset) (b : Base) (words : List ℕ) → Image d b (ingested d b 1) words → Opens (told_of d b words)
told_opens d b words i = record { stands = i; first = refl; tail_is = ap (λ (ws : List ℕ). length ws) i.stands ∙ length-words_of (rows_of d b (ingested d b 1)) }
