-- The pass that publishes comes to its turn.
use Rattle.std.proofs.Common.{◌≡◌, ℕ, ◌≤◌, List, [], ◌∷◌, ◌++◌, length, true, refl, ◌∙◌, ap, sym, arith}
use Rattle.std.proofs.lemmas.List.{length-append}
use Rattle.op_model.specs.declared.entry.Entry.{Entry}
use Rattle.op_model.specs.Samples.{base}
use Rattle.shared_rows.specs.declared.view.View.{View}
use Rattle.shared_rows.specs.Origin.{Origin}
use Rattle.shared_rows.specs.Known.{Known, Place, known}
use Rattle.shared_rows.specs.Plays.{Later, pinning, with_turn, without_turn}
use Rattle.shared_rows.specs.Starts.{begun_view}
use Rattle.root_locks.specs.Masks.{WithLeft, WithLosses, has_bit, locks_below}
use Rattle.thread_tests.specs.Samples.{data_small, first_log, first_words, told}
use Rattle.thread_tests.specs.Ending.{Ends, IsBegun}
use Rattle.thread_tests.specs.Turns.{IsReady}
use Rattle.thread_tests.proofs.SampleLogs.{first_only}

module _ (v w x y z : View) (number permits : ℕ) (begun : v ≡ begun_view told number permits) (one : v.number ≡ 1) (locked : WithLosses v (locks_below 6 64) w)
    (pinned : Later w (pinning w) x) (turn : y ≡ with_turn x) (looked : Later y y z) (short : length z.log ≡ 1) where
  dataset_is : z.dataset ≡ data_small
  dataset_is = ap (λ (u : View). u.dataset) looked.is ∙ ap (λ (u : View). u.dataset) turn ∙ ap (λ (u : View). u.dataset) pinned.is ∙ ap (λ (u : View). u.dataset) locked.is ∙ ap (λ (u : View). u.dataset) begun

  base_is : z.base ≡ base
  base_is = ap (λ (u : View). u.base) looked.is ∙ ap (λ (u : View). u.base) turn ∙ ap (λ (u : View). u.base) pinned.is ∙ ap (λ (u : View). u.base) locked.is ∙ ap (λ (u : View). u.base) begun

  number_is : z.number ≡ 1
  number_is = ap (λ (u : View). u.number) looked.is ∙ ap (λ (u : View). u.number) turn ∙ ap (λ (u : View). u.number) pinned.is ∙ ap (λ (u : View). u.number) locked.is ∙ one

  pinned_is : z.pinned ≡ 2 ∷ 1 ∷ []
  unfolding locks_below has_bit
  pinned_is = ap (λ (u : View). u.pinned) looked.is ∙ ap (λ (u : View). u.pinned) turn ∙ ap (λ (u : View). u.pinned) pinned.is ∙ ap (λ (u : View). u.held) locked.is

  fresh_is : z.fresh ≡ true
  fresh_is = ap (λ (u : View). u.fresh) looked.is ∙ ap (λ (u : View). u.turn) turn

  draft_is : z.draft ≡ []
  draft_is = ap (λ (u : View). u.draft) looked.is ∙ ap (λ (u : View). u.draft) turn ∙ ap (λ (u : View). u.draft) pinned.is ∙ ap (λ (u : View). u.draft) locked.is ∙ ap (λ (u : View). u.draft) begun

  -- the log that the pass saw as it locked
  log_first : w.log ≡ first_log
  log_first = ap (λ (u : View). u.log) locked.is ∙ ap (λ (u : View). u.log) begun

  log_pinned : y.log ≡ pinned.follows.newer ++ first_log
  log_pinned = ap (λ (u : View). u.log) turn ∙ ap (λ (u : View). u.log) pinned.is ∙ pinned.follows.is ∙ ap (λ (l : List Entry). pinned.follows.newer ++ l) log_first

  log_looked : z.log ≡ looked.follows.newer ++ (pinned.follows.newer ++ first_log)
  log_looked = ap (λ (u : View). u.log) looked.is ∙ looked.follows.is ∙ ap (λ (l : List Entry). looked.follows.newer ++ l) log_pinned

  log_is : z.log ≡ first_log
  log_is = log_looked ∙ all_old looked.follows.newer pinned.follows.newer (ap (λ (l : List Entry). length l) (sym log_looked) ∙ short)
    where
      all_old : (new old : List Entry) → length (new ++ (old ++ first_log)) ≡ 1 → new ++ (old ++ first_log) ≡ first_log
      all_old [] [] e = refl
      all_old [] (f ∷ old) e = absurd (let l = length-append old first_log in let k : length first_log ≡ 1 = refl in omega arith)
      all_old (f ∷ new) old e = absurd (let l = length-append new (old ++ first_log) in let m = length-append old first_log in let k : length first_log ≡ 1 = refl in omega arith)

  image_is : z.image ≡ first_words
  image_is = first_only z.dataset z.base z.log z.image dataset_is base_is log_is looked.knows.stands

  pub ready : IsReady z
  ready = record {
    dataset_is = dataset_is;
    base_is = base_is;
    number_is = number_is;
    log_is = log_is;
    image_is = image_is;
    tail_is = (let l = looked.knows.long in let e : length z.image ≡ 192 = ap (λ (ws : List ℕ). length ws) image_is in omega arith);
    pinned_is = pinned_is;
    fresh_is = fresh_is;
    draft_is = draft_is;
  }

-- it publishes, and gives the turn and the locks back
pub ends_written : (s : Place) (p a b g u : Known) → IsBegun s p → a.table ≡ p.table → b.table ≡ a.table → b.view.draft ≡ []
    → g ≡ known b.table (without_turn b.view) → u.table ≡ g.table → WithLeft g.view [] u.view → Ends s u
ends_written s p a b g u begun one two clean given three left =
    let view : g.view ≡ without_turn b.view = ap (λ (k : Known). k.view) given in record {
      table_is = three ∙ ap (λ (k : Known). k.table) given ∙ two ∙ one ∙ begun.table_is;
      idle = record {
        held = ap (λ (x : View). x.held) left.is;
        has_turn = ap (λ (x : View). x.turn) left.is ∙ ap (λ (x : View). x.turn) view;
        draft = ap (λ (x : View). x.draft) left.is ∙ ap (λ (x : View). x.draft) view ∙ clean;
      };
    }
