-- Inner: no clause of `run` is made of it.
-- What the pass that publishes knows in its turn.
use Rattle.std.specs.Prelude.{◌≡◌, [], ◌∷◌, true}
use Rattle.op_model.specs.Samples.{base}
use Rattle.shared_rows.specs.declared.view.View.{View}
use Rattle.thread_tests.specs.Samples.{data_small, first_log, first_words}

-- it has seen the first log and no more, and has pinned the locks of the roots that the merge retires
pub record IsReady (v : View) : Type 0 where
  pub dataset_is : v.dataset ≡ data_small
  pub base_is : v.base ≡ base
  pub number_is : v.number ≡ 1
  pub log_is : v.log ≡ first_log
  pub image_is : v.image ≡ first_words
  pub tail_is : v.tail ≡ 24
  pub pinned_is : v.pinned ≡ 2 ∷ 1 ∷ []
  pub fresh_is : v.fresh ≡ true
  pub draft_is : v.draft ≡ []
