-- Inner: no clause of `run` is made of it.
-- An edit whose locks are pinned.
use Rattle.std.specs.Prelude.{◌≡◌, ◌*◌, ◌<◌, ℕ, true, [], length, Some}
use Rattle.std.specs.List.{AllByRecursion}
use Rattle.graph_model.specs.Lists.{has}
use Rattle.op_model.specs.declared.request.Edit.{Edit}
use Rattle.op_model.specs.Refusals.{refuse_early}
use Rattle.root_masks.specs.Masks.{has_bit}
use Rattle.root_masks.specs.Plans.{AreLocks}
use Rattle.shared_rows.specs.declared.view.View.{View}
use Rattle.shared_rows.specs.Drafting.{IsSeen}
use Rattle.edit_desk.specs.declared.pinning.Tried.{Tried}
use Rattle.edit_desk.specs.declared.pinning.Tried.TheVariants as tried

-- the locks of the edit at the log that the pass sees are all pinned, and the image stands for that log
pub record Pinned (edit : Edit) (w : View) : Type 0 where
  pub mask : ℕ
  pub stands : IsSeen w
  pub long : length w.image ≡ 8 * w.tail
  pub low : AllByRecursion (λ l. l < 64) w.held
  pub locks : AreLocks w.dataset w.base w.log edit mask
  pub pinned : (l : ℕ) → l < 64 → has_bit mask l ≡ true → has w.pinned l ≡ true

-- how a try to pin an edit's locks ended: pinned, or with no lock
abbrev pub Settled : Edit → Tried → View → Type 0
Settled edit (tried.Pinned seen) w = Pinned edit w × (seen ≡ length w.log)
Settled edit tried.Again w = w.held ≡ []
Settled edit (tried.Refused r seen) w = (w.held ≡ []) × (refuse_early w.dataset w.base w.log edit ≡ Some r) × (seen ≡ length w.log)

-- it is pinned or refused
abbrev pub IsOver : Tried → Type 0
IsOver tried.Again = ⊥
IsOver t = Unit {0}
