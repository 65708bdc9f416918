-- What was answered of an edit at a log, at a later one.
use Rattle.std.proofs.Common.{◌≡◌, ℕ, Bool, true, false, List, [], ◌∷◌, ◌++◌, map, Option, Some, None, Result, Ok, Err, refl, sym, ◌∙◌, ap₂, subst}
use Rattle.std.specs.List.{AllByRecursion}
use Rattle.std.proofs.lemmas.Bool.{false≢true}
use Rattle.node_ids.specs.Ids.{IsLayout, LayoutForm}
use Rattle.graph_model.specs.Lists.{has}
use Rattle.op_model.specs.declared.base.Dataset.{Dataset}
use Rattle.op_model.specs.declared.base.Base.{Base}
use Rattle.op_model.specs.declared.request.Edit.{Edit}
use Rattle.op_model.specs.declared.request.Edit.TheVariants.{Merge, Split, Undo, Redo}
use Rattle.op_model.specs.declared.entry.Entry.{Entry}
use Rattle.op_model.specs.declared.entry.Plan.{Plan}
use Rattle.op_model.specs.declared.entry.Shown.{Shown}
use Rattle.op_model.specs.declared.reply.Refusal.{Refusal}
use Rattle.op_model.specs.declared.reply.Refusal.TheVariants.{NoMemory}
use Rattle.op_model.specs.Cuts.{IsShown, Shows}
use Rattle.op_model.specs.Labels.{root}
use Rattle.op_model.specs.Laws.{Lasts}
use Rattle.op_model.specs.Legal.{Legal}
use Rattle.op_model.specs.Locks.{lock_of}
use Rattle.op_model.specs.Operations.{next_entry, touched}
use Rattle.op_model.specs.Refusals.{first_of, refuse_cut, refuse_early}
use Rattle.op_model.specs.Valid.{IsBase, IsDataset}
use Rattle.op_model.proofs.LastingLemmas.{lasts, legal_plan_lasts}
use Rattle.op_model.proofs.LegalLemmas.{all_has, map_has}
use Rattle.op_model.proofs.LocalLemmas.{part_kept}
use Rattle.op_model.proofs.RetiresLemmas.{retires}
use Rattle.record_rows.proofs.DifferLemmas.{all_more}
use Rattle.record_rows.proofs.OnceLemmas.{all_has_self}
use Rattle.root_masks.specs.Laws.{AreSpared}
use Rattle.root_masks.specs.Masks.{has_bit, HasLocks}
use Rattle.root_masks.specs.Plans.{AnswersPlan, AreLocks, IsUnplanned}

module _ (layout : LayoutForm) (roots : List ℕ) (mask : ℕ) (locks : HasLocks layout roots mask) where
  -- the mask has the lock of each of these roots
  root_locked : (r : ℕ) → has roots r ≡ true → has_bit mask (lock_of layout r) ≡ true
  root_locked r h = locks (lock_of layout r) ∙ map_has (lock_of layout) roots r h

  -- roots whose locks the mask hasn't are none of them
  roots_apart : (rs : List ℕ) → AllByRecursion (λ r. has_bit mask (lock_of layout r) ≡ false) rs → AllByRecursion (λ r. has rs r ≡ false) roots
  roots_apart rs a = all_more (λ r. has roots r ≡ true) (λ r. has rs r ≡ false) roots (λ r h. apart (has rs r) r h refl) (all_has_self roots)
    where
      apart : (t : Bool) → (r : ℕ) → has roots r ≡ true → has rs r ≡ t → t ≡ false
      apart true r h q = absurd (false≢true (sym (all_has (λ x. has_bit mask (lock_of layout x) ≡ false) rs r a q) ∙ root_locked r h))
      apart false r h q = refl

  entries_apart : (es : List Entry) → AreSpared layout mask es → AllByRecursion (λ e. AllByRecursion (λ r. has e.retired r ≡ false) roots) es
  entries_apart es a = all_more (λ e. AllByRecursion (λ r. has_bit mask (lock_of layout r) ≡ false) e.retired) (λ e. AllByRecursion (λ r. has e.retired r ≡ false) roots) es (λ e s. roots_apart e.retired s) a

module _ (d : Dataset) (b : Base) where
  -- what a reply shows is shown behind an entry that retires none of the roots
  shown_step : (e f : Entry) (log : List Entry) (edit : Edit) (shown : Option Shown) → IsLayout d.layout → Legal d b (e ∷ f ∷ log)
      → AllByRecursion (λ r. has e.retired r ≡ false) (touched d b (f ∷ log) edit) → Shows d b (f ∷ log) edit shown → Shows d b (e ∷ f ∷ log) edit shown
  unfolding touched
  shown_step e f log (Merge pairs) shown bits legal a s = s
  shown_step e f log (Undo n) shown bits legal a s = s
  shown_step e f log (Redo n) shown bits legal a s = s
  shown_step e f log (Split sources sinks) None bits legal a s = absurd s
  shown_step e f log (Split sources sinks) (Some x) bits legal a s = subst (λ p. IsShown p sources sinks x) (sym (part_kept d b e f log sources bits legal (front sources sinks a))) s
    where
      front : (xs ys : List ℕ) → AllByRecursion (λ r. has e.retired r ≡ false) (map (root d b (f ∷ log)) (xs ++ ys)) → AllByRecursion (λ x. has e.retired (root d b (f ∷ log) x) ≡ false) xs
      front [] ys a = tt
      front (x ∷ xs) ys a = (a.0, front xs ys a.1)

  shown_last : (newer : List Entry) (e : Entry) (log : List Entry) (edit : Edit) (mask : ℕ) (shown : Option Shown) → IsLayout d.layout → Legal d b (newer ++ e ∷ log) → AreLocks d b (e ∷ log) edit mask
      → AreSpared d.layout mask newer → Shows d b (e ∷ log) edit shown → Shows d b (newer ++ e ∷ log) edit shown
  shown_last [] e log edit mask shown bits legal l a s = s
  shown_last (f ∷ []) e log edit mask shown bits legal l a s = shown_step f e log edit shown bits legal (roots_apart d.layout (touched d b (e ∷ log) edit) mask l.1 f.retired a.0) s
  shown_last (f ∷ g ∷ newer) e log edit mask shown bits legal l a s =
      let old = lasts d b (g ∷ newer) e log edit bits legal.1 l.0 (entries_apart d.layout (touched d b (e ∷ log) edit) mask l.1 (g ∷ newer) a.1) in
      shown_step f g (newer ++ e ∷ log) edit shown bits legal
      (subst (AllByRecursion (λ r. has f.retired r ≡ false)) (sym old.touched) (roots_apart d.layout (touched d b (e ∷ log) edit) mask l.1 f.retired a.0))
      (shown_last (g ∷ newer) e log edit mask shown bits legal.1 l a.1 s)

  pub locks_last : (newer : List Entry) (e : Entry) (log : List Entry) (edit : Edit) (mask : ℕ) → IsLayout d.layout → Legal d b (newer ++ e ∷ log) → AreLocks d b (e ∷ log) edit mask → AreSpared d.layout mask newer
      → AreLocks d b (newer ++ e ∷ log) edit mask × Lasts d b (e ∷ log) (newer ++ e ∷ log) edit
  locks_last newer e log edit mask bits legal l a =
      let old = lasts d b newer e log edit bits legal l.0 (entries_apart d.layout (touched d b (e ∷ log) edit) mask l.1 newer a) in
      ((old.early, subst (λ rs. HasLocks d.layout rs mask) (sym old.touched) l.1), old)

  -- a refusal is the same where both parts of it are
  refusals_stay : (new old : List Entry) (edit : Edit) (r : Refusal) → refuse_early d b new edit ≡ refuse_early d b old edit → refuse_cut d b new edit ≡ refuse_cut d b old edit → IsUnplanned d b old edit r → IsUnplanned d b new edit r
  refusals_stay new old edit NoMemory e c h = tt
  refusals_stay new old edit r e c h = ap₂ (λ x y. first_of (x ∷ y ∷ [])) e c ∙ h

  pub plans_stay : (newer : List Entry) (e : Entry) (log : List Entry) (edit : Edit) (mask : ℕ) (answer : Result Plan Refusal) → IsLayout d.layout → Legal d b (newer ++ e ∷ log) → AreLocks d b (e ∷ log) edit mask → AreSpared d.layout mask newer
      → AnswersPlan d b (e ∷ log) edit answer → AnswersPlan d b (newer ++ e ∷ log) edit answer
  plans_stay newer e log edit mask (Ok plan) bits legal l a p = (
    p.0,
    legal_plan_lasts d b newer e log edit plan.changed bits legal p.1 (entries_apart d.layout (touched d b (e ∷ log) edit) mask l.1 newer a),
    shown_last newer e log edit mask plan.shown bits legal l a p.2,
  )
  plans_stay newer e log edit mask (Err r) bits legal l a h =
      let old = lasts d b newer e log edit bits legal l.0 (entries_apart d.layout (touched d b (e ∷ log) edit) mask l.1 newer a) in
      refusals_stay (newer ++ e ∷ log) (e ∷ log) edit r (old.early ∙ sym l.0) old.cut_refusal h

  pub retired_locked : (log : List Entry) (client line at : ℕ) (edit : Edit) (mask : ℕ) → IsDataset d → IsBase d b → Legal d b log → AreLocks d b log edit mask
      → AllByRecursion (λ r. has_bit mask (lock_of d.layout r) ≡ true) (next_entry d b log client line at edit).retired
  retired_locked log client line at edit mask dataset base legal l =
      all_more (λ r. has (touched d b log edit) r ≡ true) (λ r. has_bit mask (lock_of d.layout r) ≡ true) (next_entry d b log client line at edit).retired
      (root_locked d.layout (touched d b log edit) mask l.1) (retires d b dataset base log client line at edit legal l.0)
