-- Logs that were seen, and what lasts from them.
use Rattle.std.proofs.Common.{◌≡◌, ℕ, suc, ◌-◌, ◌≤◌, Bool, true, false, not, List, [], ◌∷◌, ◌++◌, map, length, refl, sym, ◌∙◌, ap, subst, arith, Option, Some, None}
use Rattle.std.specs.List.{AllByRecursion, list_any}
use Rattle.std.proofs.lemmas.Bool.{false_from_ne_true, not-true}
use Rattle.std.proofs.lemmas.List.{length-drop, take-append-drop}
use Rattle.node_ids.specs.Ids.{IsLayout}
use Rattle.op_model.specs.declared.base.Dataset.{Dataset}
use Rattle.op_model.specs.declared.base.Base.{Base}
use Rattle.op_model.specs.declared.request.Edit.{Edit}
use Rattle.op_model.specs.declared.request.Edit.TheVariants.{Merge, Split, Undo, Redo}
use Rattle.op_model.specs.declared.entry.Entry.{Entry}
use Rattle.op_model.specs.declared.entry.Shown.{Shown}
use Rattle.graph_model.specs.Lists.{has}
use Rattle.op_model.specs.Labels.{root}
use Rattle.op_model.specs.Cuts.{IsShown, Shows}
use Rattle.op_model.specs.Operations.{ascending, touched}
use Rattle.op_model.specs.Refusals.{refuse_early}
use Rattle.op_model.specs.Legal.{Legal}
use Rattle.op_model.specs.Laws.{Lasts}
use Rattle.op_model.specs.Transcript.{log_at}
use Rattle.graph_model.proofs.ListLemmas.{contra, any_from, has_head, has_tail}
use Rattle.op_model.proofs.LegalLemmas.{all_has, ascending_has, map_has}
use Rattle.op_model.proofs.LocalLemmas.{part_kept, Unretired}
use Rattle.op_model.proofs.LastingLemmas.{lasts_step, lasts}
use Rattle.op_model.specs.Locks.{lock_of, locks_of}
use Rattle.session_machine.specs.Machine.{holds_all}
use Rattle.session_machine.specs.Invariant.{newer, Covers}

pub log_at_whole : (d : Dataset) (b : Base) (log : List Entry) → log_at d b log (length log) ≡ log
unfolding log_at
log_at_whole d b log = let e : length log - length log ≡ 0 = omega arith in rw e refl

pub newer_whole : (log : List Entry) → newer log (length log) ≡ []
unfolding newer
newer_whole log = let e : length log - length log ≡ 0 = omega arith in rw e refl

pub newer_more : (e : Entry) (log : List Entry) (k : ℕ) → k ≤ length log → newer (e ∷ log) k ≡ e ∷ newer log k
unfolding newer
newer_more e log k l = let q : suc (length log) - k ≡ suc (length log - k) = omega arith in rw q refl

newer_split : (d : Dataset) (b : Base) (log : List Entry) (k : ℕ) → newer log k ++ log_at d b log k ≡ log
unfolding newer log_at
newer_split d b log k = take-append-drop (length log - k) log

log_at_length : (d : Dataset) (b : Base) (log : List Entry) (k : ℕ) → k ≤ length log → length (log_at d b log k) ≡ k
unfolding log_at
log_at_length d b log k l = length-drop (length log - k) log ∙ omega arith

pub spare_one : (d : Dataset) (pinned roots rs : List ℕ) → Covers d pinned roots → AllByRecursion (λ r. has pinned (lock_of d.layout r) ≡ false) rs → AllByRecursion (λ r. has rs r ≡ false) roots
spare_one d pinned [] rs c a = tt
spare_one d pinned (r ∷ roots) rs c a =
    (false_from_ne_true _ (λ t. contra (has pinned (lock_of d.layout r)) c.0 (all_has (λ x. has pinned (lock_of d.layout x) ≡ false) rs r a t)), spare_one d pinned roots rs c.1 a)

pub spare_all : (d : Dataset) (pinned roots : List ℕ) (es : List Entry) → Covers d pinned roots → AllByRecursion (λ e. AllByRecursion (λ r. has pinned (lock_of d.layout r) ≡ false) e.retired) es
    → AllByRecursion (λ e. AllByRecursion (λ r. has e.retired r ≡ false) roots) es
spare_all d pinned roots [] c a = tt
spare_all d pinned roots (e ∷ es) c a = (spare_one d pinned roots e.retired c a.0, spare_all d pinned roots es c a.1)

pub holds_covers : (d : Dataset) (held roots : List ℕ) → holds_all held (locks_of d.layout roots) ≡ true → Covers d held roots
unfolding holds_all locks_of
holds_covers d held roots h = each roots (λ r t. t)
  where
    each : (rs : List ℕ) → ((r : ℕ) → has rs r ≡ true → has roots r ≡ true) → Covers d held rs
    each [] f = tt
    each (r ∷ rs) f =
        let there : has (ascending (map (lock_of d.layout) roots)) (lock_of d.layout r) ≡ true = ascending_has _ _ (map_has (lock_of d.layout) roots r (f r (has_head r rs))) in
        (go (has held (lock_of d.layout r)) refl there, each rs (λ x t. f x (has_tail r rs x t)))
      where
        go : (t : Bool) → has held (lock_of d.layout r) ≡ t → has (ascending (map (lock_of d.layout) roots)) (lock_of d.layout r) ≡ true → has held (lock_of d.layout r) ≡ true
        go true e there = e
        go false e there = contra (list_any (λ n. not (has held n)) (ascending (map (lock_of d.layout) roots))) (any_from (λ n. not (has held n)) _ (lock_of d.layout r) there (ap not e)) (not-true _ h)

pub covers_has : (d : Dataset) (locks roots rs : List ℕ) → Covers d locks roots → AllByRecursion (λ r. has roots r ≡ true) rs → Covers d locks rs
covers_has d locks roots [] c a = tt
covers_has d locks roots (r ∷ rs) c a = (all_has (λ x. has locks (lock_of d.layout x) ≡ true) roots r c a.0, covers_has d locks roots rs c a.1)

module _ (d : Dataset) (b : Base) where
  Old : List Entry → Edit → Type 0
  Old log edit = refuse_early d b log edit ≡ None

  shows_step : (e f : Entry) (log : List Entry) (edit : Edit) (shown : Option Shown) → IsLayout d.layout → Legal d b (e ∷ f ∷ log)
      → AllByRecursion (λ r. has e.retired r ≡ false) (touched d b (f ∷ log) edit) → Shows d b (f ∷ log) edit shown → Shows d b (e ∷ f ∷ log) edit shown
  unfolding touched
  shows_step e f log (Merge pairs) shown bits legal a s = s
  shows_step e f log (Undo n) shown bits legal a s = s
  shows_step e f log (Redo n) shown bits legal a s = s
  shows_step e f log (Split sources sinks) None bits legal a s = absurd s
  shows_step e f log (Split sources sinks) (Some x) bits legal a s =
      subst (λ p. IsShown p sources sinks x) (sym (part_kept d b e f log sources bits legal (marks sources sinks a))) s
    where
      marks : (xs ys : List ℕ) → AllByRecursion (λ r. has e.retired r ≡ false) (map (root d b (f ∷ log)) (xs ++ ys)) → Unretired d b e (f ∷ log) xs
      marks [] ys a = tt
      marks (x ∷ xs) ys a = (a.0, marks xs ys a.1)

  shows_last : (es : List Entry) (e : Entry) (log : List Entry) (edit : Edit) (shown : Option Shown) → IsLayout d.layout → Legal d b (es ++ e ∷ log) → refuse_early d b (e ∷ log) edit ≡ None
      → AllByRecursion (λ f. AllByRecursion (λ r. has f.retired r ≡ false) (touched d b (e ∷ log) edit)) es → Shows d b (e ∷ log) edit shown → Shows d b (es ++ e ∷ log) edit shown
  shows_last [] e log edit shown bits legal h a s = s
  shows_last (f ∷ []) e log edit shown bits legal h a s = shows_step f e log edit shown bits legal a.0 s
  shows_last (f ∷ g ∷ es) e log edit shown bits legal h a s =
      let old = lasts d b (g ∷ es) e log edit bits legal.1 h a.1 in
      shows_step f g (es ++ e ∷ log) edit shown bits legal (subst (AllByRecursion (λ r. has f.retired r ≡ false)) (sym old.touched) a.0) (shows_last (g ∷ es) e log edit shown bits legal.1 h a.1 s)

  back_step : (e f : Entry) (log : List Entry) (edit : Edit) (shown : Option Shown) → IsLayout d.layout → Legal d b (e ∷ f ∷ log)
      → AllByRecursion (λ r. has e.retired r ≡ false) (touched d b (f ∷ log) edit) → Shows d b (e ∷ f ∷ log) edit shown → Shows d b (f ∷ log) edit shown
  unfolding touched
  back_step e f log (Merge pairs) shown bits legal a s = s
  back_step e f log (Undo n) shown bits legal a s = s
  back_step e f log (Redo n) shown bits legal a s = s
  back_step e f log (Split sources sinks) None bits legal a s = absurd s
  back_step e f log (Split sources sinks) (Some x) bits legal a s =
      subst (λ p. IsShown p sources sinks x) (part_kept d b e f log sources bits legal (marks sources sinks a)) s
    where
      marks : (xs ys : List ℕ) → AllByRecursion (λ r. has e.retired r ≡ false) (map (root d b (f ∷ log)) (xs ++ ys)) → Unretired d b e (f ∷ log) xs
      marks [] ys a = tt
      marks (x ∷ xs) ys a = (a.0, marks xs ys a.1)

  shows_back : (es : List Entry) (e : Entry) (log : List Entry) (edit : Edit) (shown : Option Shown) → IsLayout d.layout → Legal d b (es ++ e ∷ log) → refuse_early d b (e ∷ log) edit ≡ None
      → AllByRecursion (λ f. AllByRecursion (λ r. has f.retired r ≡ false) (touched d b (e ∷ log) edit)) es → Shows d b (es ++ e ∷ log) edit shown → Shows d b (e ∷ log) edit shown
  shows_back [] e log edit shown bits legal h a s = s
  shows_back (f ∷ []) e log edit shown bits legal h a s = back_step f e log edit shown bits legal a.0 s
  shows_back (f ∷ g ∷ es) e log edit shown bits legal h a s =
      let old = lasts d b (g ∷ es) e log edit bits legal.1 h a.1 in
      shows_back (g ∷ es) e log edit shown bits legal.1 h a.1 (back_step f g (es ++ e ∷ log) edit shown bits legal (subst (AllByRecursion (λ r. has f.retired r ≡ false)) (sym old.touched) a.0) s)

  -- what an edit at a log that was seen is now, when the entries since then spared its roots
  pub still : (log : List Entry) (k : ℕ) (edit : Edit) (pinned : List ℕ) → IsLayout d.layout → Legal d b log → 1 ≤ k → k ≤ length log → refuse_early d b (log_at d b log k) edit ≡ None
      → Covers d pinned (touched d b (log_at d b log k) edit) → AllByRecursion (λ e. AllByRecursion (λ r. has pinned (lock_of d.layout r) ≡ false) e.retired) (newer log k)
      → Lasts d b (log_at d b log k) log edit × ((shown : Option Shown) → Shows d b (log_at d b log k) edit shown → Shows d b log edit shown)
      × ((shown : Option Shown) → Shows d b log edit shown → Shows d b (log_at d b log k) edit shown)
  still log k edit pinned bits legal l m h c a = go (newer log k) (log_at d b log k) (newer_split d b log k) (log_at_length d b log k m) h (spare_all d pinned (touched d b (log_at d b log k) edit) (newer log k) c a)
    where
      go : (es old : List Entry) → es ++ old ≡ log → length old ≡ k → refuse_early d b old edit ≡ None → AllByRecursion (λ e. AllByRecursion (λ r. has e.retired r ≡ false) (touched d b old edit)) es
          → Lasts d b old log edit × ((shown : Option Shown) → Shows d b old edit shown → Shows d b log edit shown) × ((shown : Option Shown) → Shows d b log edit shown → Shows d b old edit shown)
      go es [] q n h a = absurd (omega arith)
      go es (e ∷ old) q n h a =
          let legal2 : Legal d b (es ++ e ∷ old) = subst (Legal d b) (sym q) legal in (
            subst (λ x. Lasts d b (e ∷ old) x edit) q (lasts d b es e old edit bits legal2 h a),
            (λ shown s. subst (λ x. Shows d b x edit shown) q (shows_last es e old edit shown bits legal2 h a s)),
            (λ shown s. shows_back es e old edit shown bits legal2 h a (subst (λ x. Shows d b x edit shown) (sym q) s)),
          )

  -- and one entry later
  pub still_step : (e : Entry) (log : List Entry) (edit : Edit) (pinned : List ℕ) → IsLayout d.layout → Legal d b (e ∷ log) → Legal d b log → refuse_early d b log edit ≡ None
      → Covers d pinned (touched d b log edit) → AllByRecursion (λ r. has pinned (lock_of d.layout r) ≡ false) e.retired
      → Lasts d b log (e ∷ log) edit × ((shown : Option Shown) → Shows d b log edit shown → Shows d b (e ∷ log) edit shown)
  still_step e [] edit pinned bits legal before h c a = absurd before
  still_step e (f ∷ log) edit pinned bits legal before h c a =
      let s = spare_one d pinned (touched d b (f ∷ log) edit) e.retired c a in
      (lasts_step d b e f log edit bits legal h s, λ shown x. shows_step e f log edit shown bits legal s x)
