-- When a client begins its line again.
use Rattle.std.proofs.Common.{◌≡◌, ℕ, ◌-◌, ◌≤◌, Bool, true, false, List, [], ◌∷◌, ◌++◌, length, refl, sym, ◌∙◌, ap, subst, arith, None}
use Rattle.std.specs.List.{AllByRecursion, list_any}
use Rattle.std.proofs.lemmas.Bool.{or_parts}
use Rattle.std.proofs.lemmas.List.{length-drop, take-append-drop}
use Rattle.node_ids.specs.Ids.{IsLayout}
use Rattle.op_model.specs.declared.base.Dataset.{Dataset}
use Rattle.op_model.specs.declared.base.Base.{Base}
use Rattle.op_model.specs.declared.request.Edit.{Edit}
use Rattle.op_model.specs.declared.entry.Entry.{Entry}
use Rattle.graph_model.specs.Lists.{has}
use Rattle.op_model.specs.Operations.{touched}
use Rattle.op_model.specs.Refusals.{refuse_early}
use Rattle.op_model.specs.Legal.{Legal}
use Rattle.op_model.specs.Laws.{Lasts}
use Rattle.op_model.specs.Transcript.{log_at}
use Rattle.graph_model.proofs.ListLemmas.{contra}
use Rattle.op_model.proofs.LastingLemmas.{lasts}
use Rattle.op_model.specs.Locks.{locks_of}
use Rattle.session_machine.specs.Machine.{Pinning, ClientState, holds_all}
use Rattle.session_machine.specs.Invariant.{newer, ClientHistory}
use Rattle.session_machine.proofs.WorkLemmas.{holds_own}

any_none : (X : Type 0) (t : X → Bool) (xs : List X) → list_any t xs ≡ false → AllByRecursion (λ x. t x ≡ false) xs
any_none X t [] e = tt
any_none X t (x ∷ xs) e = let p = or_parts (t x) (list_any t xs) e in (p.0, any_none X t xs p.1)

all_none : (roots : List ℕ) (es : List Entry) → AllByRecursion (λ e. list_any (λ r. has e.retired r) roots ≡ false) es → AllByRecursion (λ e. AllByRecursion (λ r. has e.retired r ≡ false) roots) es
all_none roots [] a = tt
all_none roots (e ∷ es) a = (any_none ℕ (λ r. has e.retired r) roots a.0, all_none roots es a.1)

parted : (d : Dataset) (b : Base) (log : List Entry) (k : ℕ) → newer log k ++ log_at d b log k ≡ log
unfolding newer log_at
parted d b log k = take-append-drop (length log - k) log

old_length : (d : Dataset) (b : Base) (log : List Entry) (k : ℕ) → k ≤ length log → length (log_at d b log k) ≡ k
unfolding log_at
old_length d b log k l = length-drop (length log - k) log ∙ omega arith

module _ (d : Dataset) (b : Base) where
  lasting : (log : List Entry) (k : ℕ) (edit : Edit) → IsLayout d.layout → Legal d b log → 1 ≤ k → k ≤ length log → refuse_early d b (log_at d b log k) edit ≡ None
      → AllByRecursion (λ e. AllByRecursion (λ r. has e.retired r ≡ false) (touched d b (log_at d b log k) edit)) (newer log k) → Lasts d b (log_at d b log k) log edit
  lasting log k edit bits legal l m h a = go (newer log k) (log_at d b log k) (parted d b log k) (old_length d b log k m) h a
    where
      go : (es old : List Entry) → es ++ old ≡ log → length old ≡ k → refuse_early d b old edit ≡ None → AllByRecursion (λ e. AllByRecursion (λ r. has e.retired r ≡ false) (touched d b old edit)) es → Lasts d b old log edit
      go es [] q n h a = absurd (omega arith)
      go es (e ∷ old) q n h a = subst (λ x. Lasts d b (e ∷ old) x edit) q (lasts d b es e old edit bits (subst (Legal d b) (sym q) legal) h a)

  pub forced : IsLayout d.layout → (log : List Entry) (i : ℕ) (s : ClientState) (edit : Edit) → Legal d b log → ClientHistory d b log i s (Pinning edit)
      → holds_all s.held (locks_of d.layout (touched d b log edit)) ≡ false → list_any (λ e. list_any (λ r. has e.retired r) (touched d b (log_at d b log s.seen) edit)) (newer log s.seen) ≡ true
  forced bits log i s edit legal o h = go (list_any (λ e. list_any (λ r. has e.retired r) (touched d b (log_at d b log s.seen) edit)) (newer log s.seen)) refl
    where
      go : (t : Bool) → list_any (λ e. list_any (λ r. has e.retired r) (touched d b (log_at d b log s.seen) edit)) (newer log s.seen) ≡ t → t ≡ true
      go true e = refl
      go false e =
          let l = lasting log s.seen edit bits legal o.seen.0 o.seen.1 o.plan.0 (all_none (touched d b (log_at d b log s.seen) edit) (newer log s.seen) (any_none Entry (λ e. list_any (λ r. has e.retired r) (touched d b (log_at d b log s.seen) edit)) (newer log s.seen) e)) in
          contra (holds_all s.held (locks_of d.layout (touched d b log edit))) (subst (λ x. holds_all s.held x ≡ true) (o.plan.1 ∙ ap (locks_of d.layout) (sym l.touched)) (holds_own s.held)) h
