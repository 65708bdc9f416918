-- What an undo or a redo is refused for, one cause after the other.
use Rattle.std.proofs.Common.{◌≡◌, ℕ, ◌<◌, ◌≤◌, Bool, true, false, cond, not, eqb, List, [], ◌∷◌, length, map, Option, Some, None, refl, sym, ◌∙◌, ap, subst, arith}
use Rattle.std.specs.List.{find}
use Rattle.std.specs.Option.{option_map_or}
use Rattle.std.proofs.lemmas.Bool.{false≢true}
use mathlib.Core.Bool.{beq}
use Rattle.op_model.specs.declared.base.Dataset.{Dataset}
use Rattle.op_model.specs.declared.base.Base.{Base}
use Rattle.op_model.specs.declared.entry.Changed.{Changed}
use Rattle.op_model.specs.declared.request.Edit.TheVariants.{Merge, Split, Undo, Redo}
use Rattle.op_model.specs.declared.entry.Asked.{Asked}
use Rattle.op_model.specs.declared.entry.Asked.TheVariants as asked
use Rattle.op_model.specs.declared.entry.Kind.TheVariants as kind
use Rattle.op_model.specs.Answers.{kind_of}
use Rattle.record_rows.specs.Words.{names}
use Rattle.op_model.specs.declared.entry.Entry.{Entry}
use Rattle.op_model.specs.declared.reply.Refusal.TheVariants.{NoSuchOp, NotAnEdit, NotInForce, InForce, Overtaken}
use Rattle.op_model.specs.Labels.{edges, root}
use Rattle.op_model.specs.Legal.{Legal, LegalPlan}
use Rattle.op_model.specs.Operations.{change, changed_by, ends, entry_at, in_force, is_operation, last_about, opposite, touched, undoes}
use Rattle.op_model.specs.Refusals.{first_of, refuse_cut, refuse_early, refuse_first, refuse_if, refuse_overtaken}
use Rattle.op_model.proofs.AboutLemmas.{number_below}
use Rattle.log_rows.proofs.AboutChanges.{found_passes}
use Rattle.log_rows.proofs.EntryParts.{found_again}
use Rattle.root_masks.specs.Masks.{HasLocks}
use Rattle.root_masks.specs.Plans.{AreLocks}
use Rattle.undo_redo.specs.Turns.{changer, is_overtaken, overtaker, turn, turned}

module _ (d : Dataset) (b : Base) (log : List Entry) where
  -- past its length a log has no entry
  pub none_at : (n : ℕ) → Legal d b log → length log ≤ n → entry_at log n ≡ None
  none_at n legal h = go (entry_at log n) refl
    where
      go : (o : Option Entry) → entry_at log n ≡ o → entry_at log n ≡ None
      go None q = q
      go (Some y) q = absurd (let l = number_below d b log n y legal q in omega arith)

  -- the last entry about an operation is found by its number
  pub about_at : (n : ℕ) (f : Entry) → Legal d b log → last_about log n ≡ Some f → (entry_at log f.number ≡ Some f) × (f.number < length log)
  unfolding last_about
  about_at n f legal h =
      let s = found_passes _ log f h in
      let again : entry_at log f.number ≡ Some f = subst (λ l. entry_at l f.number ≡ Some f) (sym s.3) (found_again d b s.1 f s.2 (subst (Legal d b) s.3 legal)) in
      (again, number_below d b log f.number f legal again)

  module _ (n : ℕ) where
    pub no_such : (back : Bool) → entry_at log n ≡ None → Some (NoSuchOp n) ≡ refuse_early d b log (turn back n)
    unfolding refuse_early turn first_of refuse_if
    no_such true h = rw h refl
    no_such false h = rw h refl

    pub no_edit : (back : Bool) (e : Entry) → entry_at log n ≡ Some e → is_operation e.asked ≡ false → Some (NotAnEdit n) ≡ refuse_early d b log (turn back n)
    unfolding refuse_early turn first_of refuse_if
    no_edit true e h k = rw (h, k) refl
    no_edit false e h k = rw (h, k) refl

    module _ (e f : Entry) (at : entry_at log n ≡ Some e) (op : is_operation e.asked ≡ true) (about : last_about log n ≡ Some f) where
      pub no_turn : (back : Bool) → undoes f.asked n ≡ back → Some (cond back (NotInForce n) (InForce n)) ≡ refuse_early d b log (turn back n)
      unfolding refuse_early turn first_of refuse_if in_force
      no_turn true u = rw (at, op, about, u) refl
      no_turn false u = rw (at, op, about, u) refl

      first_overtaken : first_of (refuse_overtaken d b log n ∷ []) ≡ option_map_or (λ k. Some (Overtaken k)) (overtaker d b log f.changed) None
      unfolding refuse_overtaken refuse_first first_of overtaker changer is_overtaken
      first_overtaken = rw about (go (find (is_overtaken (edges d b log)) f.changed))
        where
          go : (o : Option Changed) → first_of (option_map_or (λ c. Some (Overtaken (changer log c.pair))) o None ∷ []) ≡ option_map_or (λ k. Some (Overtaken k)) (option_map_or (λ c. Some (changer log c.pair)) o None) None
          go None = refl
          go (Some c) = refl

      pub turns : (back : Bool) → undoes f.asked n ≡ not back → option_map_or (λ k. Some (Overtaken k)) (overtaker d b log f.changed) None ≡ refuse_early d b log (turn back n)
      unfolding refuse_early turn first_of refuse_if in_force
      turns true u = sym first_overtaken ∙ rw (at, op, about, u) refl
      turns false u = sym first_overtaken ∙ rw (at, op, about, u) refl

    -- an undo or redo that isn't refused has its entry
    pub turn_there : (back : Bool) → Legal d b log → None ≡ refuse_early d b log (turn back n) → n < length log
    turn_there back legal h = go (entry_at log n) refl
      where
        go : (o : Option Entry) → entry_at log n ≡ o → n < length log
        go None q = let r : Some (NoSuchOp n) ≡ None = no_such back q ∙ sym h in cc
        go (Some y) q = number_below d b log n y legal q

    pub turn_locks : (back : Bool) (mask : ℕ) → None ≡ refuse_early d b log (turn back n) → HasLocks d.layout (map (root d b log) (ends (changed_by log n))) mask → AreLocks d b log (turn back n) mask
    unfolding touched turn
    turn_locks true mask h l = (sym h, l)
    turn_locks false mask h l = (sym h, l)

    pub turn_plan : (back : Bool) (cs : List Changed) → None ≡ refuse_early d b log (turn back n) → cs ≡ map (turned back) (changed_by log n) → LegalPlan d b log (turn back n) cs
    unfolding change turn refuse_cut turned
    turn_plan true cs h e = (sym h, refl, e)
    turn_plan false cs h e = (sym h, refl, e ∙ same (changed_by log n))
      where
        same : (xs : List Changed) → map (λ c. c) xs ≡ xs
        same [] = refl
        same (x ∷ xs) = ap (λ ys. x ∷ ys) (same xs)

-- what kind of entry is an operation, and what undoes one
pub merge_is : (a : Asked) → kind_of a ≡ kind.Merge → true ≡ is_operation a
unfolding kind_of is_operation
merge_is asked.Ingest e = cc
merge_is (asked.Edit (Merge pairs)) e = refl
merge_is (asked.Edit (Split sources sinks)) e = refl
merge_is (asked.Edit (Undo n)) e = cc
merge_is (asked.Edit (Redo n)) e = cc

pub split_is : (a : Asked) → kind_of a ≡ kind.Split → true ≡ is_operation a
unfolding kind_of is_operation
split_is asked.Ingest e = cc
split_is (asked.Edit (Merge pairs)) e = refl
split_is (asked.Edit (Split sources sinks)) e = refl
split_is (asked.Edit (Undo n)) e = cc
split_is (asked.Edit (Redo n)) e = cc

pub other_is : (a : Asked) → (kind_of a ≡ kind.Merge → ⊥) → (kind_of a ≡ kind.Split → ⊥) → false ≡ is_operation a
unfolding kind_of is_operation
other_is asked.Ingest m s = refl
other_is (asked.Edit (Merge pairs)) m s = absurd (m refl)
other_is (asked.Edit (Split sources sinks)) m s = absurd (s refl)
other_is (asked.Edit (Undo n)) m s = refl
other_is (asked.Edit (Redo n)) m s = refl

pub undo_is : (a : Asked) (op : ℕ) → kind_of a ≡ kind.Undo → eqb (names a) op ≡ undoes a op
unfolding kind_of names undoes
undo_is asked.Ingest op e = cc
undo_is (asked.Edit (Merge pairs)) op e = cc
undo_is (asked.Edit (Split sources sinks)) op e = cc
undo_is (asked.Edit (Undo n)) op e = refl
undo_is (asked.Edit (Redo n)) op e = cc

pub no_undo : (a : Asked) (op : ℕ) → (kind_of a ≡ kind.Undo → ⊥) → false ≡ undoes a op
unfolding kind_of undoes
no_undo asked.Ingest op u = refl
no_undo (asked.Edit (Merge pairs)) op u = refl
no_undo (asked.Edit (Split sources sinks)) op u = refl
no_undo (asked.Edit (Undo n)) op u = absurd (u refl)
no_undo (asked.Edit (Redo n)) op u = refl

pub same_way : (u v : Bool) → beq u v ≡ true → u ≡ v
same_way true true e = refl
same_way true false e = absurd (false≢true e)
same_way false true e = absurd (false≢true e)
same_way false false e = refl

pub other_way : (u v : Bool) → beq u v ≡ false → u ≡ not v
other_way true true e = absurd (false≢true (sym e))
other_way true false e = refl
other_way false true e = refl
other_way false false e = absurd (false≢true (sym e))

pub turned_off : (log : List Entry) (n : ℕ) (back : Bool) (e : Entry) (cs : List Changed) → back ≡ false → entry_at log n ≡ Some e → cs ≡ e.changed → cs ≡ map (turned back) (changed_by log n)
unfolding changed_by turned
turned_off log n back e cs q h k = rw (q, h) (k ∙ sym (same e.changed))
  where
    same : (xs : List Changed) → map (λ c. c) xs ≡ xs
    same [] = refl
    same (x ∷ xs) = ap (λ ys. x ∷ ys) (same xs)

pub turned_on : (log : List Entry) (n : ℕ) (back : Bool) (e : Entry) (cs : List Changed) → back ≡ true → entry_at log n ≡ Some e → cs ≡ e.changed → map opposite cs ≡ map (turned back) (changed_by log n)
unfolding changed_by turned
turned_on log n back e cs q h k = rw (q, h) (ap (map opposite) k)
