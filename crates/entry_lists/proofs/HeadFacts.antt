-- The operation that an edit names is one of the log's.
use Rattle.std.proofs.Common.{◌≡◌, ℕ, ◌<◌, Bool, true, false, cond, eqb, List, [], ◌∷◌, length, is_none, Some, None, refl, arith}
use Rattle.std.specs.List.{AllByRecursion, find}
use Rattle.std.proofs.lemmas.Bool.{eqb-true}
use Rattle.op_model.specs.declared.base.Dataset.{Dataset}
use Rattle.op_model.specs.declared.base.Base.{Base}
use Rattle.op_model.specs.declared.request.Edit.{Edit}
use Rattle.op_model.specs.declared.request.Edit.TheVariants.{Merge, Split, Undo, Redo}
use Rattle.op_model.specs.declared.reply.Refusal.{Refusal}
use Rattle.op_model.specs.declared.entry.Entry.{Entry}
use Rattle.op_model.specs.declared.entry.Asked.TheVariants as asked
use Rattle.op_model.specs.Legal.{Legal}
use Rattle.op_model.specs.Operations.{entry_at}
use Rattle.op_model.specs.Refusals.{refuse_early, refuse_if}
use Rattle.op_model.proofs.LegalLemmas.{first_none}
use Rattle.record_rows.specs.Words.{names}
use Rattle.record_rows.specs.Readings.{Image}
use Rattle.record_rows.proofs.EntryRecords.{numbers_below}
use Rattle.record_rows.proofs.ImageFacts.{few, parent_image}
use Rattle.record_rows.proofs.RowFacts.{entries_few}

found : (m : ℕ) (log : List Entry) → AllByRecursion (λ f. f.number < m) log → (n : ℕ) → is_none (find (λ e. eqb e.number n) log) ≡ false → n < m
found m [] a n h = cc
found m (e ∷ log) a n h = go (eqb e.number n) refl h (found m log a.1 n)
  where
    go : (t : Bool) → eqb e.number n ≡ t → is_none (cond t (Some e) (find (λ f. eqb f.number n) log)) ≡ false → (is_none (find (λ f. eqb f.number n) log) ≡ false → n < m) → n < m
    go true q h ih = let l = a.0 in let z = eqb-true e.number n q in omega (arith, l, z)
    go false q h ih = ih h

not_refused : (t : Bool) (r : Refusal) → refuse_if t r ≡ None → t ≡ false
unfolding refuse_if
not_refused true r h = cc
not_refused false r h = refl

named_low : (d : Dataset) (b : Base) (log : List Entry) → Legal d b log → (n : ℕ) → is_none (entry_at log n) ≡ false → n < length log
unfolding entry_at
named_low d b [] legal n h = absurd legal
named_low d b (e ∷ log) legal n h = found (length (e ∷ log)) (e ∷ log) (numbers_below d b e log legal) n h

pub names_low : (d : Dataset) (b : Base) (log : List Entry) (words : List ℕ) → Image d b log words → (edit : Edit) → refuse_early d b log edit ≡ None → names (asked.Edit edit) < 4294967296
unfolding names refuse_early
names_low d b log words i (Merge pairs) h = omega arith
names_low d b log words i (Split s t) h = omega arith
names_low d b log words i (Undo n) h =
    let l = named_low d b log i.legal n (not_refused _ _ (first_none _ _ h).0) in
    let m = few d b log words (parent_image d b log words i) in
    let k = entries_few d b log in
    omega (arith, l, m, k)
names_low d b log words i (Redo n) h =
    let l = named_low d b log i.legal n (not_refused _ _ (first_none _ _ h).0) in
    let m = few d b log words (parent_image d b log words i) in
    let k = entries_few d b log in
    omega (arith, l, m, k)
