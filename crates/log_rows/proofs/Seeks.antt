-- What the search for an entry's own record has to do with the logs that the words tell of.
use Rattle.std.proofs.Common.{◌≡◌, ℕ, ◌-◌, ◌<◌, Bool, true, false, cond, eqb, List, [], ◌∷◌, ◌++◌, length, Some, sym, ◌∙◌, ap, subst, arith}
use Rattle.std.specs.List.{find}
use Rattle.std.proofs.lemmas.Option.{slice_get_within}
use Rattle.op_model.specs.declared.base.Dataset.{Dataset}
use Rattle.op_model.specs.declared.base.Base.{Base}
use Rattle.op_model.specs.declared.entry.Entry.{Entry}
use Rattle.op_model.specs.Legal.{Legal}
use Rattle.op_model.specs.Operations.{entry_at}
use Rattle.record_rows.specs.Rows.{EntryRow}
use Rattle.record_rows.specs.LogRows.{rows_of}
use Rattle.record_rows.specs.Readings.{ParentImage, Holds}
use Rattle.record_rows.specs.Ascending.{EntriesAscend}
use Rattle.record_rows.proofs.EntryRecords.{stands_in, stands_at}
use Rattle.record_rows.proofs.EntryPlaces.{row_at, own_told, entry_kind, entries_ascend}
use Rattle.log_rows.specs.Entries.{HoldsEntry}
use Rattle.log_rows.specs.Seeking.{IsOwn, OwnWithin}
use Rattle.log_rows.proofs.EntryParts.{number_found, found_again}
use Rattle.log_rows.proofs.WalkBack.{entry_there}

pub found_split : (log : List Entry) (n : ℕ) (e : Entry) → entry_at log n ≡ Some e → (newer : List Entry) × (older : List Entry) × (log ≡ newer ++ e ∷ older)
unfolding entry_at
found_split [] n e h = cc
found_split (f ∷ log) n e h = go (eqb f.number n) h (found_split log n e)
  where
    go : (t : Bool) → cond t (Some f) (find (λ y. eqb y.number n) log) ≡ Some e → (find (λ y. eqb y.number n) log ≡ Some e → (newer : List Entry) × (older : List Entry) × (log ≡ newer ++ e ∷ older))
        → (newer : List Entry) × (older : List Entry) × (f ∷ log ≡ newer ++ e ∷ older)
    go true q ih = ([], log, (let m : f ≡ e = cc in ap (λ x. x ∷ log) m))
    go false q ih = let r = ih q in (f ∷ r.0, r.1, ap (λ l. f ∷ l) r.2)

module _ (d : Dataset) (b : Base) (log : List Entry) (words : List ℕ) (i : ParentImage d b log words) where
  pub ascends : (count : ℕ) → count ≡ length (rows_of d b log) → EntriesAscend words count
  ascends count e = subst (EntriesAscend words) (sym e) (entries_ascend d b log words i)

  -- each entry's own record stands somewhere
  pub own_there : (count n : ℕ) → count ≡ length (rows_of d b log) → n < length log → OwnWithin words n 0 count
  own_there count n e l =
      let x = entry_there d b log n i.legal l in
      let s = found_split log n x.0 x.1 in
      let place : ℕ = length (rows_of d b (x.0 ∷ s.1)) - 1 in
      let h : HoldsEntry d b log place x.0 = subst (λ l. HoldsEntry d b l place x.0) (sym s.2) (stands_at d b s.0 x.0 s.1) in
      let k = entry_kind d b log words i place x.0 h in
      let w = slice_get_within (rows_of d b log) place (EntryRow x.0) h in
      record { place = place; own = (k.0, k.1 ∙ number_found log n x.0 x.1); from = omega arith; to = omega (arith, w, e) }

  -- and it is that of the entry
  pub own_holds : (count n p : ℕ) (e : Entry) → count ≡ length (rows_of d b log) → entry_at log n ≡ Some e → IsOwn words n p → p < count → HoldsEntry d b log p e
  own_holds count n p e c found own l =
      let row = row_at d b log words i p (omega (arith, c, l)) in
      let told = own_told d b log words i p row.0 row.1 own.0 in
      let h : HoldsEntry d b log p told.0 = subst (Holds d b log p) told.1 row.1 in
      let s = stands_in d b log p told.0 h in
      let again : entry_at log told.0.number ≡ Some told.0 = subst (λ l. entry_at l told.0.number ≡ Some told.0) (sym s.whole) (found_again d b s.newer told.0 s.older (subst (Legal d b) s.whole i.legal)) in
      let n_is : told.0.number ≡ n = sym told.2 ∙ own.1 in
      let both : Some told.0 ≡ Some e = sym again ∙ (ap (entry_at log) n_is ∙ found) in
      let same : told.0 ≡ e = cc in
      subst (HoldsEntry d b log p) same h
