-- The entry behind another one, by the places of their records.
use Rattle.std.proofs.Common.{◌≡◌, ℕ, ◌+◌, ◌<◌, ◌≤◌, List, length, Some, None, sym, ◌∙◌, ap, subst, inl, inr, ◌⊎◌, arith}
use Rattle.std.proofs.lemmas.Bool.{cases_lt}
use Rattle.std.proofs.lemmas.Option.{slice_get_within}
use Rattle.op_model.specs.declared.base.Dataset.{Dataset}
use Rattle.op_model.specs.declared.base.Base.{Base}
use Rattle.op_model.specs.declared.entry.Entry.{Entry}
use Rattle.op_model.specs.Operations.{entry_at}
use Rattle.op_model.specs.Legal.{Legal}
use Rattle.record_rows.specs.Rows.{EntryRow}
use Rattle.record_rows.specs.LogRows.{rows_of}
use Rattle.record_rows.specs.Readings.{Image, ParentImage, Holds}
use Rattle.record_rows.specs.Ascending.{kind_at}
use Rattle.record_rows.proofs.ImageFacts.{parent_image}
use Rattle.record_rows.proofs.RowFacts.{all_at}
use Rattle.record_rows.proofs.EntryRecords.{entry_told}
use Rattle.record_rows.proofs.EntryPlaces.{Names, entry_kind, in_order, named_below, own_told, row_at, whole_of}
use Rattle.log_rows.specs.Entries.{AtEntry, HoldsEntry, InEntry, IsNextEntry}
use Rattle.log_rows.proofs.EntryWords.{tells, words_counted}
use Rattle.log_rows.proofs.Halves.{NoneOwn}
use Rattle.log_rows.proofs.TimePlaces.{held, held_found, held_there, own_order}
use Rattle.log_rows.proofs.WalkBack.{last_entry}

module _ (d : Dataset) (b : Base) (log : List Entry) where
  -- one entry's record stands at a place
  pub one_entry : (p : ℕ) (e f : Entry) → HoldsEntry d b log p e → HoldsEntry d b log p f → e ≡ f
  unfolding entry_told
  one_entry p e f h k =
      let r : EntryRow e ≡ EntryRow f = cc in
      let t : Some e ≡ Some f = ap entry_told r in
      cc

  module _ (legal : Legal d b log) where
    -- the entry that stands there has this number
    pub number_held : (p n : ℕ) (e : Entry) → HoldsEntry d b log p e → n ≡ e.number → entry_at log n ≡ Some e
    number_held p n e h q = subst (λ k. entry_at log k ≡ Some e) (sym q) (held_found d b log legal p e h)

    low : (p : ℕ) (e : Entry) → HoldsEntry d b log p e → e.number < length log
    low p e h = all_at (Names (λ k. k < length log)) (rows_of d b log) (named_below d b log (whole_of d b log legal)) p (EntryRow e) h

    -- with no entry's record between, the numbers follow one another
    pub next_number : (p own : ℕ) (e f : Entry) → HoldsEntry d b log p e → HoldsEntry d b log own f → p < own → ((q : ℕ) (g : Entry) → HoldsEntry d b log q g → p < q → q < own → ⊥) → f.number ≡ e.number + 1
    next_number p own e f h k l none = go (cases_lt (e.number + 1) f.number)
      where
        later : e.number < f.number
        later = (in_order d b log (whole_of d b log legal) p own (EntryRow e) (EntryRow f) l h k).1

        between : e.number + 1 < f.number → ⊥
        between m =
            let few = low own f k in
            let (q, g, held, n) = held_there d b log legal (e.number + 1) (omega (arith, m, few)) in
            go2 q g held n (cases_lt p q) (cases_lt q own)
          where
            go2 : (q : ℕ) (g : Entry) → HoldsEntry d b log q g → g.number ≡ e.number + 1 → (p < q) ⊎ (q ≤ p) → (q < own) ⊎ (own ≤ q) → ⊥
            go2 q g held n (inl a) (inl c) = none q g held a c
            go2 q g held n (inl a) (inr c) = let o = own_order d b log legal own q f g k held c in absurd (omega (arith, o, n, m))
            go2 q g held n (inr a) c = let o = own_order d b log legal q p g e held h a in absurd (omega (arith, o, n))

        go : (e.number + 1 < f.number) ⊎ (f.number ≤ e.number + 1) → f.number ≡ e.number + 1
        go (inl m) = absurd (between m)
        go (inr m) = let l = later in omega (arith, l, m)

-- where an entry's record stands, one does in each log that the words tell of
pub entry_here : (words : List ℕ) (p : ℕ) → InEntry words p → (d : Dataset) (b : Base) (log : List Entry) → Image d b log words → (e : Entry) × HoldsEntry d b log p e
entry_here words p r d b log i = entry_at_place words p (record { dataset = r.dataset; base = r.base; log = r.log; entry = r.entry; image = parent_image r.dataset r.base r.log words r.image; stands = r.stands }) d b log (parent_image d b log words i)
  where
    entry_at_place : (words : List ℕ) (p : ℕ) → AtEntry words p → (d : Dataset) (b : Base) (log : List Entry) → ParentImage d b log words → (e : Entry) × HoldsEntry d b log p e
    entry_at_place words p a d b log i =
        let kind = (entry_kind a.dataset a.base a.log words a.image p a.entry a.stands).0 in
        let t = tells a.dataset a.base a.log words a.image p a.entry a.stands in
        let n = words_counted d b log words i in
        let w = t.within in
        let row = row_at d b log words i p (omega (arith, n, w)) in
        let told = own_told d b log words i p row.0 row.1 kind in
        (told.0, subst (Holds d b log p) told.1 row.1)

module _ (d : Dataset) (b : Base) (log : List Entry) (words : List ℕ) (i : ParentImage d b log words) (p count : ℕ) (e : Entry) (h : HoldsEntry d b log p e) (counts : count ≡ length (rows_of d b log)) where
  -- behind the last record there is none
  pub next_none : count ≤ p + 1 → IsNextEntry d b log e None
  next_none l =
      let w = slice_get_within (rows_of d b log) p (EntryRow e) h in
      let last = last_entry d b log words p i (omega (arith, w, l, counts)) in
      ap (λ (x : Entry). x.number + 1) (one_entry d b log p e last.0 h last.1) ∙ last.2

  -- the next entry's record is where the next entry stands
  pub next_found : (own : ℕ) → kind_at words own ≡ 9 → p + 1 ≤ own → own < count → NoneOwn words (p + 1) own → IsNextEntry d b log e (Some own)
  next_found own kind from to none =
      let f = held words count own kind to d b log i counts in
      let n : f.0.number ≡ e.number + 1 = next_number d b log i.legal p own e f.0 h f.1 (omega (arith, from)) (λ q g k a c. none q (omega (arith, a)) c (entry_kind d b log words i q g k).0) in
      (f.0, number_held d b log i.legal own (e.number + 1) f.0 f.1 (sym n), f.1)
