-- Where the entries up to a time end, found by halving places.
use Rattle.std.proofs.Common.{◌≡◌, ℕ, ◌+◌, ◌-◌, ◌<◌, ◌≤◌, List, [], ◌∷◌, length, Some, Result, Ok, Err, sym, ◌∙◌, ap, subst, inl, inr, ◌⊎◌, arith}
use Rattle.std.proofs.lemmas.Bool.{cases_lt}
use Rattle.std.proofs.lemmas.Option.{slice_get_within}
use Rattle.op_model.specs.declared.base.Dataset.{Dataset}
use Rattle.op_model.specs.declared.base.Base.{Base}
use Rattle.op_model.specs.declared.entry.Entry.{Entry}
use Rattle.op_model.specs.Operations.{entry_at}
use Rattle.op_model.specs.Refusals.{prefix_at}
use Rattle.op_model.specs.Legal.{Legal}
use Rattle.record_rows.specs.Rows.{EntryRow}
use Rattle.record_rows.specs.LogRows.{rows_of}
use Rattle.record_rows.specs.Readings.{ParentImage, Holds}
use Rattle.record_rows.specs.Ascending.{kind_at}
use Rattle.record_rows.proofs.EntryRecords.{stands_in, stands_at, entry_told}
use Rattle.record_rows.proofs.EntryPlaces.{row_at, own_told, entry_kind, in_order, whole_of}
use Rattle.log_rows.specs.declared.times.TimeRefusal.{TimeRefusal}
use Rattle.log_rows.specs.declared.times.TimeRefusal.TheVariants.{TooEarly}
use Rattle.log_rows.specs.Entries.{AtEntry, HoldsEntry}
use Rattle.log_rows.specs.Times.{count_to}
use Rattle.log_rows.proofs.EntryParts.{number_found, found_again}
use Rattle.log_rows.proofs.Halves.{NoneOwn}
use Rattle.log_rows.proofs.Seeks.{found_split}
use Rattle.log_rows.proofs.TimeLemmas.{shorter, side, first_time, count_early, count_met}
use Rattle.log_rows.proofs.WalkBack.{entry_there}

pub some_entry : (d : Dataset) (b : Base) (log : List Entry) → Legal d b log → 0 < length log
some_entry d b [] legal = absurd legal
some_entry d b (e ∷ log) legal = omega arith

module _ (d : Dataset) (b : Base) (log : List Entry) where
  -- own records stand in the order of their numbers
  pub own_order : Legal d b log → (p q : ℕ) (e f : Entry) → HoldsEntry d b log p e → HoldsEntry d b log q f → p ≤ q → e.number ≤ f.number
  unfolding entry_told
  own_order legal p q e f h k l = go (cases_lt p q)
    where
      go : (p < q) ⊎ (q ≤ p) → e.number ≤ f.number
      go (inl m) = (in_order d b log (whole_of d b log legal) p q (EntryRow e) (EntryRow f) m h k).0
      go (inr m) =
          let s : p ≡ q = omega arith in
          let h2 : HoldsEntry d b log q e = subst (λ x. HoldsEntry d b log x e) s h in
          let r : EntryRow e ≡ EntryRow f = cc in
          let t : Some e ≡ Some f = ap entry_told r in
          let u : e ≡ f = cc in
          let n : e.number ≡ f.number = ap (λ x. x.number) u in
          omega arith

  -- an entry whose record stands somewhere is found by its number
  pub held_found : Legal d b log → (p : ℕ) (e : Entry) → HoldsEntry d b log p e → entry_at log e.number ≡ Some e
  held_found legal p e h =
      let s = stands_in d b log p e h in
      subst (λ l. entry_at l e.number ≡ Some e) (sym s.whole) (found_again d b s.newer e s.older (subst (Legal d b) s.whole legal))

  -- an entry of each number has a record
  pub held_there : Legal d b log → (n : ℕ) → n < length log → (p : ℕ) × (e : Entry) × HoldsEntry d b log p e × (e.number ≡ n)
  held_there legal n l =
      let x = entry_there d b log n legal l in
      let s = found_split log n x.0 x.1 in
      (_, x.0, subst (λ l. HoldsEntry d b l (length (rows_of d b (x.0 ∷ s.1)) - 1) x.0) (sym s.2) (stands_at d b s.0 x.0 s.1), number_found log n x.0 x.1)

-- own records before the lower place are of entries up to the one found, which is up to the time; those from the higher place on are of later ones
pub record Parts (d : Dataset) (b : Base) (log : List Entry) (t low high found : ℕ) : Type 0 where
  pub early : (p : ℕ) (e : Entry) → HoldsEntry d b log p e → p < low → e.number ≤ found
  pub late : (p : ℕ) (e : Entry) → HoldsEntry d b log p e → high ≤ p → length (prefix_at log t) ≤ e.number
  pub more : found < length (prefix_at log t)

abbrev pub AllParts : List ℕ → ℕ → ℕ → ℕ → ℕ → Type 0
AllParts words t low high found = (d : Dataset) (b : Base) (log : List Entry) → ParentImage d b log words → Parts d b log t low high found

-- what the words tell of the entry whose own record stands at the place
abbrev pub AllAt : List ℕ → ℕ → ℕ → Type 0
AllAt words p at = (d : Dataset) (b : Base) (log : List Entry) (e : Entry) → ParentImage d b log words → HoldsEntry d b log p e → at ≡ e.at

abbrev pub AllNumber : List ℕ → ℕ → ℕ → Type 0
AllNumber words p n = (d : Dataset) (b : Base) (log : List Entry) (e : Entry) → ParentImage d b log words → HoldsEntry d b log p e → n ≡ e.number

module _ (words : List ℕ) (count own : ℕ) (kind : kind_at words own ≡ 9) (within : own < count) where
  -- at a place of that kind an own record stands
  pub held : (d : Dataset) (b : Base) (log : List Entry) → ParentImage d b log words → count ≡ length (rows_of d b log) → (e : Entry) × HoldsEntry d b log own e
  held d b log i c =
      let row = row_at d b log words i own (omega (arith, c, within)) in
      let told = own_told d b log words i own row.0 row.1 kind in
      (told.0, subst (Holds d b log own) told.1 row.1)

  module _ (t low high middle found at : ℕ) (all : AllParts words t low high found) (counts : (d : Dataset) (b : Base) (log : List Entry) → ParentImage d b log words → count ≡ length (rows_of d b log)) (times : AllAt words own at) where
    pub parts_low : (n : ℕ) → at ≤ t → AllNumber words own n → AllParts words t (own + 1) high n
    parts_low n l numbers d b log i =
        let o = all d b log i in
        let h = held d b log i (counts d b log i) in
        let e = times d b log h.0 i h.1 in
        let k = numbers d b log h.0 i h.1 in
        record {
          early = λ p f g m. let q = own_order d b log i.legal p own f h.0 g h.1 (omega (arith, m)) in omega (arith, q, k);
          late = o.late;
          more = (let q = (side d b t h.0.number h.0 log i.legal (held_found d b log i.legal own h.0 h.1)).0 (omega (arith, e, l)) in omega (arith, q, k));
        }

    pub parts_high : t < at → middle ≤ own → NoneOwn words middle own → AllParts words t low middle found
    parts_high l under none d b log i =
        let o = all d b log i in
        let h = held d b log i (counts d b log i) in
        let e = times d b log h.0 i h.1 in
        let high_side = (side d b t h.0.number h.0 log i.legal (held_found d b log i.legal own h.0 h.1)).1 (omega (arith, e, l)) in
        record { early = o.early; late = λ p f g m. go d b log i h.0 h.1 p f g m high_side (cases_lt p own); more = o.more }
      where
        go : (d : Dataset) (b : Base) (log : List Entry) (i : ParentImage d b log words) (x : Entry) → HoldsEntry d b log own x → (p : ℕ) (f : Entry) → HoldsEntry d b log p f → middle ≤ p → length (prefix_at log t) ≤ x.number
            → (p < own) ⊎ (own ≤ p) → length (prefix_at log t) ≤ f.number
        go d b log i x hx p f g m s (inl z) = absurd (none p m z (entry_kind d b log words i p f g).0)
        go d b log i x hx p f g m s (inr z) = let q = own_order d b log i.legal own p x f hx g z in omega (arith, q, s)

module _ (words : List ℕ) (t : ℕ) where
  -- the search begins behind the first entry's record
  pub parts_first : (start low at count : ℕ) → low ≤ start → ((d : Dataset) (b : Base) (log : List Entry) (e : Entry) → ParentImage d b log words → entry_at log 0 ≡ Some e → HoldsEntry d b log start e) → AllAt words start at → at ≤ t
      → ((d : Dataset) (b : Base) (log : List Entry) → ParentImage d b log words → count ≡ length (rows_of d b log)) → AllParts words t low count 0
  parts_first start low at count under starts times l counts d b log i =
      let x = entry_there d b log 0 i.legal (some_entry d b log i.legal) in
      let h = starts d b log x.0 i x.1 in
      let n = number_found log 0 x.0 x.1 in
      let e = times d b log x.0 i h in
      let c = counts d b log i in
      record {
        early = λ p f g m. let q = own_order d b log i.legal p start f x.0 g h (omega (arith, m, under)) in omega (arith, q, n);
        late = λ p f g m. absurd (let w = slice_get_within (rows_of d b log) p (EntryRow f) g in omega (arith, w, m, c));
        more = (side d b t 0 x.0 log i.legal x.1).0 (omega (arith, e, l));
      }

  -- nothing is left to halve: the entries up to the time end behind the one found
  pub parts_met : (start at low high found : ℕ) → ((d : Dataset) (b : Base) (log : List Entry) (e : Entry) → ParentImage d b log words → entry_at log 0 ≡ Some e → HoldsEntry d b log start e) → AllAt words start at → at ≤ t
      → AllParts words t low high found → high ≤ low → (d : Dataset) (b : Base) (log : List Entry) → ParentImage d b log words → ◌≡◌ {A = Result ℕ TimeRefusal} (Ok (found + 1)) (count_to log t)
  parts_met start at low high found starts times l all z d b log i =
      let o = all d b log i in
      let x = entry_there d b log 0 i.legal (some_entry d b log i.legal) in
      let e = times d b log x.0 i (starts d b log x.0 i x.1) in
      let m = o.more in
      let s = shorter d b t log in
      let n : length (prefix_at log t) ≤ found + 1 = go d b log i o z (cases_lt (found + 1) (length (prefix_at log t))) in
      count_met d b t log at (found + 1) (first_time d b x.0 log i.legal x.1 ∙ sym e) l (omega (arith, m, n))
    where
      go : (d : Dataset) (b : Base) (log : List Entry) → ParentImage d b log words → Parts d b log t low high found → high ≤ low → (found + 1 < length (prefix_at log t)) ⊎ (length (prefix_at log t) ≤ found + 1) → length (prefix_at log t) ≤ found + 1
      go d b log i o z (inr h) = h
      go d b log i o z (inl h) =
          let s = shorter d b t log in
          let r = held_there d b log i.legal (found + 1) (omega (arith, s, h)) in
          let n = r.3 in
          absurd (elim (cases_lt r.0 low) [
            | inl a ↦ let q = o.early r.0 r.1 r.2 a in omega (arith, q, n)
            | inr a ↦ let q = o.late r.0 r.1 r.2 (omega (arith, a, z)) in omega (arith, q, n, h)
          ])

  -- the time is before the first entry
  pub before_all : (start at : ℕ) → ((d : Dataset) (b : Base) (log : List Entry) (e : Entry) → ParentImage d b log words → entry_at log 0 ≡ Some e → HoldsEntry d b log start e) → AllAt words start at → t < at
      → (d : Dataset) (b : Base) (log : List Entry) → ParentImage d b log words → Err (TooEarly at) ≡ count_to log t
  before_all start at starts times l d b log i =
      let x = entry_there d b log 0 i.legal (some_entry d b log i.legal) in
      count_early d b t log at (first_time d b x.0 log i.legal x.1 ∙ sym (times d b log x.0 i (starts d b log x.0 i x.1))) l

-- at the place an entry's own record stands
pub at_own : (d : Dataset) (b : Base) (log : List Entry) (words : List ℕ) (count own : ℕ) → ParentImage d b log words → kind_at words own ≡ 9 → own < count → count ≡ length (rows_of d b log) → AtEntry words own
at_own d b log words count own i kind within c =
    let h = held words count own kind within d b log i c in
    record { dataset = d; base = b; log = log; entry = h.0; image = i; stands = h.1 }

pub at_first : (d : Dataset) (b : Base) (log : List Entry) (words : List ℕ) (start : ℕ) → ParentImage d b log words
    → ((d : Dataset) (b : Base) (log : List Entry) (e : Entry) → ParentImage d b log words → entry_at log 0 ≡ Some e → HoldsEntry d b log start e) → AtEntry words start
at_first d b log words start i starts =
    let x = entry_there d b log 0 i.legal (some_entry d b log i.legal) in
    record { dataset = d; base = b; log = log; entry = x.0; image = i; stands = starts d b log x.0 i x.1 }
