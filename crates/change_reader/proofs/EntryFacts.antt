-- Where the entry with a number stands in a legal log, and what its retired and made roots are.
use Rattle.std.proofs.Common.{◌≡◌, ℕ, zero, suc, ◌+◌, ◌-◌, ◌<◌, ◌≤◌, ◌^◌, Bool, true, false, cond, eqb, List, [], ◌∷◌, ◌++◌, length, map, drop, Some, None, refl, sym, ◌∙◌, ap, ap₂, subst, arith, length-append, append_assoc}
use Rattle.std.specs.List.{AllByRecursion, find}
use Rattle.std.proofs.lemmas.Bool.{eqb-true}
use Rattle.std.proofs.lemmas.Option.{same_Some}
use Rattle.std.proofs.Math.Seq.{drop-append_seam}
use Rattle.op_model.specs.declared.base.Dataset.{Dataset}
use Rattle.op_model.specs.declared.base.Base.{Base}
use Rattle.op_model.specs.declared.entry.Changed.{Changed}
use Rattle.op_model.specs.declared.entry.Asked.{Asked}
use Rattle.op_model.specs.declared.entry.Asked.TheVariants as asked
use Rattle.log_rows.specs.declared.records.Head.{Head}
use Rattle.log_rows.specs.Heads.{head_of}
use Rattle.op_model.specs.declared.entry.Entry.{Entry}
use Rattle.graph_model.specs.Lists.{has}
use Rattle.op_model.specs.Labels.{root}
use Rattle.op_model.specs.Operations.{ascending, ends, entry_at, first_entry, next_entry, entry_of, change}
use Rattle.op_model.specs.Transcript.{log_at}
use Rattle.op_model.specs.Valid.{IsDataset, IsBase}
use Rattle.op_model.specs.Legal.{Legal}
use Rattle.op_model.proofs.HistoryLemmas.{legal_prefix}
use Rattle.op_model.proofs.KnownLemmas.{legal_known}
use Rattle.op_model.proofs.MadeLemmas.{root_same}
use Rattle.record_rows.proofs.EntryRecords.{number_told}
use Rattle.record_rows.specs.Readings.{Image}
use Rattle.record_rows.proofs.ImageFacts.{few, parent_image}
use Rattle.record_rows.proofs.RowFacts.{entries_few}
use Rattle.node_reader.specs.Readable.{AreKnown, IsReadable}
use Rattle.change_reader.specs.Walks.{IsChangedBy, IsInner}

-- a log with an entry in it
pub record Stand (log : List Entry) (n : ℕ) (e : Entry) : Type 0 where
  pub newer : List Entry
  pub older : List Entry
  pub whole : log ≡ newer ++ e ∷ older
  pub count : n ≡ length older

map_same : (f g : ℕ → ℕ) → ((x : ℕ) → f x ≡ g x) → (xs : List ℕ) → map f xs ≡ map g xs
map_same f g h [] = refl
map_same f g h (x ∷ xs) = ap₂ (λ y ys. y ∷ ys) (h x) (map_same f g h xs)

module _ (d : Dataset) (b : Base) where
  -- the entry with a number has so many before it
  pub entry_stands : (log : List Entry) (n : ℕ) (e : Entry) → Legal d b log → entry_at log n ≡ Some e → Stand log n e
  unfolding entry_at
  entry_stands [] n e legal h = absurd legal
  entry_stands (f ∷ []) n e legal h = go (eqb f.number n) refl h
    where
      go : (t : Bool) → eqb f.number n ≡ t → cond t (Some f) None ≡ Some e → Stand (f ∷ []) n e
      go true q k = let s : f ≡ e = same_Some _ _ k in record { newer = []; older = []; whole = ap (λ x. x ∷ []) s; count = sym (eqb-true f.number n q) ∙ number_told d b f [] legal }
      go false q k = cc
  entry_stands (f ∷ g ∷ log) n e legal h = go (eqb f.number n) refl h (entry_stands (g ∷ log) n e legal.1)
    where
      go : (t : Bool) → eqb f.number n ≡ t → cond t (Some f) (find (λ x. eqb x.number n) (g ∷ log)) ≡ Some e → (find (λ x. eqb x.number n) (g ∷ log) ≡ Some e → Stand (g ∷ log) n e) → Stand (f ∷ g ∷ log) n e
      go true q k ih = let s : f ≡ e = same_Some _ _ k in record { newer = []; older = g ∷ log; whole = ap (λ x. x ∷ g ∷ log) s; count = sym (eqb-true f.number n q) ∙ number_told d b f (g ∷ log) legal }
      go false q k ih = let s = ih k in record { newer = f ∷ s.newer; older = s.older; whole = ap (λ xs. f ∷ xs) s.whole; count = s.count }

  -- the log before it, and the one with it
  pub before_it : (log newer : List Entry) (e : Entry) (older : List Entry) → log ≡ newer ++ e ∷ older → log_at d b log (length older) ≡ older
  unfolding log_at
  before_it log newer e older w =
      let n : length log - length older ≡ length (newer ++ e ∷ []) = (let l : length log ≡ length newer + length (e ∷ older) = ap length w ∙ length-append newer (e ∷ older) in let m : length (newer ++ e ∷ []) ≡ length newer + 1 = length-append newer (e ∷ []) in omega arith) in
      ap₂ (λ (k : ℕ) (xs : List Entry). drop k xs) n (w ∙ sym (append_assoc newer (e ∷ []) older)) ∙ drop-append_seam (newer ++ e ∷ []) older

  pub with_it : (log newer : List Entry) (e : Entry) (older : List Entry) → log ≡ newer ++ e ∷ older → log_at d b log (length older + 1) ≡ e ∷ older
  unfolding log_at
  with_it log newer e older w =
      let n : length log - (length older + 1) ≡ length newer = (let l : length log ≡ length newer + length (e ∷ older) = ap length w ∙ length-append newer (e ∷ older) in omega arith) in
      ap₂ (λ (k : ℕ) (xs : List Entry). drop k xs) n w ∙ drop-append_seam newer (e ∷ older)

  module _ (valid : IsDataset d) (base : IsBase d b) where
    ends_known : (cs : List Changed) → AllByRecursion (λ (c : Changed). (has b.supervoxels c.pair.a ≡ true) × (has b.supervoxels c.pair.b ≡ true) × (c.pair.a < c.pair.b)) cs → AreKnown b (ends cs)
    unfolding ends
    ends_known [] a = tt
    ends_known (c ∷ cs) a = (a.0.0, (a.0.1, ends_known cs a.1))

    pub changed_known : (e : Entry) (log : List Entry) → Legal d b (e ∷ log) → AreKnown b (ends e.changed)
    changed_known e log legal = ends_known e.changed (legal_known d b base (e ∷ log) legal).0.0

    -- the ingest retired none
    pub none_retired : (e : Entry) → Legal d b (e ∷ []) → [] ≡ e.retired
    unfolding first_entry
    none_retired e legal = sym (ap (λ x. x.retired) legal.0)

    -- another entry retired the roots of its pairs' ends before it
    pub retired_roots : (e f : Entry) (log : List Entry) → Legal d b (e ∷ f ∷ log) → ascending (map (root d b (f ∷ log)) (ends e.changed)) ≡ e.retired
    unfolding next_entry entry_of
    retired_roots e f log legal =
        let q = legal.0.2 in
        ap (λ cs. ascending (map (root d b (f ∷ log)) (ends cs))) (ap (λ x. x.changed) q) ∙ sym (ap (λ x. x.retired) q)

    -- and made those after it
    pub made_roots : (e f : Entry) (log : List Entry) → Legal d b (e ∷ f ∷ log) → ascending (map (root d b (e ∷ f ∷ log)) (ends e.changed)) ≡ e.made
    unfolding next_entry entry_of
    made_roots e f log legal =
        let q = legal.0.2 in
        let cs : List Changed = change d b (f ∷ log) legal.0.0 in
        let bare : Entry = record { number = length (f ∷ log); client = e.client; line = e.line; at = e.at; asked = asked.Edit legal.0.0; changed = cs; retired = []; made = [] } in
        let c : e.changed ≡ cs = ap (λ x. x.changed) q in
        ap (λ ds. ascending (map (root d b (e ∷ f ∷ log)) (ends ds))) c
        ∙ (ap ascending (map_same (root d b (e ∷ f ∷ log)) (root d b (bare ∷ f ∷ log)) (λ u. root_same d b e bare (f ∷ log) u c) (ends cs))
        ∙ sym (ap (λ x. x.made) q))

-- What a call learns that is asked of an entry with these pairs.
module _ (d : Dataset) (b : Base) (log : List Entry) (words : List ℕ) (n : ℕ) (e : Entry) (cs : List Changed) (c : IsChangedBy d b log words n e cs) where
  stand : Stand log n e
  stand = entry_stands d b log n e c.image.legal c.entry

  legal_to : (s : Stand log n e) → Legal d b (e ∷ s.older)
  legal_to s = legal_prefix d b s.newer e s.older (subst (Legal d b) s.whole c.image.legal)

  below : n < length log
  below =
      let s = stand in
      let l : length log ≡ length s.newer + length (e ∷ s.older) = ap length s.whole ∙ length-append s.newer (e ∷ s.older) in
      let q = s.count in
      omega arith

  pub count_few : n + 1 < 2 ^ 32
  count_few = let l = below in let m = entries_few d b log in let f = few d b log words c.image in omega (arith, l, m, f)

  pub known_ends : AreKnown b (ends cs)
  known_ends = let s = stand in subst (λ xs. AreKnown b (ends xs)) (sym c.pairs) (changed_known d b c.image.dataset c.image.base e s.older (legal_to s))

  pub readable_before : (n ≡ 0 → ⊥) → IsReadable d b log words n
  readable_before z = record { image = c.image; low = (let q : 1 ≤ n = pos n z in q); high = (let l = below in omega (arith, l)) }
    where
      pos : (k : ℕ) → (k ≡ 0 → ⊥) → 1 ≤ k
      pos zero y = absurd (y refl)
      pos (suc k) y = omega arith

  pub readable_with : IsReadable d b log words (n + 1)
  readable_with = record { image = c.image; low = omega arith; high = (let l = below in omega (arith, l)) }

  pub first_is : n ≡ 0 → (newer : List Entry) × (log ≡ newer ++ e ∷ [])
  first_is z = let s = stand in go s.older s.newer s.whole (sym s.count ∙ z)
    where
      go : (older newer : List Entry) → log ≡ newer ++ e ∷ older → length older ≡ 0 → (xs : List Entry) × (log ≡ xs ++ e ∷ [])
      go [] newer w l = (newer, w)
      go (f ∷ older) newer w l = absurd (omega arith)

  pub retired_none : n ≡ 0 → [] ≡ e.retired
  retired_none z = let f = first_is z in none_retired d b c.image.dataset c.image.base e (legal_prefix d b f.0 e [] (subst (Legal d b) f.1 c.image.legal))

  pub retired_is : (n ≡ 0 → ⊥) → ascending (map (root d b (log_at d b log n)) (ends cs)) ≡ e.retired
  retired_is z =
      let s = stand in
      ap₂ (λ (l : List Entry) (xs : List Changed). ascending (map (root d b l) (ends xs))) (ap (log_at d b log) s.count ∙ before_it d b log s.newer e s.older s.whole) c.pairs
      ∙ go s.older (legal_to s) s.count
    where
      go : (older : List Entry) → Legal d b (e ∷ older) → n ≡ length older → ascending (map (root d b older) (ends e.changed)) ≡ e.retired
      go [] l q = absurd (z q)
      go (f ∷ older) l q = retired_roots d b c.image.dataset c.image.base e f older l

  pub made_is : (n ≡ 0 → ⊥) → ascending (map (root d b (log_at d b log (n + 1))) (ends cs)) ≡ e.made
  made_is z =
      let s = stand in
      ap₂ (λ (l : List Entry) (xs : List Changed). ascending (map (root d b l) (ends xs))) (ap (λ k. log_at d b log (k + 1)) s.count ∙ with_it d b log s.newer e s.older s.whole) c.pairs
      ∙ go s.older (legal_to s) s.count
    where
      go : (older : List Entry) → Legal d b (e ∷ older) → n ≡ length older → ascending (map (root d b (e ∷ older)) (ends e.changed)) ≡ e.made
      go [] l q = absurd (z q)
      go (f ∷ older) l q = made_roots d b c.image.dataset c.image.base e f older l

-- an entry is its parts
pub of_head : (n : ℕ) (h : Head) (e : Entry) (a : Asked) (cs : List Changed) (retired made : List ℕ) → e.number ≡ n → h ≡ head_of e → a ≡ e.asked → cs ≡ e.changed → retired ≡ e.retired → made ≡ e.made
    → let x : Entry = record { number = n; client = h.client; line = h.line; at = h.at; asked = a; changed = cs; retired = retired; made = made } in x ≡ e
unfolding head_of
of_head n h e a cs retired made q w x y z m =
    ap (λ k. record { number = k; client = h.client; line = h.line; at = h.at; asked = a; changed = cs; retired = retired; made = made }) (sym q)
    ∙ (ap (λ (g : Head). record { number = e.number; client = g.client; line = g.line; at = g.at; asked = a; changed = cs; retired = retired; made = made }) w
    ∙ (ap (λ k. record { number = e.number; client = e.client; line = e.line; at = e.at; asked = k; changed = cs; retired = retired; made = made }) x
    ∙ (ap (λ k. record { number = e.number; client = e.client; line = e.line; at = e.at; asked = e.asked; changed = k; retired = retired; made = made }) y
    ∙ (ap (λ k. record { number = e.number; client = e.client; line = e.line; at = e.at; asked = e.asked; changed = e.changed; retired = k; made = made }) z
    ∙ ap (λ k. record { number = e.number; client = e.client; line = e.line; at = e.at; asked = e.asked; changed = e.changed; retired = e.retired; made = k }) m))))

-- What is read at an entry that has others before it.
module _ (d : Dataset) (b : Base) (log : List Entry) (words : List ℕ) (n : ℕ) (i : IsInner d b log words n) where
  pub inner_few : n + 1 < 2 ^ 32
  inner_few = let l = i.high in let m = entries_few d b log in let f = few d b log words i.image in omega (arith, l, m, f)

  pub inner_before : IsReadable d b log words n
  inner_before = record { image = i.image; low = i.low; high = (let l = i.high in omega (arith, l)) }

  pub inner_after : IsReadable d b log words (n + 1)
  inner_after = record { image = i.image; low = omega arith; high = (let l = i.high in omega (arith, l)) }

-- an entry that isn't the first has others before it
pub is_inner : (d : Dataset) (b : Base) (log : List Entry) (words : List ℕ) (n : ℕ) → Image d b log words → (n ≡ 0 → ⊥) → n < length log → IsInner d b log words n
is_inner d b log words zero i other l = absurd (other refl)
is_inner d b log words (suc n) i other l = record { image = parent_image d b log words i; low = omega arith; high = l }
