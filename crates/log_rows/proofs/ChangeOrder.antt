-- Where the changes of a log stand: in the order of their entries, and each of an entry's changed pairs has one.
use Rattle.std.proofs.Common.{◌≡◌, ℕ, zero, suc, ◌+◌, ◌-◌, ◌<◌, ◌≤◌, Bool, true, false, cond, eqb, List, [], ◌∷◌, length, drop, Option, Some, None, refl, sym, ◌∙◌, ap, subst, inl, inr, ◌⊎◌, arith}
use Rattle.std.specs.List.{slice_get, filter_map, cons_option}
use Rattle.std.proofs.lemmas.Bool.{and_parts, cases_lt, eqb-true, eq-eqb, false≢true}
use Rattle.op_model.specs.declared.base.Dataset.{Dataset}
use Rattle.op_model.specs.declared.base.Base.{Base}
use Rattle.op_model.specs.declared.base.Pair.{Pair}
use Rattle.op_model.specs.declared.entry.Changed.{Changed}
use Rattle.op_model.specs.declared.entry.Entry.{Entry}
use Rattle.op_model.specs.Edges.{same_pair}
use Rattle.op_model.specs.Operations.{entry_at}
use Rattle.op_model.specs.Legal.{Legal}
use Rattle.op_model.proofs.EdgeLemmas.{same_pair_self}
use Rattle.record_rows.specs.Rows.{Row, HeaderRow, SupervoxelRow, ChunkRow, NodeRow, LinkRow, EdgeRow, ChangeRow, ItemRow, EntryRow}
use Rattle.record_rows.specs.Chains.{change_of}
use Rattle.record_rows.specs.Words.{place_from}
use Rattle.record_rows.specs.LogRows.{rows_of}
use Rattle.record_rows.specs.Readings.{HoldsChange, place_of, next_place}
use Rattle.record_rows.proofs.EntryPlaces.{Names, in_order, named_below, whole_of}
use Rattle.record_rows.proofs.RowFacts.{all_at}
use Rattle.record_rows.proofs.WalkLemmas.{place_of-some}
use Rattle.log_rows.proofs.ChangeWords.{change_told, change_picks}
use Rattle.log_rows.proofs.EntryParts.{of_log}

-- the entry that a record of a change names
unfoldable changing : Row → Option ℕ
changing (ChangeRow entry c) = Some entry
changing row = None

-- the change of an entry with that number is told
own_told : (n : ℕ) (c : Changed) → change_told n (ChangeRow n c) ≡ Some c
unfolding change_told
own_told n c = let q : eqb n n ≡ true = eq-eqb n n refl in rw q refl

-- what is told is a change of the entry
told_is : (n : ℕ) (row : Row) (c : Changed) → change_told n row ≡ Some c → row ≡ ChangeRow n c
unfolding change_told
told_is n (ChangeRow entry x) c h = go (eqb entry n) refl h
  where
    go : (t : Bool) → eqb entry n ≡ t → cond t (Some x) None ≡ Some c → ChangeRow entry x ≡ ChangeRow n c
    go true q k = let e : entry ≡ n = eqb-true entry n q in let s : x ≡ c = cc in ap (λ m. ChangeRow m x) e ∙ ap (ChangeRow n) s
    go false q k = cc
told_is n (HeaderRow of s k) c h = cc
told_is n (SupervoxelRow v) c h = cc
told_is n (ChunkRow k) c h = cc
told_is n (NodeRow m) c h = cc
told_is n (LinkRow l) c h = cc
told_is n (EdgeRow made e) c h = cc
told_is n (ItemRow m) c h = cc
told_is n (EntryRow e) c h = cc

module _ (pick : Row → Option Changed) where
  -- what is picked comes from a record
  picked_from : (rows : List Row) (i : ℕ) (c : Changed) → slice_get (filter_map pick rows) i ≡ Some c → (p : ℕ) × (row : Row) × (slice_get rows p ≡ Some row) × (pick row ≡ Some c)
  picked_from [] i c h = cc
  picked_from (row ∷ rows) i c h = go (pick row) refl i h (picked_from rows)
    where
      go : (o : Option Changed) → pick row ≡ o → (i : ℕ) → slice_get (cons_option o (filter_map pick rows)) i ≡ Some c
          → ((i : ℕ) (c : Changed) → slice_get (filter_map pick rows) i ≡ Some c → (p : ℕ) × (r : Row) × (slice_get rows p ≡ Some r) × (pick r ≡ Some c))
          → (p : ℕ) × (r : Row) × (slice_get (row ∷ rows) p ≡ Some r) × (pick r ≡ Some c)
      go None q i k ih = let (p, r, s, t) = ih i c k in (suc p, r, s, t)
      go (Some y) q zero k ih = (0, row, refl, q ∙ k)
      go (Some y) q (suc i) k ih = let (p, r, s, t) = ih i c k in (suc p, r, s, t)

  -- what a record tells is picked
  picked_at : (rows : List Row) (p : ℕ) (row : Row) (c : Changed) → slice_get rows p ≡ Some row → pick row ≡ Some c → (i : ℕ) × (slice_get (filter_map pick rows) i ≡ Some c)
  picked_at [] p row c h t = cc
  picked_at (r ∷ rows) zero row c h t =
      let s : r ≡ row = cc in
      (0, ap (λ o. slice_get (cons_option o (filter_map pick rows)) 0) (ap pick s ∙ t))
  picked_at (r ∷ rows) (suc p) row c h t = go (pick r) (picked_at rows p row c h t)
    where
      go : (o : Option Changed) → (i : ℕ) × (slice_get (filter_map pick rows) i ≡ Some c) → (i : ℕ) × (slice_get (cons_option o (filter_map pick rows)) i ≡ Some c)
      go None a = a
      go (Some y) a = (suc a.0, a.1)

-- two changes of one pair
pub pair_is : (p q : Pair) → same_pair p q ≡ true → p ≡ q
unfolding same_pair
pair_is p q h =
    let s = and_parts _ _ h in
    let x : p.a ≡ q.a = eqb-true p.a q.a s.0 in
    let y : p.b ≡ q.b = eqb-true p.b q.b s.1 in
    λ i. record { a = x i; b = y i }

pub own_pair : (n : ℕ) (c : Changed) (q : Pair) → c.pair ≡ q → change_of q (ChangeRow n c) ≡ true
unfolding change_of
own_pair n c q e = subst (λ r. same_pair c.pair r ≡ true) e (same_pair_self c.pair)

-- a record of the chain is a change of the pair
pub change_met : (q : Pair) (row : Row) → change_of q row ≡ true → (n : ℕ) × (c : Changed) × (row ≡ ChangeRow n c) × (c.pair ≡ q)
unfolding change_of
change_met q (ChangeRow n c) h = (n, c, refl, pair_is c.pair q h)
change_met q row h = absurd (false≢true h)

-- the place lies before where a walk stands, or the walk is at its end
abbrev pub Before : ℕ → Option ℕ → Type 0
Before p None = Unit {0}
Before p (Some q) = p < q

module _ (test : Row → Bool) where
  skipped : (place : ℕ) (rows : List Row) (i : ℕ) (row : Row) → 1 ≤ place → slice_get rows i ≡ Some row → Before (place + i) (place_of (place_from test place rows)) → test row ≡ false
  unfolding place_from
  skipped place [] i row l h k = cc
  skipped place (r ∷ rows) i row l h k = go (test r) refl i h k (skipped (place + 1) rows)
    where
      go : (t : Bool) → test r ≡ t → (i : ℕ) → slice_get (r ∷ rows) i ≡ Some row → Before (place + i) (place_of (cond t place (place_from test (place + 1) rows)))
          → ((i : ℕ) (row : Row) → 1 ≤ place + 1 → slice_get rows i ≡ Some row → Before (place + 1 + i) (place_of (place_from test (place + 1) rows)) → test row ≡ false) → test row ≡ false
      go true q i h k ih = let m : place + i < place = subst (Before (place + i)) (place_of-some place l) k in absurd (omega arith)
      go false q zero h k ih = let s : r ≡ row = cc in ap test (sym s) ∙ q
      go false q (suc i) h k ih =
          let e : place + suc i ≡ place + 1 + i = omega arith in
          ih i row (omega arith) h (subst (λ n. Before n (place_of (place_from test (place + 1) rows))) e k)

  -- between a place and the next one of the chain no record is of it
  pub none_between : (rows : List Row) (a p : ℕ) (row : Row) → a < p → Before p (next_place test rows a) → slice_get rows p ≡ Some row → test row ≡ false
  unfolding next_place
  none_between rows a p row l k h =
      let e : a + 1 + (p - (a + 1)) ≡ p = omega arith in
      skipped (a + 1) (drop (a + 1) rows) (p - (a + 1)) row (omega arith) (dropped (a + 1) rows (p - (a + 1)) row (ap (slice_get rows) e ∙ h))
      (subst (λ n. Before n (place_of (place_from test (a + 1) (drop (a + 1) rows)))) (sym e) k)
    where
      dropped : (n : ℕ) (rows : List Row) (i : ℕ) (row : Row) → slice_get rows (n + i) ≡ Some row → slice_get (drop n rows) i ≡ Some row
      dropped zero rows i row h = let e : zero + i ≡ i = omega arith in sym (ap (slice_get rows) e) ∙ h
      dropped (suc n) [] i row h = cc
      dropped (suc n) (r ∷ rows) i row h = let e : suc n + i ≡ suc (n + i) = omega arith in dropped n rows i row (sym (ap (slice_get (r ∷ rows)) e) ∙ h)

module _ (d : Dataset) (b : Base) (log : List Entry) where
  -- one change stands at a place
  pub one_change : (p j k : ℕ) (x y : Changed) → HoldsChange d b log p j x → HoldsChange d b log p k y → j ≡ k
  unfolding changing
  one_change p j k x y h m =
      let r : ChangeRow j x ≡ ChangeRow k y = cc in
      let s : Some j ≡ Some k = ap changing r in
      cc

  module _ (legal : Legal d b log) where
    -- changes stand in the order of their entries
    pub changes_order : (p q j k : ℕ) (x y : Changed) → HoldsChange d b log p j x → HoldsChange d b log q k y → p ≤ q → j ≤ k
    changes_order p q j k x y h m l = go (cases_lt p q)
      where
        go : (p < q) ⊎ (q ≤ p) → j ≤ k
        go (inl a) = (in_order d b log (whole_of d b log legal) p q (ChangeRow j x) (ChangeRow k y) a h m).0
        go (inr a) =
            let s : p ≡ q = omega arith in
            let e : j ≡ k = one_change q j k x y (subst (λ r. HoldsChange d b log r j x) s h) m in
            omega arith

    -- a change is one of an entry of the log
    pub change_below : (p k : ℕ) (c : Changed) → HoldsChange d b log p k c → k < length log
    change_below p k c h = all_at (Names (λ n. n < length log)) (rows_of d b log) (named_below d b log (whole_of d b log legal)) p (ChangeRow k c) h

    -- each of an entry's changed pairs has a change
    pub change_stands : (g : Entry) (i : ℕ) (c : Changed) → entry_at log g.number ≡ Some g → slice_get g.changed i ≡ Some c → (p : ℕ) × HoldsChange d b log p g.number c
    change_stands g i c found h =
        let all : filter_map (change_told g.number) (rows_of d b log) ≡ g.changed = of_log d b g.number (change_told g.number) (λ x. x.changed) (change_picks g.number) log g legal found in
        let (p, row, at, t) = picked_from (change_told g.number) (rows_of d b log) i c (ap (λ xs. slice_get xs i) all ∙ h) in
        (p, at ∙ ap (λ r. Some r) (told_is g.number row c t))

    -- the change of an entry is one of its changed pairs
    pub change_listed : (g : Entry) (p : ℕ) (c : Changed) → entry_at log g.number ≡ Some g → HoldsChange d b log p g.number c → (i : ℕ) × (slice_get g.changed i ≡ Some c)
    change_listed g p c found h =
        let all : filter_map (change_told g.number) (rows_of d b log) ≡ g.changed = of_log d b g.number (change_told g.number) (λ x. x.changed) (change_picks g.number) log g legal found in
        let r = picked_at (change_told g.number) (rows_of d b log) p (ChangeRow g.number c) c h (own_told g.number c) in
        (r.0, ap (λ xs. slice_get xs r.0) (sym all) ∙ r.1)
