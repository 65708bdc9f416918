-- The last change of a pair: its entry is the last one that changed the pair, and its state is the pair's.
use Rattle.std.proofs.Common.{◌≡◌, ℕ, zero, suc, ◌<◌, ◌≤◌, ◌||◌, Bool, true, false, cond, eqb, List, [], ◌∷◌, length, Option, Some, None, refl, sym, ◌∙◌, ap, subst, inl, inr, ◌⊎◌, arith, lt-ltb}
use Rattle.std.specs.List.{slice_get, filter_map, cons_option, last_or, find, list_any}
use Rattle.std.specs.Option.{option_map_or}
use Rattle.std.proofs.lemmas.Bool.{cases_lt, false≢true}
use Rattle.op_model.specs.declared.base.Dataset.{Dataset}
use Rattle.op_model.specs.declared.base.Base.{Base}
use Rattle.op_model.specs.declared.base.Pair.{Pair}
use Rattle.op_model.specs.declared.entry.Changed.{Changed}
use Rattle.op_model.specs.declared.entry.Entry.{Entry}
use Rattle.op_model.specs.Edges.{same_pair}
use Rattle.op_model.specs.Labels.{edges}
use Rattle.op_model.specs.Legal.{Legal}
use Rattle.op_model.specs.Operations.{entry_at}
use Rattle.op_model.specs.Refusals.{changes_pair}
use Rattle.record_rows.specs.Rows.{Row, ChangeRow}
use Rattle.record_rows.specs.Chains.{change_of}
use Rattle.record_rows.specs.LogRows.{rows_of}
use Rattle.record_rows.specs.Readings.{HoldsChange, Image, next_place}
use Rattle.record_rows.specs.Walks.{is_active}
use Rattle.record_rows.proofs.ImageFacts.{parent_image, within}
use Rattle.record_rows.proofs.WalkLemmas.{LeadsTo, Behind, next_behind, next_leads, steps_left}
use Rattle.edge_rows.proofs.EdgeMeaning.{state_below, states_told}
use Rattle.edge_rows.proofs.StateWalks.{no_change, none_picked}
use Rattle.log_rows.proofs.AboutChanges.{first_greatest, found_passes}
use Rattle.log_rows.proofs.ChangeOrder.{Before, change_below, change_listed, change_met, change_stands, changes_order, none_between, own_pair, pair_is}
use Rattle.log_rows.proofs.EntryParts.{found_again, number_found}
use Rattle.log_rows.proofs.WalkBack.{entry_there}
use Rattle.root_masks.proofs.Asked.{whole_log}
use Rattle.undo_redo.specs.Latest.{IsChange, IsLast}
use Rattle.undo_redo.specs.Turns.{changer}

-- what is picked last, where nothing behind this record is picked
last_picked : {X : Type 0} (pick : Row → Option X) (o : Option X) (rows : List Row) (p : ℕ) (row : Row) (x : X) → slice_get rows p ≡ Some row → pick row ≡ Some x
    → ((j : ℕ) (r : Row) → p < j → slice_get rows j ≡ Some r → pick r ≡ None) → last_or o (filter_map pick rows) ≡ Some x
last_picked pick o [] p row x h t n = cc
last_picked pick o (r ∷ rows) zero row x h t n =
    let s : r ≡ row = cc in
    let none : filter_map pick rows ≡ [] = none_picked pick rows (λ j y g. n (suc j) y (omega arith) g) in
    ap (λ z. last_or o (cons_option z (filter_map pick rows))) (ap pick s ∙ t) ∙ ap (last_or (Some x)) none
last_picked {X = X} pick o (r ∷ rows) (suc p) row x h t n = go (pick r) (λ z. last_picked pick z rows p row x h t (λ j y l g. n (suc j) y (omega arith) g))
  where
    go : (z : Option X) → ((k : Option X) → last_or k (filter_map pick rows) ≡ Some x) → last_or o (cons_option z (filter_map pick rows)) ≡ Some x
    go None ih = ih o
    go (Some y) ih = ih (Some y)

-- an entry that changed a pair is found
any_at : (test : Changed → Bool) (cs : List Changed) (i : ℕ) (c : Changed) → slice_get cs i ≡ Some c → test c ≡ true → list_any test cs ≡ true
any_at test [] i c h t = cc
any_at test (x ∷ cs) zero c h t = let s : x ≡ c = cc in let k : test x ≡ true = ap test s ∙ t in rw k refl
any_at test (x ∷ cs) (suc i) c h t = go (test x) (any_at test cs i c h t)
  where
    go : (s : Bool) → list_any test cs ≡ true → (s || list_any test cs) ≡ true
    go true ih = refl
    go false ih = ih

any_there : (test : Changed → Bool) (cs : List Changed) → list_any test cs ≡ true → (i : ℕ) × (c : Changed) × (slice_get cs i ≡ Some c) × (test c ≡ true)
any_there test [] h = absurd (false≢true h)
any_there test (x ∷ cs) h = go (test x) refl h (any_there test cs)
  where
    go : (s : Bool) → test x ≡ s → (s || list_any test cs) ≡ true → (list_any test cs ≡ true → (i : ℕ) × (c : Changed) × (slice_get cs i ≡ Some c) × (test c ≡ true))
        → (i : ℕ) × (c : Changed) × (slice_get (x ∷ cs) i ≡ Some c) × (test c ≡ true)
    go true q k ih = (0, x, refl, q)
    go false q k ih = let r = ih k in (suc r.0, r.1, r.2, r.3)

-- an entry of the log that passes the test lets one be found
some_found : (test : Entry → Bool) (log : List Entry) (n : ℕ) (e : Entry) → entry_at log n ≡ Some e → test e ≡ true → (f : Entry) × (find test log ≡ Some f)
unfolding entry_at
some_found test [] n e h t = cc
some_found test (x ∷ log) n e h t = go (test x) refl (eqb x.number n) h (some_found test log n e)
  where
    go : (s : Bool) → test x ≡ s → (u : Bool) → cond u (Some x) (find (λ y. eqb y.number n) log) ≡ Some e
        → (find (λ y. eqb y.number n) log ≡ Some e → test e ≡ true → (f : Entry) × (find test log ≡ Some f)) → (f : Entry) × (cond s (Some x) (find test log) ≡ Some f)
    go true q u k ih = (x, refl)
    go false q true k ih = let s : x ≡ e = cc in absurd (false≢true (sym q ∙ (ap test s ∙ t)))
    go false q false k ih = ih k t

module _ (d : Dataset) (b : Base) (log : List Entry) (legal : Legal d b log) (q : Pair) (p : ℕ) (last : IsLast d b log q p) where
  abbrev rows : List Row
  rows = rows_of d b log

  -- no change of the pair stands behind
  none_behind : (j : ℕ) (row : Row) → p < j → slice_get rows j ≡ Some row → change_of q row ≡ false
  none_behind j row l h = none_between (change_of q) rows p j row l (subst (Before j) (sym last.1) tt) h

  module _ (k : ℕ) (c : Changed) (h : HoldsChange d b log p k c) (own : c.pair ≡ q) where
    -- its state is the pair's
    pub last_state_is : c.active ≡ is_active (edges d b log) q
    unfolding state_below change_of
    last_state_is =
        let low : k < length log = change_below d b log legal p k c h in
        let mine : same_pair c.pair q ≡ true = own_pair k c q own in
        let picked : state_below q (length log) (ChangeRow k c) ≡ Some c.active = rw (mine, lt-ltb k (length log) low) refl in
        let one = last_picked (state_below q (length log)) (Some (is_active (edges d b []) q)) rows p (ChangeRow k c) c.active h picked (λ j r l g. no_change q (length log) r (none_behind j r l g)) in
        let all : last_or (Some (is_active (edges d b []) q)) (filter_map (state_below q (length log)) rows) ≡ Some (is_active (edges d b log) q) =
        subst (λ l. last_or (Some (is_active (edges d b []) q)) (filter_map (state_below q (length log)) rows) ≡ Some (is_active (edges d b l) q)) (whole_log d b log (length log) refl) (states_told d b q log (length log) legal) in
        let both : Some c.active ≡ Some (is_active (edges d b log) q) = sym one ∙ all in
        cc

    -- an entry that changed the pair isn't a later one
    not_later : (f : Entry) → entry_at log f.number ≡ Some f → changes_pair f q ≡ true → f.number ≤ k
    unfolding changes_pair
    not_later f there t =
        let (i, x, at, s) = any_there (λ y. same_pair y.pair q) f.changed t in
        let r : x.pair ≡ q = pair_is x.pair q s in
        let (j, m) = change_stands d b log legal f i x there at in
        go j x r m (cases_lt p j)
      where
        go : (j : ℕ) (x : Changed) → x.pair ≡ q → HoldsChange d b log j f.number x → (p < j) ⊎ (j ≤ p) → f.number ≤ k
        go j x r m (inl l) = absurd (false≢true (sym (none_behind j (ChangeRow f.number x) l m) ∙ own_pair f.number x q r))
        go j x r m (inr l) = changes_order d b log legal j p f.number k x c m h l

    -- its entry is the last one that changed the pair
    pub last_entry_is : k ≡ changer log q
    unfolding changer changes_pair change_of
    last_entry_is =
        let e = entry_there d b log k legal (change_below d b log legal p k c h) in
        let n : e.0.number ≡ k = number_found log k e.0 e.1 in
        let here : entry_at log e.0.number ≡ Some e.0 = subst (λ m. entry_at log m ≡ Some e.0) (sym n) e.1 in
        let own_at = change_listed d b log legal e.0 p c here (subst (λ m. HoldsChange d b log p m c) (sym n) h) in
        let t : changes_pair e.0 q ≡ true = any_at (λ x. same_pair x.pair q) e.0.changed own_at.0 c own_at.1 (own_pair k c q own) in
        let f = some_found (λ x. changes_pair x q) log k e.0 e.1 t in
        let s = found_passes (λ x. changes_pair x q) log f.0 f.1 in
        let again : entry_at log f.0.number ≡ Some f.0 = subst (λ l. entry_at l f.0.number ≡ Some f.0) (sym s.3) (found_again d b s.1 f.0 s.2 (subst (Legal d b) s.3 legal)) in
        let high : f.0.number ≤ k = not_later f.0 again s.0 in
        let low : e.0.number ≤ f.0.number = first_greatest d b log legal (λ x. changes_pair x q) log f.0 e.0 legal f.1 here t in
        let same : k ≡ f.0.number = omega (arith, n, high, low) in
        same ∙ ap (λ o. option_map_or (λ x. x.number) o 0) (sym f.1)

-- a walk along the changes of a pair leads to one, or is at its end, and the last one that it met is the last of all
abbrev pub IsAt : Dataset → Base → List Entry → Pair → ℕ → Option ℕ → Type 0
IsAt d b log q last None = IsLast d b log q last
IsAt d b log q last (Some place) = IsChange d b log q place

module _ (d : Dataset) (b : Base) (log : List Entry) (q : Pair) where
  -- where the walk leads, a change of the pair stands
  pub walk_here : (last : ℕ) (next : Option ℕ) (place : ℕ) → IsAt d b log q last next → next ≡ Some place → IsChange d b log q place
  walk_here last next place walk e = subst (IsAt d b log q last) e walk

  pub walk_ends : (last : ℕ) (next : Option ℕ) → IsAt d b log q last next → next ≡ None → IsLast d b log q last
  walk_ends last next walk e = subst (IsAt d b log q last) e walk

  -- the walk goes on
  pub walk_on : (place : ℕ) (next : Option ℕ) → IsChange d b log q place → next ≡ next_place (change_of q) (rows_of d b log) place → IsAt d b log q place next
  walk_on place None here e = (here, sym e)
  walk_on place (Some later) here e =
      let (l, row, h, t) = subst (LeadsTo (change_of q) (rows_of d b log)) (sym e) (next_leads (change_of q) (rows_of d b log) place) in
      let m = change_met q row t in
      (m.0, m.1, h ∙ ap (λ r. Some r) m.2, m.3)

  -- fewer records are left
  pub walk_falls : (words : List ℕ) → Image d b log words → (place : ℕ) → IsChange d b log q place → (next : Option ℕ) → next ≡ next_place (change_of q) (rows_of d b log) place
      → steps_left (length words) next < steps_left (length words) (Some place)
  unfolding steps_left
  walk_falls words i place here next e =
      let w = within d b log words (parent_image d b log words i) place (ChangeRow here.0 here.1) here.2 in
      fewer next (subst (Behind place) (sym e) (next_behind (change_of q) (rows_of d b log) place)) (omega (arith, w))
    where
      fewer : (o : Option ℕ) → Behind place o → place < length words → steps_left (length words) o < steps_left (length words) (Some place)
      fewer None z l = omega arith
      fewer (Some o) z l = let m : place < o = z in omega arith
