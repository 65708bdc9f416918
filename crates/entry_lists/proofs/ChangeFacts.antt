-- The changes of an entry behind a log, one by one.
use Rattle.std.proofs.Common.{◌≡◌, ℕ, zero, suc, ◌+◌, ◌<◌, ◌≤◌, Bool, true, false, cond, not, ◌||◌, eqb, List, [], ◌∷◌, ◌++◌, length, length-append, map, take, get_or, Option, Some, refl, sym, ◌∙◌, ap, subst, inl, inr, ◌⊎◌, arith, append_assoc, append-nil, eq-eqb, ne_eqb}
use Rattle.std.specs.List.{AllByRecursion, filter, list_any, slice_get}
use Rattle.std.proofs.lemmas.Bool.{false≢true, and_parts, eqb-true, cases_order}
use Rattle.std.proofs.lemmas.List.Elements.{filter-append}
use Rattle.std.proofs.lemmas.List.{map-append, take_more}
use Rattle.std.proofs.lemmas.Option.{slice_get_within}
use Rattle.op_model.specs.declared.base.Dataset.{Dataset}
use Rattle.op_model.specs.declared.base.Base.{Base}
use Rattle.op_model.specs.declared.base.Pair.{Pair}
use Rattle.op_model.specs.declared.base.Edge.{Edge}
use Rattle.op_model.specs.declared.base.Weight.TheVariants.{Affinity}
use Rattle.op_model.specs.declared.entry.Changed.{Changed}
use Rattle.op_model.specs.declared.entry.Entry.{Entry}
use Rattle.op_model.specs.Edges.{pair_before, same_pair}
use Rattle.op_model.specs.Labels.{edges}
use Rattle.op_model.specs.Legal.{Legal}
use Rattle.op_model.proofs.EdgeLemmas.{same_pair_self}
use Rattle.record_rows.specs.Rows.{Row, EdgeRow}
use Rattle.record_rows.specs.Chains.{change_of, is_edge}
use Rattle.record_rows.specs.Words.{place_from}
use Rattle.record_rows.specs.Readings.{first_place, place_of}
use Rattle.record_rows.specs.LogRows.{entry_rows, new_edges, rows_of, unknown}
use Rattle.record_rows.proofs.DifferLemmas.{Differ}
use Rattle.record_rows.proofs.EntryRecords.{more_rows}
use Rattle.record_rows.proofs.GrowthLemmas.{slice_get-append}
use Rattle.record_rows.proofs.NodePlaces.{found_from}
use Rattle.record_rows.proofs.WalkLemmas.{place_of-some}
use Rattle.row_append.specs.Ends.{IsHeaded}
use Rattle.row_append.specs.Tails.{word_number}
use Rattle.row_append.specs.declared.tail.Tail.{Tail}
use Rattle.row_append.proofs.EndLaws.{headers_stay}
use Rattle.row_append.proofs.FoundLemmas.{found_stays}
use Rattle.row_append.proofs.Leaving.{or_none}
use Rattle.grown_rows.specs.Aimed.{ChangesEndAt}
use Rattle.grown_rows.proofs.EndLemmas.{changes_stay, edges_without_end}
use Rattle.entry_rows.specs.declared.changes.EntryChange.{EntryChange}
use Rattle.entry_rows.specs.Changes.{AreChanges, IsAtChange}
use Rattle.new_ids.proofs.PairFacts.{unchanged}
use Rattle.edge_rows.proofs.PairOrder.{Before, all_ascend}
use Rattle.chain_ends.proofs.EndFacts.{headed_log}
use Rattle.chain_ends.proofs.Keys.{edge_once}
use Rattle.entry_lists.specs.Changing.{AreChanging, IsChange}
use Rattle.entry_lists.specs.Parts.{IsBehind}

same_pairs : (p q : Pair) → same_pair p q ≡ true → p ≡ q
unfolding same_pair
same_pairs p q h =
    let s = and_parts _ _ h in
    let x : p.a ≡ q.a = eqb-true p.a q.a s.0 in
    let y : p.b ≡ q.b = eqb-true p.b q.b s.1 in
    λ i. record { a = x i; b = y i }

take_front : {X : Type 0} (i : ℕ) (xs : List X) (x : X) → i ≤ length xs → take i (xs ++ x ∷ []) ≡ take i xs
take_front zero xs x l = refl
take_front (suc i) [] x l = absurd (omega arith)
take_front (suc i) (y ∷ xs) x l = ap (λ ys. y ∷ ys) (take_front i xs x (omega arith))

take_own : {X : Type 0} (xs : List X) → take (length xs) xs ≡ xs
take_own [] = refl
take_own (x ∷ xs) = ap (λ ys. x ∷ ys) (take_own xs)

get_last : {X : Type 0} (xs : List X) (x y : X) (i : ℕ) → slice_get (xs ++ x ∷ []) i ≡ Some y → ((i < length xs) × (slice_get xs i ≡ Some y)) ⊎ ((i ≡ length xs) × (x ≡ y))
get_last [] x y zero h = inr (refl, cc)
get_last [] x y (suc i) h = cc
get_last (z ∷ xs) x y zero h = inl (omega arith, h)
get_last (z ∷ xs) x y (suc i) h = elim (get_last xs x y i h) [ inl a ↦ inl ((let l = a.0 in omega arith), a.1) | inr a ↦ inr (ap suc a.0, a.1) ]

module _ (d : Dataset) (b : Base) (log : List Entry) where
  abbrev test : Changed → Bool
  test c = not (list_any (λ f. same_pair f.pair c.pair) (edges d b log))

  unknown_more : (cs : List Changed) (c : Changed) (t : Bool) → list_any (λ f. same_pair f.pair c.pair) (edges d b log) ≡ t → length (unknown d b log (cs ++ c ∷ [])) ≡ length (unknown d b log cs) + cond t 0 1
  unfolding unknown
  unknown_more cs c t e =
      ap length (filter-append test cs (c ∷ [])) ∙ (length-append (filter test cs) (filter test (c ∷ [])) ∙ ap (λ n. length (filter test cs) + n) (go t e))
    where
      go : (u : Bool) → list_any (λ f. same_pair f.pair c.pair) (edges d b log) ≡ u → length (filter test (c ∷ [])) ≡ cond u 0 1
      go true q = rw q refl
      go false q = rw q refl

  pub none_changing : (next : ℕ) (xs : List EntryChange) → next ≡ length (rows_of d b log) → xs ≡ [] → AreChanging d b log [] next xs
  unfolding unknown
  none_changing next xs n e = record { place = (let z : next ≡ length (rows_of d b log) + 0 = omega (arith, n) in z); each = λ i x h. absurd (nothing i x (subst (λ ys. slice_get ys i ≡ Some x) e h)) }
    where
      nothing : (i : ℕ) (x : EntryChange) → slice_get [] i ≡ Some x → ⊥
      nothing i x h = cc

  changing_more : (cs : List Changed) (next : ℕ) (xs after : List EntryChange) (x : EntryChange) (c : Changed) → AreChanging d b log cs next xs → length xs ≡ length cs → IsChange d b log next x → x.changed ≡ c → after ≡ xs ++ x ∷ []
      → AreChanging d b log (cs ++ c ∷ []) (cond (eqb x.edge next) (next + 1) next) after
  changing_more cs next xs after x c a len is same p = record {
    place = go is;
    each = λ i y h. place i y (get_last xs x y i (subst (λ ys. slice_get ys i ≡ Some y) p h));
  }
    where
      go : IsChange d b log next x → cond (eqb x.edge next) (next + 1) next ≡ length (rows_of d b log) + length (unknown d b log (cs ++ c ∷ []))
      go (inl k) =
          let low = k.1 in
          let pl = a.place in
          let u = unknown_more cs c true (subst (λ (y : Changed). list_any (λ f. same_pair f.pair y.pair) (edges d b log) ≡ true) same k.0) in
          let z : eqb x.edge next ≡ false = ne_eqb x.edge next (λ q. omega (arith, low, pl, q)) in
          ap (λ t. cond t (next + 1) next) z ∙ omega (arith, pl, u)
      go (inr k) =
          let pl = a.place in
          let u = unknown_more cs c false (subst (λ (y : Changed). list_any (λ f. same_pair f.pair y.pair) (edges d b log) ≡ false) same k.0) in
          ap (λ t. cond t (next + 1) next) (eq-eqb x.edge next k.1) ∙ omega (arith, pl, u)

      place : (i : ℕ) (y : EntryChange) → ((i < length xs) × (slice_get xs i ≡ Some y)) ⊎ ((i ≡ length xs) × (x ≡ y)) → IsChange d b log (length (rows_of d b log) + length (unknown d b log (take i (cs ++ c ∷ [])))) y
      place i y (inl h) = let l = h.0 in subst (λ ys. IsChange d b log (length (rows_of d b log) + length (unknown d b log ys)) y) (sym (take_front i cs c (omega (arith, l, len)))) (a.each i y h.1)
      place i y (inr h) =
          let at : i ≡ length cs = h.0 ∙ len in
          let whole : take i (cs ++ c ∷ []) ≡ cs = ap (λ k. take k (cs ++ c ∷ [])) at ∙ (take_front (length cs) cs c (omega arith) ∙ take_own cs) in
          subst (IsChange d b log (length (rows_of d b log) + length (unknown d b log (take i (cs ++ c ∷ []))))) h.1
          (subst (λ n. IsChange d b log n x) (a.place ∙ sym (ap (λ ys. length (rows_of d b log) + length (unknown d b log ys)) whole)) is)

  -- one change more of those that a list gives
  pub changing_next : (cs : List Changed) (k : ℕ) (c : Changed) (next : ℕ) (xs after : List EntryChange) (x : EntryChange) → k < length cs → c ≡ get_or cs k c → AreChanging d b log (take k cs) next xs → map (λ (y : EntryChange). y.changed) xs ≡ take k cs
      → IsChange d b log next x → x.changed ≡ c → after ≡ xs ++ x ∷ [] → AreChanging d b log (take (k + 1) cs) (cond (eqb x.edge next) (next + 1) next) after
  changing_next cs k c next xs after x l q a m is same p =
      subst (λ ys. AreChanging d b log ys (cond (eqb x.edge next) (next + 1) next) after) (ap (λ y. take k cs ++ y ∷ []) q ∙ sym (take_more cs k c l))
      (changing_more (take k cs) next xs after x c a (sym (mapped xs) ∙ ap length m) is same p)
    where
      mapped : (ys : List EntryChange) → length (map (λ (y : EntryChange). y.changed) ys) ≡ length ys
      mapped [] = refl
      mapped (y ∷ ys) = ap suc (mapped ys)

pub pairs_next : (cs : List Changed) (k : ℕ) (c : Changed) (xs after : List EntryChange) (x : EntryChange) → k < length cs → c ≡ get_or cs k c → map (λ (y : EntryChange). y.changed) xs ≡ take k cs → x.changed ≡ c → after ≡ xs ++ x ∷ []
    → map (λ (y : EntryChange). y.changed) after ≡ take (k + 1) cs
pairs_next cs k c xs after x l q m same p =
    ap (map (λ (y : EntryChange). y.changed)) p ∙ (map-append (λ (y : EntryChange). y.changed) xs (x ∷ []) ∙ (ap (λ ys. ys ++ x.changed ∷ []) m ∙ (ap (λ y. take k cs ++ y ∷ []) (same ∙ q) ∙ sym (take_more cs k c l))))

-- the new edges' records hold no change
no_changes : (p : Pair) (n : ℕ) (es : List Edge) → list_any (change_of p) (map (EdgeRow n) es) ≡ false
unfolding change_of
no_changes p n [] = refl
no_changes p n (x ∷ es) = no_changes p n es

changes_over : (rows more : List Row) (p : Pair) (word : ℕ) → IsHeaded rows → ChangesEndAt p rows word → list_any (is_edge p) more ≡ false → list_any (change_of p) more ≡ false → ChangesEndAt p (rows ++ more) word
changes_over rows [] p word h e ne nc = subst (λ rs. ChangesEndAt p rs word) (sym (append-nil rows)) e
changes_over rows (r ∷ more) p word h e ne nc =
    let a = or_none (is_edge p r) (list_any (is_edge p) more) ne in
    let c = or_none (change_of p r) (list_any (change_of p) more) nc in
    subst (λ rs. ChangesEndAt p rs word) (append_assoc rows (r ∷ []) more)
    (changes_over (rows ++ r ∷ []) more p word (headers_stay rows (r ∷ []) h) (changes_stay rows r p word h e a.0 c.0) a.1 c.1)

none_both : (test : Row → Bool) (xs ys : List Row) → list_any test xs ≡ false → list_any test ys ≡ false → list_any test (xs ++ ys) ≡ false
none_both test [] ys a c = c
none_both test (x ∷ xs) ys a c = let p = or_none (test x) (list_any test xs) a in rw (p.0, none_both test xs ys p.1 c) refl

get_behind : (xs ys : List Row) (j : ℕ) (row : Row) → slice_get ys j ≡ Some row → slice_get (xs ++ ys) (length xs + j) ≡ Some row
get_behind [] ys j row h = let e : 0 + j ≡ j = omega arith in rw e h
get_behind (x ∷ xs) ys j row h = let e : suc (length xs) + j ≡ suc (length xs + j) = omega arith in rw e (get_behind xs ys j row h)

any_there : (test : Row → Bool) (rows : List Row) (p : ℕ) (row : Row) → slice_get rows p ≡ Some row → test row ≡ true → list_any test rows ≡ true
any_there test [] p row h t = cc
any_there test (r ∷ rows) zero row h t = let q : r ≡ row = cc in ap (λ u. u || list_any test rows) (ap test q ∙ t)
any_there test (r ∷ rows) (suc p) row h t = go (test r) (any_there test rows p row h t)
  where
    go : (u : Bool) → list_any test rows ≡ true → (u || list_any test rows) ≡ true
    go true q = refl
    go false q = q

-- where an item that passes stands among those that do
get_kept : {X : Type 0} (test : X → Bool) (xs : List X) (i : ℕ) (x : X) → slice_get xs i ≡ Some x → test x ≡ true → slice_get (filter test xs) (length (filter test (take i xs))) ≡ Some x
get_kept test [] i x h t = cc
get_kept test (y ∷ xs) zero x h t = let q : y ≡ x = cc in let u : test y ≡ true = ap test q ∙ t in rw u (ap Some q)
get_kept {X = X} test (y ∷ xs) (suc i) x h t = go (test y) (get_kept test xs i x h t)
  where
    go : (u : Bool) → slice_get (filter test xs) (length (filter test (take i xs))) ≡ Some x → slice_get (cond u (y ∷ filter test xs) (filter test xs)) (length (cond u (y ∷ filter test (take i xs)) (filter test (take i xs)))) ≡ Some x
    go true ih = ih
    go false ih = ih

get_map : {X Y : Type 0} (f : X → Y) (xs : List X) (i : ℕ) (x : X) → slice_get xs i ≡ Some x → slice_get (map f xs) i ≡ Some (f x)
get_map f [] i x h = cc
get_map f (y ∷ xs) zero x h = let q : y ≡ x = cc in ap (λ z. Some (f z)) q
get_map f (y ∷ xs) (suc i) x h = get_map f xs i x h

-- a known pair is none of the new edges
not_new : (fs : List Edge) (p : Pair) → list_any (λ g. same_pair g.pair p) fs ≡ true → (n m : ℕ) (cs : List Changed)
    → list_any (is_edge p) (map (EdgeRow n) (map (λ c. record { pair = c.pair; weight = Affinity m; active = false }) (filter (λ c. not (list_any (λ g. same_pair g.pair c.pair) fs)) cs))) ≡ false
unfolding is_edge
not_new fs p k n m [] = refl
not_new fs p k n m (c ∷ cs) = go (list_any (λ g. same_pair g.pair c.pair) fs) refl (not_new fs p k n m cs)
  where
    rest : List Edge
    rest = map (λ x. record { pair = x.pair; weight = Affinity m; active = false }) (filter (λ x. not (list_any (λ g. same_pair g.pair x.pair) fs)) cs)

    other : (t : Bool) → same_pair c.pair p ≡ t → list_any (λ g. same_pair g.pair c.pair) fs ≡ false → t ≡ false
    other true e u = absurd (false≢true (sym u ∙ subst (λ q. list_any (λ g. same_pair g.pair q) fs ≡ true) (sym (same_pairs c.pair p e)) k))
    other false e u = refl

    go : (t : Bool) → list_any (λ g. same_pair g.pair c.pair) fs ≡ t → list_any (is_edge p) (map (EdgeRow n) rest) ≡ false
        → list_any (is_edge p) (map (EdgeRow n) (map (λ x. record { pair = x.pair; weight = Affinity m; active = false }) (cond (not t) (c ∷ filter (λ x. not (list_any (λ g. same_pair g.pair x.pair) fs)) cs) (filter (λ x. not (list_any (λ g. same_pair g.pair x.pair) fs)) cs)))) ≡ false
    go true e ih = ih
    go false e ih = let z : same_pair c.pair p ≡ false = other (same_pair c.pair p) refl e in rw z ih

before_at : (cs : List Changed) → Differ (λ (c x : Changed). Before c.pair x.pair) cs → (i j : ℕ) (c x : Changed) → i < j → slice_get cs i ≡ Some c → slice_get cs j ≡ Some x → Before c.pair x.pair
before_at [] a i j c x l h g = cc
before_at (y ∷ cs) a i zero c x l h g = absurd (omega arith)
before_at (y ∷ cs) a zero (suc j) c x l h g = let q : y ≡ c = cc in subst (λ z. Before z.pair x.pair) q (all_at cs a.0 j x g)
  where
    all_at : (ys : List Changed) → AllByRecursion (λ (z : Changed). Before y.pair z.pair) ys → (k : ℕ) (z : Changed) → slice_get ys k ≡ Some z → Before y.pair z.pair
    all_at [] b k z h = cc
    all_at (w ∷ ys) b zero z h = let q : w ≡ z = cc in subst (λ (v : Changed). Before y.pair v.pair) q b.0
    all_at (w ∷ ys) b (suc k) z h = all_at ys b.1 k z h
before_at (y ∷ cs) a (suc i) (suc j) c x l h g = before_at cs a.1 i j c x (omega arith) h g

not_self : (p q : Pair) → Before p q → p ≡ q → ⊥
unfolding pair_before
not_self p q h e = let z : Before p p = subst (Before p) (sym e) h in self p z
  where
    self : (x : Pair) → Before x x → ⊥
    self x h = grind arith

module _ (d : Dataset) (b : Base) (f : Entry) (old : List Entry) (e : Entry) (legal : Legal d b (e ∷ f ∷ old)) where
  abbrev log : List Entry
  log = f ∷ old

  abbrev rows : List Row
  rows = rows_of d b (f ∷ old)

  abbrev new : List Row
  new = map (EdgeRow e.number) (new_edges d b (f ∷ old) e)

  whole : (rest : List Row) × (rows_of d b (e ∷ f ∷ old) ≡ (rows ++ new) ++ rest)
  unfolding rows_of entry_rows
  whole = (_, sym (append_assoc (rows_of d b (f ∷ old)) (map (EdgeRow e.number) (new_edges d b (f ∷ old) e)) _))

  -- in the records with the new edges behind no two are of one pair
  once : (p q : ℕ) (pair : Pair) (row other : Row) → slice_get (rows ++ new) p ≡ Some row → is_edge pair row ≡ true → slice_get (rows ++ new) q ≡ Some other → is_edge pair other ≡ true → q ≡ p
  once p q pair row other h t g u =
      let w = whole in
      edge_once d b e (f ∷ old) legal p q pair row other (subst (λ rs. slice_get rs p ≡ Some row) (sym w.1) (slice_get-append (rows ++ new) w.0 p row h)) t
      (subst (λ rs. slice_get rs q ≡ Some other) (sym w.1) (slice_get-append (rows ++ new) w.0 q other g)) u

  is_change : (i : ℕ) (x : EntryChange) → slice_get e.changed i ≡ Some x.changed → IsChange d b (f ∷ old) (length rows + length (unknown d b (f ∷ old) (take i e.changed))) x → IsAtChange (rows ++ new) x
  unfolding new_edges unknown is_edge
  is_change i x h (inl k) = record {
    edge = found_stays (is_edge x.changed.pair) rows new (subst (λ n. 0 < n) (sym k.2.edge) k.2.behind) ∙ k.2.edge;
    behind = k.2.behind;
    ends = changes_over rows new x.changed.pair (word_number x.last) (headed_log d b (f ∷ old)) k.2.ends (not_new (edges d b (f ∷ old)) x.changed.pair k.0 e.number d.merge_affinity e.changed) (no_changes x.changed.pair e.number (new_edges d b (f ∷ old) e));
    pointer = k.2.pointer;
    in_record = k.2.in_record;
  }
  is_change i x h (inr k) =
      let ed : Edge = record { pair = x.changed.pair; weight = Affinity d.merge_affinity; active = false } in
      let t : not (list_any (λ g. same_pair g.pair x.changed.pair) (edges d b (f ∷ old))) ≡ true = ap not k.0 in
      let j : ℕ = length (unknown d b (f ∷ old) (take i e.changed)) in
      let there : slice_get (rows ++ new) (length rows + j) ≡ Some (EdgeRow e.number ed) =
      get_behind rows new j (EdgeRow e.number ed) (get_map (EdgeRow e.number) (new_edges d b (f ∷ old) e) j ed
      (get_map (λ (c : Changed). record { pair = c.pair; weight = Affinity d.merge_affinity; active = false }) (unknown d b (f ∷ old) e.changed) j x.changed
      (get_kept (λ (c : Changed). not (list_any (λ g. same_pair g.pair c.pair) (edges d b (f ∷ old)))) e.changed i x.changed h t))) in
      let own : is_edge x.changed.pair (EdgeRow e.number ed) ≡ true = same_pair_self x.changed.pair in
      let found = found_from (is_edge x.changed.pair) (rows ++ new) 0 (rows ++ new) refl (any_there (is_edge x.changed.pair) (rows ++ new) (length rows + j) (EdgeRow e.number ed) there own) in
      let some = more_rows d b (f ∷ old) in
      let none : list_any (change_of x.changed.pair) (rows ++ new) ≡ false =
      none_both (change_of x.changed.pair) rows new (unchanged d b (f ∷ old) x.changed.pair k.0) (no_changes x.changed.pair e.number (new_edges d b (f ∷ old) e)) in
      record {
        edge = once (length rows + j) (place_from (is_edge x.changed.pair) 0 (rows ++ new)) x.changed.pair (EdgeRow e.number ed) found.0 there own found.1 found.2 ∙ sym k.1;
        behind = subst (λ n. 0 < n) (sym k.1) (omega (arith, some));
        ends = subst (λ (t : Tail). ChangesEndAt x.changed.pair (rows ++ new) (word_number t)) (sym k.2)
            (edges_without_end (rows ++ new) (length rows + j) e.number ed (headers_stay rows new (headed_log d b (f ∷ old))) there none
            (λ q other g u. once (length rows + j) q x.changed.pair (EdgeRow e.number ed) other there own g u));
        pointer = subst (λ (t : Tail). 4 ≤ t.word) (sym k.2) (omega arith);
        in_record = subst (λ (t : Tail). t.word < 8) (sym k.2) (omega arith);
      }

  changed_at : (xs : List EntryChange) (cs : List Changed) → map (λ (x : EntryChange). x.changed) xs ≡ cs → (i : ℕ) (x : EntryChange) → slice_get xs i ≡ Some x → slice_get cs i ≡ Some x.changed
  changed_at xs cs m i x h = subst (λ ys. slice_get ys i ≡ Some x.changed) m (get_map (λ (y : EntryChange). y.changed) xs i x h)

  all_changes : (xs : List EntryChange) (n : ℕ) → map (λ (x : EntryChange). x.changed) xs ≡ e.changed → AreChanging d b (f ∷ old) e.changed n xs → AreChanges (rows ++ new) xs
  all_changes xs n m a = record {
    each = λ i x h. is_change i x (changed_at xs e.changed m i x h) (a.each i x h);
    differ = λ i j x y h g s.
        let up = (all_ascend d b (e ∷ f ∷ old) legal).0 in
        let hx = changed_at xs e.changed m i x h in
        let gy = changed_at xs e.changed m j y g in
        let z = same_pairs x.changed.pair y.changed.pair s in
        elim (cases_order i j) [
          | inl q ↦ q
          | inr (inl l) ↦ absurd (not_self x.changed.pair y.changed.pair (before_at e.changed up i j x.changed y.changed l hx gy) z)
          | inr (inr l) ↦ absurd (not_self y.changed.pair x.changed.pair (before_at e.changed up j i y.changed x.changed l gy hx) (sym z))
        ];
  }

pub changes_are : (d : Dataset) (b : Base) (log : List Entry) (e : Entry) (words : List ℕ) → IsBehind d b log e words → (cs : List Changed) → e.changed ≡ cs → (xs : List EntryChange) (n : ℕ) → map (λ (x : EntryChange). x.changed) xs ≡ cs
    → AreChanging d b log cs n xs → AreChanges (rows_of d b log ++ map (EdgeRow e.number) (new_edges d b log e)) xs
changes_are d b log e words i cs q xs n m a = go log i.image.legal i.legal (subst (λ ys. AreChanging d b log ys n xs) (sym q) a)
  where
    go : (old : List Entry) → Legal d b old → Legal d b (e ∷ old) → AreChanging d b old e.changed n xs → AreChanges (rows_of d b old ++ map (EdgeRow e.number) (new_edges d b old e)) xs
    go [] l k a = absurd l
    go (f ∷ old) l k a = all_changes d b f old e k xs n (m ∙ sym q) a

-- the change of a pair that has an edge, at its places
pub known_change : (d : Dataset) (b : Base) (log : List Entry) (c : Changed) (place made : ℕ) (x : Edge) (last : Tail) {found : Option ℕ} → list_any (λ g. same_pair g.pair c.pair) (edges d b log) ≡ true
    → found ≡ first_place (is_edge c.pair) (rows_of d b log) → found ≡ Some place → slice_get (rows_of d b log) place ≡ Some (EdgeRow made x) → x.pair ≡ c.pair → ChangesEndAt x.pair (rows_of d b log) (word_number last) → 4 ≤ last.word → last.word < 8
    → (next : ℕ) → IsChange d b log next (record { changed = c; edge = place; last = last })
unfolding first_place place_of
known_change d b log c place made x last {found = found} k e f h q ends low high next = inl (k, slice_get_within (rows_of d b log) place (EdgeRow made x) h, go (place_from (is_edge c.pair) 0 (rows_of d b log)) refl)
  where
    go : (n : ℕ) → place_from (is_edge c.pair) 0 (rows_of d b log) ≡ n → IsAtChange (rows_of d b log) (record { changed = c; edge = place; last = last })
    go n z = some n z (sym (e ∙ ap place_of z) ∙ f)
      where
        some : (m : ℕ) → place_from (is_edge c.pair) 0 (rows_of d b log) ≡ m → place_of m ≡ Some place → IsAtChange (rows_of d b log) (record { changed = c; edge = place; last = last })
        some zero z w = cc
        some (suc m) z w =
            let own : Some (suc m) ≡ Some place = sym (place_of-some (suc m) (omega arith)) ∙ w in
            let at : suc m ≡ place = cc in
            record { edge = z ∙ at; behind = omega (arith, at); ends = subst (λ p. ChangesEndAt p (rows_of d b log) (word_number last)) q ends; pointer = low; in_record = high }
