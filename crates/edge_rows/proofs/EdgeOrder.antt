-- The records of edges and changes by their places: those of the base's edges stand in a row behind its chunks, ascending by pair, and the changes in the order of their entries.
use Rattle.std.proofs.Common.{◌≡◌, ℕ, zero, suc, ◌+◌, ◌-◌, ◌<◌, ◌≤◌, true, List, [], ◌∷◌, ◌++◌, length, map, Some, refl, sym, ◌∙◌, ap, subst, inl, inr, ◌⊎◌, arith, append_assoc}
use Rattle.std.specs.List.{AllByRecursion, slice_get}
use Rattle.std.proofs.lemmas.Option.{slice_get_within}
use Rattle.op_model.specs.declared.base.Dataset.{Dataset}
use Rattle.op_model.specs.declared.base.Base.{Base}
use Rattle.op_model.specs.declared.base.Edge.{Edge}
use Rattle.op_model.specs.declared.base.Pair.{Pair}
use Rattle.op_model.specs.declared.entry.Changed.{Changed}
use Rattle.op_model.specs.declared.entry.Entry.{Entry}
use Rattle.op_model.specs.Edges.{pair_before}
use Rattle.op_model.specs.Labels.{edges}
use Rattle.op_model.specs.Legal.{Legal}
use Rattle.op_model.proofs.OrderLemmas.{After, Sorted, after_sorted}
use Rattle.record_rows.specs.Rows.{Row, NodeRow, LinkRow, EdgeRow, ChangeRow, ItemRow, EntryRow}
use Rattle.record_rows.specs.LogRows.{marks, chunks, new_nodes, new_links, new_edges, entry_rows, base_rows, rows_of}
use Rattle.record_rows.specs.Readings.{HoldsEdge, HoldsChange}
use Rattle.record_rows.proofs.DifferLemmas.{all_append, all_more, all_each, all_map}
use Rattle.record_rows.proofs.RowFacts.{all_at, all_base, all_entry}
use Rattle.record_rows.proofs.EntryRecords.{get_cases, number_told}

-- the number that the record of an edge or a change names is this
abbrev Dated : (ℕ → Type 0) → Row → Type 0
Dated P (EdgeRow made e) = P made
Dated P (ChangeRow entry c) = P entry
Dated P row = Unit {0}

dated_more : (P Q : ℕ → Type 0) → ((k : ℕ) → P k → Q k) → (row : Row) → Dated P row → Dated Q row
dated_more P Q f (EdgeRow made e) h = f made h
dated_more P Q f (ChangeRow entry c) h = f entry h
dated_more P Q f row h = tt

abbrev NoEdge : Row → Type 0
NoEdge (EdgeRow made e) = ⊥
NoEdge row = Unit {0}

get_first : (xs ys : List Row) (p : ℕ) (row : Row) → slice_get xs p ≡ Some row → slice_get (xs ++ ys) p ≡ Some row
get_first [] ys p row h = cc
get_first (x ∷ xs) ys zero row h = h
get_first (x ∷ xs) ys (suc p) row h = get_first xs ys p row h

get_second : (xs ys : List Row) (q : ℕ) → slice_get (xs ++ ys) (length xs + q) ≡ slice_get ys q
get_second [] ys q = let e : 0 + q ≡ q = omega arith in ap (slice_get ys) e
get_second (x ∷ xs) ys q = let e : length (x ∷ xs) + q ≡ suc (length xs + q) = omega arith in ap (slice_get (x ∷ (xs ++ ys))) e ∙ get_second xs ys q

get_map : (n : ℕ) (es : List Edge) (k : ℕ) (e : Edge) → slice_get es k ≡ Some e → slice_get (map (EdgeRow n) es) k ≡ Some (EdgeRow n e)
get_map n [] k e h = cc
get_map n (x ∷ es) zero e h = let q : x ≡ e = cc in ap (λ y. Some (EdgeRow n y)) q
get_map n (x ∷ es) (suc k) e h = get_map n es k e h

of_edge : (m n : ℕ) (x e : Edge) → Some (EdgeRow m x) ≡ Some (EdgeRow n e) → x ≡ e
of_edge m n x e h = cc

unmap : (n made : ℕ) (es : List Edge) (k : ℕ) (e : Edge) → slice_get (map (EdgeRow n) es) k ≡ Some (EdgeRow made e) → slice_get es k ≡ Some e
unmap n made [] k e h = cc
unmap n made (x ∷ es) zero e h = ap Some (of_edge n made x e h)
unmap n made (x ∷ es) (suc k) e h = unmap n made es k e h

edge_there : (es : List Edge) (k : ℕ) → k < length es → (e : Edge) × (slice_get es k ≡ Some e)
edge_there [] k l = absurd (omega arith)
edge_there (x ∷ es) zero l = (x, refl)
edge_there (x ∷ es) (suc k) l = edge_there es k (omega arith)

edge_within : (es : List Edge) (k : ℕ) (e : Edge) → slice_get es k ≡ Some e → k < length es
edge_within [] k e h = cc
edge_within (x ∷ es) zero e h = omega arith
edge_within (x ∷ es) (suc k) e h = let l = edge_within es k e h in omega arith

after_at : (p : Pair) (es : List Edge) → After p es → (k : ℕ) (e : Edge) → slice_get es k ≡ Some e → pair_before p e.pair ≡ true
after_at p [] a k e h = cc
after_at p (x ∷ es) a zero e h = let q : x ≡ e = cc in ap (λ y. pair_before p y.pair) (sym q) ∙ a.0
after_at p (x ∷ es) a (suc k) e h = after_at p es a.1 k e h

sorted_at : (es : List Edge) → Sorted es → (j k : ℕ) (e f : Edge) → j < k → slice_get es j ≡ Some e → slice_get es k ≡ Some f → pair_before e.pair f.pair ≡ true
sorted_at [] s j k e f l h g = cc
sorted_at (x ∷ es) s j zero e f l h g = absurd (omega arith)
sorted_at (x ∷ es) s zero (suc k) e f l h g = let q : x ≡ e = cc in ap (λ y. pair_before y.pair f.pair) (sym q) ∙ after_at x.pair es s.0 k f g
sorted_at (x ∷ es) s (suc j) (suc k) e f l h g = sorted_at es s.1 j k e f (omega arith) h g

module _ (d : Dataset) (b : Base) where
  -- the records of an entry name it
  dated_entry : (log : List Entry) (e : Entry) → AllByRecursion (Dated (λ k. k ≡ e.number)) (entry_rows d b log e)
  dated_entry log e =
      all_entry d b (Dated (λ k. k ≡ e.number)) log e (λ x. refl) (λ i. tt) (λ c. refl)
      (all_each (λ n. Unit {0}) (new_nodes d b (e ∷ log) e.number) (λ n. tt)) (all_each (λ l. Unit {0}) (new_links d b (e ∷ log) e.number) (λ l. tt)) tt

  base_undated : (P : ℕ → Type 0) → AllByRecursion (Dated P) (base_rows d b)
  base_undated P = all_base d b (Dated P) tt (all_each (λ v. Unit {0}) b.supervoxels (λ v. tt)) (all_each (λ c. Unit {0}) (chunks d b) (λ c. tt))

  base_no_edge : AllByRecursion NoEdge (base_rows d b)
  base_no_edge = all_base d b NoEdge tt (all_each (λ v. Unit {0}) b.supervoxels (λ v. tt)) (all_each (λ c. Unit {0}) (chunks d b) (λ c. tt))

  -- the records of a log name its entries
  dated_below : (log : List Entry) → Legal d b log → AllByRecursion (Dated (λ k. k < length log)) (rows_of d b log)
  unfolding rows_of
  dated_below [] legal = absurd legal
  dated_below (e ∷ []) legal =
      let n : e.number ≡ 0 = number_told d b e [] legal in
      all_append (Dated (λ k. k < 1)) (base_rows d b) (entry_rows d b [] e) (base_undated (λ k. k < 1))
      (all_more (Dated (λ k. k ≡ e.number)) (Dated (λ k. k < 1)) (entry_rows d b [] e) (dated_more (λ k. k ≡ e.number) (λ k. k < 1) (λ k q. omega arith)) (dated_entry [] e))
  dated_below (e ∷ f ∷ log) legal =
      let n : e.number ≡ length (f ∷ log) = number_told d b e (f ∷ log) legal in
      let all = length (e ∷ f ∷ log) in
      all_append (Dated (λ k. k < all)) (rows_of d b (f ∷ log)) (entry_rows d b (f ∷ log) e)
      (all_more (Dated (λ k. k < length (f ∷ log))) (Dated (λ k. k < all)) (rows_of d b (f ∷ log)) (dated_more (λ k. k < length (f ∷ log)) (λ k. k < all) (λ k q. omega arith)) (dated_below (f ∷ log) legal.1))
      (all_more (Dated (λ k. k ≡ e.number)) (Dated (λ k. k < all)) (entry_rows d b (f ∷ log) e) (dated_more (λ k. k ≡ e.number) (λ k. k < all) (λ k q. omega arith)) (dated_entry (f ∷ log) e))

  -- of two changes the first is of no later entry
  pub changes_ordered : (log : List Entry) → Legal d b log → (p q m n : ℕ) (c x : Changed) → p ≤ q → HoldsChange d b log p m c → HoldsChange d b log q n x → m ≤ n
  unfolding rows_of
  changes_ordered [] legal p q m n c x l h k = absurd legal
  changes_ordered (e ∷ log) legal p q m n c x l h k =
      go log legal (get_cases (rows_of d b log) (entry_rows d b log e) p (ChangeRow m c) h) (get_cases (rows_of d b log) (entry_rows d b log e) q (ChangeRow n x) k) (λ s. changes_ordered log s p q m n c x l)
    where
      go : (old : List Entry) → Legal d b (e ∷ old) → (slice_get (rows_of d b old) p ≡ Some (ChangeRow m c)) ⊎ ((i : ℕ) × (p ≡ length (rows_of d b old) + i) × (slice_get (entry_rows d b old e) i ≡ Some (ChangeRow m c)))
          → (slice_get (rows_of d b old) q ≡ Some (ChangeRow n x)) ⊎ ((i : ℕ) × (q ≡ length (rows_of d b old) + i) × (slice_get (entry_rows d b old e) i ≡ Some (ChangeRow n x)))
          → (Legal d b old → HoldsChange d b old p m c → HoldsChange d b old q n x → m ≤ n) → m ≤ n
      go [] s (inl f) g ih = let z : 1 ≤ 0 = all_at (Dated (λ j. 1 ≤ 0)) (base_rows d b) (base_undated (λ j. 1 ≤ 0)) p (ChangeRow m c) f in absurd (omega (arith, z))
      go (y ∷ old) s (inl f) (inl g) ih = ih s.1 f g
      go (y ∷ old) s (inl f) (inr g) ih =
          let t : e.number ≡ length (y ∷ old) = number_told d b e (y ∷ old) s in
          let i : m < length (y ∷ old) = all_at (Dated (λ j. j < length (y ∷ old))) (rows_of d b (y ∷ old)) (dated_below (y ∷ old) s.1) p (ChangeRow m c) f in
          let j : n ≡ e.number = all_at (Dated (λ j. j ≡ e.number)) (entry_rows d b (y ∷ old) e) (dated_entry (y ∷ old) e) g.0 (ChangeRow n x) g.2 in
          omega arith
      go old s (inr f) (inl g) ih =
          let i : p ≡ length (rows_of d b old) + f.0 = f.1 in
          let j : q < length (rows_of d b old) = slice_get_within (rows_of d b old) q (ChangeRow n x) g in
          absurd (omega arith)
      go old s (inr f) (inr g) ih =
          let i : m ≡ e.number = all_at (Dated (λ j. j ≡ e.number)) (entry_rows d b old e) (dated_entry old e) f.0 (ChangeRow m c) f.2 in
          let j : n ≡ e.number = all_at (Dated (λ j. j ≡ e.number)) (entry_rows d b old e) (dated_entry old e) g.0 (ChangeRow n x) g.2 in
          omega arith

  -- the records before those of the first entry stand first in every log
  pub base_front : (log : List Entry) → (more : List Row) × (rows_of d b log ≡ base_rows d b ++ more)
  unfolding rows_of
  base_front [] = ([], sym (nothing (base_rows d b)))
    where
      nothing : (xs : List Row) → xs ++ [] ≡ xs
      nothing [] = refl
      nothing (x ∷ xs) = ap (λ ys. x ∷ ys) (nothing xs)
  base_front (e ∷ log) =
      let f = base_front log in
      (f.0 ++ entry_rows d b log e, ap (λ rs. rs ++ entry_rows d b log e) f.1 ∙ append_assoc (base_rows d b) f.0 (entry_rows d b log e))

  abbrev pub first : ℕ
  first = length (base_rows d b)

  -- no edge stands among them
  pub edge_high : (log : List Entry) (p made : ℕ) (e : Edge) → HoldsEdge d b log p made e → first ≤ p
  edge_high log p made e h =
      let f = base_front log in
      elim (get_cases (base_rows d b) f.0 p (EdgeRow made e) (sym (ap (λ rs. slice_get rs p) f.1) ∙ h)) [
        | inl s ↦ absurd (all_at NoEdge (base_rows d b) base_no_edge p (EdgeRow made e) s)
        | inr s ↦ let i : p ≡ length (base_rows d b) + s.0 = s.1 in omega arith
      ]

  -- the records of the first entry behind the edges
  rest : Entry → List Row
  rest e = map NodeRow (new_nodes d b (e ∷ []) e.number) ++ (map LinkRow (new_links d b (e ∷ []) e.number) ++ (map ItemRow (marks e.number e.asked) ++ (map (ChangeRow e.number) e.changed ++ EntryRow e ∷ [])))

  rest_no_edge : (e : Entry) → AllByRecursion NoEdge (rest e)
  unfolding rest
  rest_no_edge e =
      all_append NoEdge _ _ (all_map NodeRow NoEdge (new_nodes d b (e ∷ []) e.number) (all_each (λ x. Unit {0}) (new_nodes d b (e ∷ []) e.number) (λ x. tt)))
      (all_append NoEdge _ _ (all_map LinkRow NoEdge (new_links d b (e ∷ []) e.number) (all_each (λ x. Unit {0}) (new_links d b (e ∷ []) e.number) (λ x. tt)))
      (all_append NoEdge _ _ (all_map ItemRow NoEdge (marks e.number e.asked) (all_each (λ x. Unit {0}) (marks e.number e.asked) (λ x. tt)))
      (all_append NoEdge _ _ (all_map (ChangeRow e.number) NoEdge e.changed (all_each (λ x. Unit {0}) e.changed (λ x. tt))) (tt, tt))))

  edges_then : (e : Entry) → entry_rows d b [] e ≡ map (EdgeRow e.number) (edges d b []) ++ rest e
  unfolding entry_rows new_edges rest
  edges_then e = refl

  -- each edge of the base has its record
  pub base_edge_at : (log : List Entry) → Legal d b log → (k : ℕ) (e : Edge) → slice_get (edges d b []) k ≡ Some e → HoldsEdge d b log (first + k) 0 e
  unfolding rows_of
  base_edge_at [] legal k e h = absurd legal
  base_edge_at (f ∷ []) legal k e h =
      let n : f.number ≡ 0 = number_told d b f [] legal in
      get_second (base_rows d b) (entry_rows d b [] f) k
      ∙ (ap (λ rs. slice_get rs k) (edges_then f)
      ∙ (get_first (map (EdgeRow f.number) (edges d b [])) (rest f) k (EdgeRow f.number e) (get_map f.number (edges d b []) k e h) ∙ ap (λ m. Some (EdgeRow m e)) n))
  base_edge_at (f ∷ g ∷ log) legal k e h = get_first (rows_of d b (g ∷ log)) (entry_rows d b (g ∷ log) f) (first + k) (EdgeRow 0 e) (base_edge_at (g ∷ log) legal.1 k e h)

  -- and each record that names the first entry is of one of them
  pub base_edge_is : (log : List Entry) → Legal d b log → (p : ℕ) (e : Edge) → HoldsEdge d b log p 0 e → (k : ℕ) × (p ≡ first + k) × (slice_get (edges d b []) k ≡ Some e)
  unfolding rows_of
  base_edge_is [] legal p e h = absurd legal
  base_edge_is (f ∷ []) legal p e h =
      elim (get_cases (base_rows d b) (entry_rows d b [] f) p (EdgeRow 0 e) h) [
        | inl s ↦ absurd (all_at NoEdge (base_rows d b) base_no_edge p (EdgeRow 0 e) s)
        | inr s ↦ inner s.0 s.1 (get_cases (map (EdgeRow f.number) (edges d b [])) (rest f) s.0 (EdgeRow 0 e) (sym (ap (λ rs. slice_get rs s.0) (edges_then f)) ∙ s.2))
      ]
    where
      inner : (q : ℕ) → p ≡ length (base_rows d b) + q
          → (slice_get (map (EdgeRow f.number) (edges d b [])) q ≡ Some (EdgeRow 0 e)) ⊎ ((i : ℕ) × (q ≡ length (map (EdgeRow f.number) (edges d b [])) + i) × (slice_get (rest f) i ≡ Some (EdgeRow 0 e)))
          → (k : ℕ) × (p ≡ first + k) × (slice_get (edges d b []) k ≡ Some e)
      inner q i (inl s) = (q, i, unmap f.number 0 (edges d b []) q e s)
      inner q i (inr s) = absurd (all_at NoEdge (rest f) (rest_no_edge f) s.0 (EdgeRow 0 e) s.2)
  base_edge_is (f ∷ g ∷ log) legal p e h =
      elim (get_cases (rows_of d b (g ∷ log)) (entry_rows d b (g ∷ log) f) p (EdgeRow 0 e) h) [
        | inl s ↦ base_edge_is (g ∷ log) legal.1 p e s
        | inr s ↦
            let n : f.number ≡ length (g ∷ log) = number_told d b f (g ∷ log) legal in
            let z : 0 ≡ f.number = all_at (Dated (λ j. j ≡ f.number)) (entry_rows d b (g ∷ log) f) (dated_entry (g ∷ log) f) s.0 (EdgeRow 0 e) s.2 in
            absurd (omega arith)
      ]

  -- of a place before that of a base's edge and behind the chunks: an edge of the base before it
  pub edge_before : (log : List Entry) → Legal d b log → (p q : ℕ) (e : Edge) → HoldsEdge d b log p 0 e → first ≤ q → q < p → (f : Edge) × HoldsEdge d b log q 0 f × (pair_before f.pair e.pair ≡ true)
  unfolding edges
  edge_before log legal p q e h low less =
      let x = base_edge_is log legal p e h in
      let i : p ≡ first + x.0 = x.1 in
      let j : ℕ = q - first in
      let w = edge_within (edges d b []) x.0 e x.2 in
      let f = edge_there (edges d b []) j (omega arith) in
      let to : first + j ≡ q = omega arith in
      (f.0, subst (λ y. HoldsEdge d b log y 0 f.0) to (base_edge_at log legal j f.0 f.1), sorted_at (edges d b []) (after_sorted b.edges d.merge_affinity []) j x.0 f.0 e (omega arith) f.1 x.2)
