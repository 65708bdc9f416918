-- The nodes that an entry retires are those of its changed pairs' ends.
use Rattle.std.proofs.Common.{◌≡◌, ℕ, zero, suc, ◌+◌, ◌*◌, ◌<◌, ◌≤◌, Bool, true, false, cond, ◌||◌, ◌&&◌, ltb, List, [], ◌∷◌, ◌++◌, length, get_or, Some, refl, sym, ◌∙◌, ap, subst, inl, inr, ◌⊎◌, arith}
use Rattle.std.specs.List.{AllByRecursion, slice_get, list_any}
use Rattle.std.proofs.lemmas.Bool.{false≢true, lt-ltb, ltb-true}
use Rattle.op_model.specs.declared.base.Dataset.{Dataset}
use Rattle.op_model.specs.declared.base.Base.{Base}
use Rattle.op_model.specs.declared.entry.Entry.{Entry}
use Rattle.graph_model.specs.Lists.{has}
use Rattle.graph_model.proofs.ListLemmas.{has_cases, has_head, has_none, has_tail}
use Rattle.op_model.specs.Labels.{component, node, touches}
use Rattle.op_model.specs.Valid.{IsDataset, IsBase}
use Rattle.op_model.specs.Legal.{Legal}
use Rattle.op_model.proofs.LabelLemmas.{own_component}
use Rattle.op_model.proofs.LocalLemmas.{touches_end}
use Rattle.layer_laws.proofs.RemakeLemmas.{touches_more, ends_touch}
use Rattle.record_rows.specs.Rows.{Row, HeaderRow, NodeRow, EntryRow, Node}
use Rattle.record_rows.specs.Chains.{aims, retires}
use Rattle.record_rows.specs.Words.{place_from, pointer_word, words_of}
use Rattle.record_rows.specs.LogRows.{rows_of, base_rows, entry_rows}
use Rattle.record_rows.proofs.DifferLemmas.{all_more}
use Rattle.record_rows.proofs.GrowthLemmas.{slice_get-append}
use Rattle.record_rows.proofs.Lookups.{pointer_at}
use Rattle.record_rows.proofs.LinkLemmas.{of_component, same_node}
use Rattle.record_rows.proofs.NodeRecords.{node_records_once}
use Rattle.record_rows.proofs.RowFacts.{made_below}
use Rattle.row_append.specs.Ends.{IsHeaded}
use Rattle.row_append.proofs.EndLaws.{headers_stay}
use Rattle.row_append.proofs.Leaving.{place_none}
use Rattle.current_nodes.proofs.CurrentLemmas.{unretired, current}
use Rattle.current_nodes.specs.Current.{IsCurrent}
use Rattle.grown_rows.specs.Aimed.{AreRetired}
use Rattle.entry_rows.specs.Retiring.{IsBefore, AreOnPaths, PathsAreRetired}
use Rattle.entry_rows.proofs.EdgeSteps.{none_both}

and_both : (a b : Bool) → (a && b) ≡ true → (a ≡ true) × (b ≡ true)
and_both true b e = (refl, e)
and_both false b e = absurd (false≢true e)

or_none : (a b : Bool) → (a || b) ≡ false → (a ≡ false) × (b ≡ false)
or_none true b e = absurd (false≢true (sym e))
or_none false b e = (refl, e)

retiring_row : (n : Node) (row : Row) → retires n row ≡ true → (x : Entry) × (row ≡ EntryRow x)
unfolding retires
retiring_row n (EntryRow x) t = (x, refl)
retiring_row n row t = absurd (false≢true t)

retires_parts : (n : Node) (x : Entry) → retires n (EntryRow x) ≡ true → (n.made < x.number) × (touches x.changed n.leaves ≡ true)
unfolding retires
retires_parts n x t = let p = and_both (ltb n.made x.number) (touches x.changed n.leaves) t in (ltb-true n.made x.number p.0, p.1)

retires_by : (n : Node) (x : Entry) → n.made < x.number → touches x.changed n.leaves ≡ true → retires n (EntryRow x) ≡ true
unfolding retires
retires_by n x l t = let q : ltb n.made x.number ≡ true = lt-ltb n.made x.number l in rw (q, t) refl

none_any : (test : Row → Bool) (rows : List Row) → ((q : ℕ) (row : Row) → slice_get rows q ≡ Some row → test row ≡ true → ⊥) → list_any test rows ≡ false
none_any test [] f = refl
none_any test (r ∷ rows) f = go (test r) refl (none_any test rows (λ q row h t. f (suc q) row h t))
  where
    go : (c : Bool) → test r ≡ c → list_any test rows ≡ false → (c || list_any test rows) ≡ false
    go true e n = absurd (f 0 r refl e)
    go false e n = n

none_front : (test : Row → Bool) (xs ys : List Row) → list_any test (xs ++ ys) ≡ false → list_any test xs ≡ false
none_front test [] ys n = refl
none_front test (x ∷ xs) ys n = let q = or_none (test x) (list_any test (xs ++ ys)) n in rw (q.0, none_front test xs ys q.1) refl

none_found : (test : Row → Bool) (place : ℕ) (rows : List Row) → 1 ≤ place → place_from test place rows ≡ 0 → list_any test rows ≡ false
unfolding place_from
none_found test place [] l z = refl
none_found test place (r ∷ rows) l z = go (test r) z (none_found test (place + 1) rows (omega arith))
  where
    go : (c : Bool) → cond c place (place_from test (place + 1) rows) ≡ 0 → (place_from test (place + 1) rows ≡ 0 → list_any test rows ≡ false) → (c || list_any test rows) ≡ false
    go true z f = absurd (omega arith)
    go false z f = f z

header_no_entry : (d : Dataset) (s c : ℕ) (n : Node) → retires n (HeaderRow d s c) ≡ false
unfolding retires
header_no_entry d s c n = refl

none_retiring : (n : Node) (rows : List Row) → IsHeaded rows → place_from (retires n) 0 rows ≡ 0 → list_any (retires n) rows ≡ false
unfolding place_from
none_retiring n rows h =
    subst (λ rs. place_from (retires n) 0 rs ≡ 0 → list_any (retires n) rs ≡ false) (sym h.begins)
    (λ z. let e : retires n (HeaderRow h.dataset h.supervoxels h.chunks) ≡ false = header_no_entry h.dataset h.supervoxels h.chunks n in
    rw e (none_found (retires n) 1 h.rest (omega arith) (ap (λ b. cond b 0 (place_from (retires n) 1 h.rest)) (sym e) ∙ z)))

pub headed_log : (d : Dataset) (b : Base) (log : List Entry) → IsHeaded (rows_of d b log)
unfolding rows_of base_rows
headed_log d b [] = record { dataset = d; supervoxels = _; chunks = _; rest = _; begins = refl }
headed_log d b (e ∷ log) = headers_stay (rows_of d b log) (entry_rows d b log e) (headed_log d b log)

split : (xs ys : List Row) (p : ℕ) (row : Row) → slice_get (xs ++ ys) p ≡ Some row → (slice_get xs p ≡ Some row) ⊎ ((q : ℕ) × (slice_get ys q ≡ Some row))
split [] ys p row h = inr (p, h)
split (x ∷ xs) ys zero row h = inl h
split (x ∷ xs) ys (suc p) row h = split xs ys p row h

node_same : (m n : Node) → Some (NodeRow m) ≡ Some (NodeRow n) → m ≡ n
node_same m n e = cc

pointer_is : (rows : List Row) (p : ℕ) (n : Node) → slice_get rows p ≡ Some (NodeRow n) → get_or (words_of rows) (8 * p + 6) 0 ≡ place_from (retires n) 0 rows
unfolding aims pointer_word
pointer_is rows p n h = pointer_at rows p 2 (NodeRow n) h (omega arith)

module _ (d : Dataset) (b : Base) (valid : IsDataset d) (base : IsBase d b) (e f : Entry) (log : List Entry) (more : List Row) (places : List ℕ) (legal : Legal d b (f ∷ log)) (number : e.number ≡ length (f ∷ log))
    (before : IsBefore e.number more) (paths : AreOnPaths d b (f ∷ log) e places) where
  abbrev rows : List Row
  rows = rows_of d b (f ∷ log)

  abbrev Wanted : ℕ → Type 0
  Wanted p = (n : Node) × (slice_get (rows ++ more) p ≡ Some (NodeRow n)) × (retires n (EntryRow e) ≡ true) × (get_or (words_of (rows ++ more)) (8 * p + 6) 0 ≡ 0)

  wanted : (p : ℕ) → has places p ≡ true → Wanted p
  wanted p h =
      let g = paths.given p h in
      let layer : ℕ = g.0 in
      let u : ℕ = g.1 in
      let n : Node = g.2 in
      let known : has b.supervoxels u ≡ true = paths.known u g.4 in
      let c = current d b valid base f log layer u legal g.3 known in
      let q : p ≡ c.0 = node_records_once d b valid base (f ∷ log) legal p c.0 n c.1 g.5 c.2 (g.6 ∙ sym c.3) in
      let m : n ≡ c.1 = node_same n c.1 (sym g.5 ∙ (ap (slice_get rows) q ∙ c.2)) in
      let leaves : n.leaves ≡ component d b (f ∷ log) layer u = ap (λ (x : Node). x.leaves) m ∙ c.4 in
      let own : has n.leaves u ≡ true = subst (λ xs. has xs u ≡ true) (sym leaves) (own_component d b (f ∷ log) layer u known) in
      let t : touches e.changed n.leaves ≡ true =
      touches_more e.changed (u ∷ []) n.leaves (λ x k. elim (has_cases u [] x k) [ inl i ↦ subst (λ y. has n.leaves y ≡ true) i own | inr j ↦ has_none x j ]) (sym (ends_touch e.changed u) ∙ g.4) in
      let l : n.made < e.number = (let k = made_below d b (f ∷ log) legal p n g.5 in omega arith) in
      let none : list_any (retires n) (rows ++ more) ≡ false =
      none_both (retires n) rows more (subst (λ (x : Node). list_any (retires x) rows ≡ false) (sym m) c.5)
      (none_any (retires n) more (λ i row k s. let r = retiring_row n row s in before.no_entry i r.0 (subst (λ x. slice_get more i ≡ Some x) r.1 k))) in
      let there : slice_get (rows ++ more) p ≡ Some (NodeRow n) = slice_get-append rows more p (NodeRow n) g.5 in
      (n, there, retires_by n e l t, pointer_is (rows ++ more) p n there ∙ place_none (retires n) 0 (rows ++ more) none)

  only : (p : ℕ) (n : Node) → slice_get (rows ++ more) p ≡ Some (NodeRow n) → retires n (EntryRow e) ≡ true → get_or (words_of (rows ++ more)) (8 * p + 6) 0 ≡ 0 → has places p ≡ true
  only p n h t z = elim (split rows more p (NodeRow n) h) [
    | inr s ↦ absurd (let l : n.made < e.number = (retires_parts n e t).0 in let k : n.made ≡ e.number = before.made s.0 n s.1 in omega arith)
    | inl s ↦
        let none : list_any (retires n) rows ≡ false =
        none_front (retires n) rows more (none_retiring n (rows ++ more) (headers_stay rows more (headed_log d b (f ∷ log))) (sym (pointer_is (rows ++ more) p n h) ∙ z)) in
        let c : IsCurrent d b (f ∷ log) n = unretired d b valid base (f ∷ log) p n legal s none in
        let x = touches_end e.changed n.leaves (retires_parts n e t).1 in
        let i = of_component d b valid base (f ∷ log) c.layer c.v x.0 (subst (λ xs. has xs x.0 ≡ true) c.leaves_are x.2) in
        let same : node d b (f ∷ log) c.layer c.v ≡ node d b (f ∷ log) c.layer x.0 = (same_node d b valid base f log legal c.layer c.v x.0 c.known i.0 i.1 i.2).0 in
        let o = paths.all c.layer x.0 c.has_layer x.1 in
        let q : o.0 ≡ p = node_records_once d b valid base (f ∷ log) legal o.0 p o.1 n o.3 s (o.4 ∙ (sym same ∙ sym c.id_is)) in
        subst (λ y. has places y ≡ true) q o.2
  ]

-- the place of a node that the entry retires and none before it
abbrev pub Retired : Entry → List Row → ℕ → Type 0
Retired e rows p = (n : Node) × (slice_get rows p ≡ Some (NodeRow n)) × (retires n (EntryRow e) ≡ true) × (get_or (words_of rows) (8 * p + 6) 0 ≡ 0)

-- more records of the entry leave the places of the nodes that it retires
pub retired_more : (e : Entry) (old more : List Row) (places : List ℕ) → IsHeaded old → IsBefore e.number more → AreRetired e old places → AreRetired e (old ++ more) places
retired_more e old more places headed before r = record { all = all_more (Retired e old) (Retired e (old ++ more)) places there r.all; only = only; differ = r.differ }
  where
    no_more : (n : Node) → list_any (retires n) more ≡ false
    no_more n = none_any (retires n) more (λ i row k s. let q = retiring_row n row s in before.no_entry i q.0 (subst (λ x. slice_get more i ≡ Some x) q.1 k))

    there : (p : ℕ) → Retired e old p → Retired e (old ++ more) p
    there p (n, h, t, z) =
        let k : slice_get (old ++ more) p ≡ Some (NodeRow n) = slice_get-append old more p (NodeRow n) h in
        let none : list_any (retires n) (old ++ more) ≡ false = none_both (retires n) old more (none_retiring n old headed (sym (pointer_is old p n h) ∙ z)) (no_more n) in
        (n, k, t, pointer_is (old ++ more) p n k ∙ place_none (retires n) 0 (old ++ more) none)

    only : (p : ℕ) (n : Node) → slice_get (old ++ more) p ≡ Some (NodeRow n) → retires n (EntryRow e) ≡ true → get_or (words_of (old ++ more)) (8 * p + 6) 0 ≡ 0 → has places p ≡ true
    only p n h t z = elim (split old more p (NodeRow n) h) [
      | inr s ↦ absurd (let l : n.made < e.number = (retires_parts n e t).0 in let k : n.made ≡ e.number = before.made s.0 n s.1 in omega arith)
      | inl s ↦
          let none : list_any (retires n) old ≡ false = none_front (retires n) old more (none_retiring n (old ++ more) (headers_stay old more headed) (sym (pointer_is (old ++ more) p n h) ∙ z)) in
          r.only p n s t (pointer_is old p n s ∙ place_none (retires n) 0 old none)
    ]

all_has : (P : ℕ → Type 0) (xs : List ℕ) → ((x : ℕ) → has xs x ≡ true → P x) → AllByRecursion P xs
all_has P [] f = tt
all_has P (x ∷ xs) f = (f x (has_head x xs), all_has P xs (λ y h. f y (has_tail x xs y h)))

pub paths_are_retired : PathsAreRetired
paths_are_retired d b valid base e f log more places legal number before paths = record {
  all = all_has (Wanted d b valid base e f log more places legal number before paths) places (wanted d b valid base e f log more places legal number before paths);
  only = only d b valid base e f log more places legal number before paths;
  differ = paths.differ;
}
