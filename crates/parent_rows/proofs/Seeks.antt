-- A record looked for along a chain that it belongs to.
use Rattle.std.proofs.Common.{◌≡◌, ℕ, zero, suc, ◌+◌, ◌-◌, ◌<◌, ◌≤◌, Bool, true, false, cond, eqb, List, [], ◌∷◌, length, drop, Option, Some, None, refl, sym, ◌∙◌, ap, subst, inl, inr, arith, eq-eqb}
use Rattle.std.specs.List.{slice_get}
use Rattle.std.proofs.lemmas.Bool.{false≢true, eqb-true, ne_eqb, and_parts, and_from}
use Rattle.op_model.specs.declared.base.Dataset.{Dataset}
use Rattle.op_model.specs.declared.base.Base.{Base}
use Rattle.op_model.specs.declared.entry.Entry.{Entry}
use Rattle.op_model.specs.Valid.{IsDataset, IsBase}
use Rattle.record_rows.specs.Rows.{Row, NodeRow, Node}
use Rattle.record_rows.specs.Chains.{node_in, is_node}
use Rattle.record_rows.specs.Words.{place_from}
use Rattle.record_rows.specs.LogRows.{rows_of, chunks}
use Rattle.record_rows.specs.Readings.{ParentImage, HoldsNode, place_of, first_place, next_place}
use Rattle.record_rows.proofs.ImageFacts.{header}
use Rattle.record_rows.proofs.WalkLemmas.{LeadsTo, Behind, place_of-some, from_here, first_leads, next_leads, next_behind}
use Rattle.std.proofs.lemmas.Option.{slice_get_within}
use Rattle.record_rows.proofs.NodeOrder.{ordered_at}
use Rattle.parent_rows.specs.Steps.{IsNear, is_node_of}
use Rattle.parent_rows.proofs.ChainWalks.{AtLast, last_first, last_start}
use Rattle.parent_rows.proofs.ChunkWalks.{node_passes, node_header, ordered_le}

-- the place of the first record from one on that passes the test
unfoldable pub seek : (Row → Bool) → List Row → Option ℕ → Option ℕ
seek test rows None = None
seek test rows (Some p) = next_place test rows (p - 1)

module _ (test chain : Row → Bool) (sub : (row : Row) → chain row ≡ false → test row ≡ false) (all : List Row) where
  drop_more : (place : ℕ) (row : Row) (rows : List Row) → drop place all ≡ row ∷ rows → drop (place + 1) all ≡ rows
  drop_more place row rows h = go place all h
    where
      go : (k : ℕ) (xs : List Row) → drop k xs ≡ row ∷ rows → drop (k + 1) xs ≡ rows
      go zero [] e = cc
      go (suc k) [] e = cc
      go zero (x ∷ xs) e = cc
      go (suc k) (x ∷ xs) e = let z : suc k + 1 ≡ suc (k + 1) = omega arith in rw z (go k xs e)

  sought : (place : ℕ) (rows : List Row) → 1 ≤ place → drop place all ≡ rows → place_of (place_from test place rows) ≡ seek test all (place_of (place_from chain place rows))
  unfolding place_from seek place_of next_place
  sought place [] l h = refl
  sought place (row ∷ rows) l h = go (chain row) refl (sought (place + 1) rows (omega arith) (drop_more place row rows h))
    where
      back : place - 1 + 1 ≡ place
      back = omega arith

      here : place_of (place_from test (place - 1 + 1) (drop (place - 1 + 1) all)) ≡ place_of (place_from test place (row ∷ rows))
      here = ap (λ k. place_of (place_from test k (drop k all))) back ∙ ap (λ rs. place_of (place_from test place rs)) h

      go : (t : Bool) → chain row ≡ t → place_of (place_from test (place + 1) rows) ≡ seek test all (place_of (place_from chain (place + 1) rows))
          → place_of (cond (test row) place (place_from test (place + 1) rows)) ≡ seek test all (place_of (cond t place (place_from chain (place + 1) rows)))
      go true e ih = sym (ap (seek test all) (place_of-some place l) ∙ here)
      go false e ih = let f : test row ≡ false = sub row e in rw f ih

  seek_first : (top : Row) → slice_get all 0 ≡ Some top → chain top ≡ false → first_place test all ≡ seek test all (first_place chain all)
  unfolding first_place place_from
  seek_first top h t =
      let e : all ≡ top ∷ drop 1 all = from_here all 0 top h in
      let f : test top ≡ false = sub top t in
      ap (λ rs. place_of (place_from test 0 rs)) e ∙ ((rw f refl) ∙ (sought 1 (drop 1 all) (omega arith) refl ∙ sym (ap (λ rs. seek test all (place_of (place_from chain 0 rs))) e ∙ (rw t refl))))

  seek_step : (p : ℕ) (row : Row) → 1 ≤ p → slice_get all p ≡ Some row → seek test all (Some p) ≡ cond (test row) (Some p) (seek test all (next_place chain all p))
  unfolding next_place seek place_from
  seek_step p row l h =
      let back : p - 1 + 1 ≡ p = omega arith in
      ap (λ k. place_of (place_from test k (drop k all))) back ∙ (ap (λ rs. place_of (place_from test p rs)) (from_here all p row h) ∙ go (test row) refl)
    where
      go : (t : Bool) → test row ≡ t → place_of (cond t p (place_from test (p + 1) (drop (p + 1) all))) ≡ cond t (Some p) (seek test all (place_of (place_from chain (p + 1) (drop (p + 1) all))))
      go true e = place_of-some p l
      go false e = sought (p + 1) (drop (p + 1) all) (omega arith) refl

pub not_of : (c id : ℕ) (row : Row) → node_in c row ≡ false → is_node_of c id row ≡ false
unfolding is_node_of
not_of c id row t = rw t refl

is_of : (c id : ℕ) (n : Node) → n.chunk ≡ c → n.id ≡ id → is_node_of c id (NodeRow n) ≡ true
unfolding is_node_of node_in is_node
is_of c id n e f = and_from (eqb n.chunk c) (eqb n.id id) (eq-eqb n.chunk c e) (eq-eqb n.id id f)

other_of : (c id : ℕ) (n : Node) → n.chunk ≡ c → (n.id ≡ id → ⊥) → is_node_of c id (NodeRow n) ≡ false
unfolding is_node_of node_in is_node
other_of c id n e f = rw (eq-eqb n.chunk c e, ne_eqb n.id id f) refl

pub of_node : (c id : ℕ) (row : Row) → is_node_of c id row ≡ true → (n : Node) × (row ≡ NodeRow n) × (n.chunk ≡ c) × (n.id ≡ id)
unfolding is_node_of node_in is_node
of_node c id (NodeRow n) t = let p = and_parts (eqb n.chunk c) (eqb n.id id) t in (n, refl, eqb-true n.chunk c p.0, eqb-true n.id id p.1)
of_node c id row t = absurd (false≢true t)

-- a walk along a chunk's nodes that has not met the id
abbrev pub AtNode : List Row → ℕ → ℕ → Option ℕ → Type 0
AtNode rows c id at = LeadsTo (node_in c) rows at × (first_place (is_node_of c id) rows ≡ seek (is_node_of c id) rows at)

pub node_first : (d : Dataset) (b : Base) (log : List Entry) (words : List ℕ) → ParentImage d b log words → (c id : ℕ) {at : Option ℕ} → at ≡ first_place (node_in c) (rows_of d b log) → AtNode (rows_of d b log) c id at
node_first d b log words i c id e =
    let rows = rows_of d b log in
    let h = header d b log words i in
    let t = node_header c d (length b.supervoxels) (length (chunks d b)) in
    subst (AtNode rows c id) (sym e) (first_leads (node_in c) rows _ h t, seek_first (is_node_of c id) (node_in c) (not_of c id) rows _ h t)

module _ (rows : List Row) (c id : ℕ) where
  abbrev Stands : ℕ → Node → Type 0
  Stands p n = (slice_get rows p ≡ Some (NodeRow n)) × (n.chunk ≡ c)

  pub node_step : (p : ℕ) (n : Node) → Stands p n → (n.id ≡ id → ⊥) → {at next : Option ℕ} → at ≡ Some p → next ≡ next_place (node_in n.chunk) rows p → AtNode rows c id at → AtNode rows c id next
  node_step p n s o {at = at} {next = next} e f a =
      let here : AtNode rows c id (Some p) = subst (AtNode rows c id) e a in
      let there : next ≡ next_place (node_in c) rows p = f ∙ ap (λ x. next_place (node_in x) rows p) s.1 in
      let step = seek_step (is_node_of c id) (node_in c) (not_of c id) rows p (NodeRow n) here.0.0 s.0 in
      let miss = other_of c id n s.1 o in
      subst (AtNode rows c id) (sym there) (next_leads (node_in c) rows p, here.1 ∙ (step ∙ ap (λ t. cond t (Some p) (seek (is_node_of c id) rows (next_place (node_in c) rows p))) miss))

  pub node_met : (p : ℕ) (n : Node) → Stands p n → n.id ≡ id → {at : Option ℕ} → at ≡ Some p → AtNode rows c id at → Some p ≡ first_place (is_node_of c id) rows
  node_met p n s o e a =
      let here : AtNode rows c id (Some p) = subst (AtNode rows c id) e a in
      let step = seek_step (is_node_of c id) (node_in c) (not_of c id) rows p (NodeRow n) here.0.0 s.0 in
      sym (here.1 ∙ (step ∙ ap (λ t. cond t (Some p) (seek (is_node_of c id) rows (next_place (node_in c) rows p))) (is_of c id n s.1 o)))

  pub node_end : (at : Option ℕ) → ((p : ℕ) → at ≡ Some p → ⊥) → AtNode rows c id at → None ≡ first_place (is_node_of c id) rows
  unfolding seek
  node_end None o a = sym a.1
  node_end (Some p) o a = absurd (o p refl)

-- behind a node with a greater id the id isn't met
pub node_passed : (d : Dataset) (b : Base) → IsDataset d → IsBase d b → (log : List Entry) (c id p : ℕ) (n : Node) → HoldsNode d b log p n → n.chunk ≡ c → id < n.id → {at : Option ℕ} → at ≡ Some p
    → AtNode (rows_of d b log) c id at → None ≡ first_place (is_node_of c id) (rows_of d b log)
unfolding seek
node_passed d b valid base log c id p n h e l f a =
    let rows = rows_of d b log in
    let here : AtNode rows c id (Some p) = subst (AtNode rows c id) f a in
    go (next_place (is_node_of c id) rows (p - 1)) here.1 here.0.0 (next_leads (is_node_of c id) rows (p - 1)) (next_behind (is_node_of c id) rows (p - 1))
  where
    go : (o : Option ℕ) → first_place (is_node_of c id) (rows_of d b log) ≡ o → 1 ≤ p → LeadsTo (is_node_of c id) (rows_of d b log) o → Behind (p - 1) o → None ≡ first_place (is_node_of c id) (rows_of d b log)
    go None g m t u = sym g
    go (Some q) g m t u =
        let x = of_node c id t.1 t.3 in
        let k : HoldsNode d b log q x.0 = t.2 ∙ ap (λ r. Some r) x.1 in
        let v : p - 1 < q = u in
        let w = ordered_le d b valid base log p q n x.0 (omega arith) h k (e ∙ sym x.2) in
        let z : x.0.id ≡ id = x.3 in
        absurd (omega arith)

-- records that the test doesn't pass are passed over
skipped : (test : Row → Bool) (rows : List Row) (k p : ℕ) → p + k ≤ length rows → ((q : ℕ) (row : Row) → p ≤ q → q < p + k → slice_get rows q ≡ Some row → test row ≡ false)
    → place_from test p (drop p rows) ≡ place_from test (p + k) (drop (p + k) rows)
unfolding place_from
skipped test rows zero p l f = let e : p ≡ p + 0 = omega arith in ap (λ n. place_from test n (drop n rows)) e
skipped test rows (suc k) p l f =
    let r = row_at rows p (omega arith) in
    let t : test r.0 ≡ false = f p r.0 (omega arith) (omega arith) r.1 in
    let e : p + 1 + k ≡ p + suc k = omega arith in
    ap (place_from test p) (from_here rows p r.0 r.1) ∙ ((rw t refl) ∙ (skipped test rows k (p + 1) (omega arith) (λ q row m n h. f q row (omega arith) (omega arith) h) ∙ ap (λ n. place_from test n (drop n rows)) e))
  where
    row_at : (rs : List Row) (j : ℕ) → j < length rs → (row : Row) × (slice_get rs j ≡ Some row)
    row_at [] j m = absurd (omega arith)
    row_at (r ∷ rs) zero m = (r, refl)
    row_at (r ∷ rs) (suc j) m = row_at rs j (omega arith)

-- before a node of the chunk whose id is no greater none has the id
unmet : (d : Dataset) (b : Base) → IsDataset d → IsBase d b → (log : List Entry) (c id q : ℕ) (m : Node) → HoldsNode d b log q m → m.chunk ≡ c → m.id ≤ id → (j : ℕ) (row : Row) → j < q → slice_get (rows_of d b log) j ≡ Some row
    → is_node_of c id row ≡ false
unmet d b valid base log c id q m h e low j row y g = go (is_node_of c id row) refl
  where
    go : (t : Bool) → is_node_of c id row ≡ t → t ≡ false
    go false z = refl
    go true z =
        let x = of_node c id row z in
        let less = ordered_at d b valid base log j q x.0 m y (g ∙ ap (λ r. Some r) x.1) h (x.2 ∙ sym e) in
        let i : x.0.id ≡ id = x.3 in
        absurd (omega arith)

-- a walk may leap to any later node of the chunk whose id is no greater
pub node_leap : (d : Dataset) (b : Base) → IsDataset d → IsBase d b → (log : List Entry) (c id p q : ℕ) (m : Node) → p ≤ q → HoldsNode d b log q m → m.chunk ≡ c → m.id ≤ id → {at : Option ℕ} → at ≡ Some p
    → AtNode (rows_of d b log) c id at → AtNode (rows_of d b log) c id (Some q)
unfolding seek next_place
node_leap d b valid base log c id p q m l h e low f a =
    let rows = rows_of d b log in
    let here : AtNode rows c id (Some p) = subst (AtNode rows c id) f a in
    let w : q < length rows = slice_get_within rows q (NodeRow m) h in
    let first : 1 ≤ p = here.0.0 in
    let k : ℕ = q - p in
    let to : p + k ≡ q = omega arith in
    let backp : p - 1 + 1 ≡ p = omega arith in
    let backq : q - 1 + 1 ≡ q = omega arith in
    let skip = skipped (is_node_of c id) rows k p (omega arith) (λ j row x y g. unmet d b valid base log c id q m h e low j row (omega arith) g) in
    let same : place_of (place_from (is_node_of c id) (p - 1 + 1) (drop (p - 1 + 1) rows)) ≡ place_of (place_from (is_node_of c id) (q - 1 + 1) (drop (q - 1 + 1) rows)) =
    ap (λ n. place_of (place_from (is_node_of c id) n (drop n rows))) backp ∙ (ap place_of skip ∙ (ap (λ n. place_of (place_from (is_node_of c id) n (drop n rows))) to ∙ sym (ap (λ n. place_of (place_from (is_node_of c id) n (drop n rows))) backq))) in
    (((omega arith), NodeRow m, h, node_passes c m e), here.1 ∙ same)

-- a walk may start at any node of the chunk whose id is no greater
node_start : (d : Dataset) (b : Base) → IsDataset d → IsBase d b → (log : List Entry) (c id q : ℕ) (m : Node) → 1 ≤ q → HoldsNode d b log q m → m.chunk ≡ c → m.id ≤ id → AtNode (rows_of d b log) c id (Some q)
unfolding seek next_place first_place
node_start d b valid base log c id q m one h e low =
    let rows = rows_of d b log in
    let w : q < length rows = slice_get_within rows q (NodeRow m) h in
    let to : 0 + q ≡ q = omega arith in
    let back : q - 1 + 1 ≡ q = omega arith in
    let skip = skipped (is_node_of c id) rows q 0 (omega arith) (λ j row x y g. unmet d b valid base log c id q m h e low j row (omega arith) g) in
    let same : place_of (place_from (is_node_of c id) 0 rows) ≡ place_of (place_from (is_node_of c id) (q - 1 + 1) (drop (q - 1 + 1) rows)) =
    ap place_of skip ∙ (ap (λ n. place_of (place_from (is_node_of c id) n (drop n rows))) to ∙ sym (ap (λ n. place_of (place_from (is_node_of c id) n (drop n rows))) back)) in
    ((one, NodeRow m, h, node_passes c m e), same)

module _ (d : Dataset) (b : Base) (log : List Entry) (words : List ℕ) (i : ParentImage d b log words) where
  -- the header is no node
  node_behind : (q : ℕ) (m : Node) → HoldsNode d b log q m → 1 ≤ q
  node_behind zero m h = let same = sym (header d b log words i) ∙ h in cc
  node_behind (suc q) m h = omega arith

  -- a walk to an id may start near it
  pub near_start : (c id : ℕ) {at : Option ℕ} → IsNear (rows_of d b log) c id at → AtNode (rows_of d b log) c id at
  near_start c id s = elim s [
    | inl e ↦ node_first d b log words i c id e
    | inr h ↦ subst (AtNode (rows_of d b log) c id) (sym h.1) (node_start d b i.dataset i.base log c id h.0 h.2 (node_behind h.0 h.2 h.3) h.3 h.4 h.5)
  ]

  -- and so may a walk to the last node
  pub near_last : (c id : ℕ) {at : Option ℕ} → IsNear (rows_of d b log) c id at → AtLast (node_in c) (rows_of d b log) at None
  near_last c id s = elim s [
    | inl e ↦ last_first d b log words i (node_in c) (node_header c) e
    | inr h ↦ last_start (node_in c) (rows_of d b log) h.0 (NodeRow h.2) (node_behind h.0 h.2 h.3) h.3 (node_passes c h.2 h.4) h.1
  ]
