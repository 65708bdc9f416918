-- Walks along the nodes of a chunk.
use Rattle.std.proofs.Common.{◌≡◌, ℕ, zero, suc, ◌+◌, ◌<◌, ◌≤◌, Bool, true, false, cond, List, [], ◌∷◌, Option, Some, None, refl, sym, ◌∙◌, ap, subst, inl, inr, ◌⊎◌, arith, eq-or-lt_of_le}
use Rattle.std.specs.Option.{IfSome}
use Rattle.std.specs.List.{slice_get, last_or}
use Rattle.std.proofs.lemmas.Bool.{false≢true, eqb-true, eq-eqb}
use Rattle.op_model.specs.declared.base.Dataset.{Dataset}
use Rattle.op_model.specs.declared.base.Base.{Base}
use Rattle.op_model.specs.declared.entry.Entry.{Entry}
use Rattle.op_model.specs.Valid.{IsDataset, IsBase}
use Rattle.op_model.specs.Legal.{Legal}
use Rattle.record_rows.proofs.NodeIds.{node_small}
use Rattle.record_rows.specs.Rows.{Row, NodeRow, Node}
use Rattle.record_rows.specs.Chains.{node_in}
use Rattle.record_rows.specs.LogRows.{rows_of}
use Rattle.record_rows.specs.Readings.{HoldsNode, members, next_place, last_place}
use Rattle.record_rows.proofs.NodeOrder.{ordered_at}
use Rattle.record_rows.proofs.WalkLemmas.{LeadsTo, Behind, next_leads, next_behind}
use Rattle.parent_rows.proofs.ChainWalks.{NoHeader}

pub node_header : (c : ℕ) → NoHeader (node_in c)
unfolding node_in
node_header c d m n = refl

node_row : (c : ℕ) (row : Row) → node_in c row ≡ true → (n : Node) × (row ≡ NodeRow n) × (n.chunk ≡ c)
unfolding node_in
node_row c (NodeRow n) t = (n, refl, eqb-true n.chunk c t)
node_row c row t = absurd (false≢true t)

pub node_passes : (c : ℕ) (n : Node) → n.chunk ≡ c → node_in c (NodeRow n) ≡ true
unfolding node_in
node_passes c n e = eq-eqb n.chunk c e

-- the chain of a chunk leads to nodes of it
pub chunk_node : (rows : List Row) (c p : ℕ) {at : Option ℕ} → at ≡ Some p → LeadsTo (node_in c) rows at → (n : Node) × (slice_get rows p ≡ Some (NodeRow n)) × (n.chunk ≡ c)
chunk_node rows c p e a =
    let h : LeadsTo (node_in c) rows (Some p) = subst (LeadsTo (node_in c) rows) e a in
    let r = node_row c h.1 h.3 in (r.0, h.2 ∙ ap (λ x. Some x) r.1, r.2)

-- one node stands at a place
pub node_same : (rows : List Row) (p : ℕ) (m n : Node) → slice_get rows p ≡ Some (NodeRow m) → slice_get rows p ≡ Some (NodeRow n) → m ≡ n
node_same rows p m n h k = let q : Some (NodeRow m) ≡ Some (NodeRow n) = sym h ∙ k in cc

-- the last place of a chain is at or behind each place of it
from_last : (test : Row → Bool) (a k p : ℕ) (rows : List Row) → a ≤ k → last_or (Some a) (members test k rows) ≡ Some p → a ≤ p
unfolding members
from_last test a k p [] l e = let q : a ≡ p = cc in omega arith
from_last test a k p (row ∷ rows) l e = go (test row) e (λ x m f. from_last test x (k + 1) p rows m f)
  where
    go : (t : Bool) → last_or (Some a) (cond t (k ∷ members test (k + 1) rows) (members test (k + 1) rows)) ≡ Some p
        → ((x : ℕ) → x ≤ k + 1 → last_or (Some x) (members test (k + 1) rows) ≡ Some p → x ≤ p) → a ≤ p
    go true f ih = let m = ih k (omega arith) f in omega arith
    go false f ih = ih a (omega arith) f

last_bounds : (test : Row → Bool) (k p : ℕ) (o : Option ℕ) (rows : List Row) → last_or o (members test k rows) ≡ Some p → (j : ℕ) (row : Row) → slice_get rows j ≡ Some row → test row ≡ true → k + j ≤ p
unfolding members
last_bounds test k p o [] e j row h t = cc
last_bounds test k p o (r ∷ rows) e zero row h t =
    let q : r ≡ row = cc in
    let passes : test r ≡ true = ap test q ∙ t in
    let there : last_or (Some k) (members test (k + 1) rows) ≡ Some p = sym (ap (λ b. last_or o (cond b (k ∷ members test (k + 1) rows) (members test (k + 1) rows))) passes) ∙ e in
    let l = from_last test k (k + 1) p rows (omega arith) there in
    omega arith
last_bounds test k p o (r ∷ rows) e (suc j) row h t = go (test r) e (λ x f. last_bounds test (k + 1) p x rows f j row h t)
  where
    go : (b : Bool) → last_or o (cond b (k ∷ members test (k + 1) rows) (members test (k + 1) rows)) ≡ Some p
        → ((x : Option ℕ) → last_or x (members test (k + 1) rows) ≡ Some p → k + 1 + j ≤ p) → k + suc j ≤ p
    go true f ih = let l = ih (Some k) f in omega arith
    go false f ih = let l = ih o f in omega arith

abbrev Passes : (Row → Bool) → ℕ → ℕ → List Row → Type 0
Passes test k p rows = (j : ℕ) × (p ≡ k + j) × (row : Row) × (slice_get rows j ≡ Some row) × (test row ≡ true)

later_passes : (test : Row → Bool) (k p : ℕ) (r : Row) (rows : List Row) → Passes test (k + 1) p rows → Passes test k p (r ∷ rows)
later_passes test k p r rows s = (suc s.0, (let e : p ≡ k + 1 + s.0 = s.1 in omega arith), s.2, s.3, s.4)

last_passes : (test : Row → Bool) (k p : ℕ) (o : Option ℕ) (rows : List Row) → last_or o (members test k rows) ≡ Some p → (o ≡ Some p) ⊎ Passes test k p rows
unfolding members
last_passes test k p o [] e = inl e
last_passes test k p o (r ∷ rows) e = go (test r) refl e (λ x f. last_passes test (k + 1) p x rows f)
  where
    go : (b : Bool) → test r ≡ b → last_or o (cond b (k ∷ members test (k + 1) rows) (members test (k + 1) rows)) ≡ Some p
        → ((x : Option ℕ) → last_or x (members test (k + 1) rows) ≡ Some p → (x ≡ Some p) ⊎ Passes test (k + 1) p rows) → (o ≡ Some p) ⊎ Passes test k p (r ∷ rows)
    go true b f ih =
        elim (ih (Some k) f) [
          | inl q ↦ inr (0, (let z : k ≡ p = cc in omega arith), r, refl, b)
          | inr s ↦ inr (later_passes test k p r rows s)
        ]
    go false b f ih =
        elim (ih o f) [
          | inl q ↦ inl q
          | inr s ↦ inr (later_passes test k p r rows s)
        ]

-- at the last place of a chain stands a record of it
last_row : (test : Row → Bool) (rows : List Row) (p : ℕ) → last_place test rows ≡ Some p → (row : Row) × (slice_get rows p ≡ Some row) × (test row ≡ true)
unfolding last_place
last_row test rows p e =
    elim (last_passes test 0 p None rows e) [
      | inl q ↦ cc
      | inr s ↦ (s.2, (let y : p ≡ 0 + s.0 = s.1 in let z : p ≡ s.0 = omega arith in ap (slice_get rows) z ∙ s.3), s.4)
    ]

last_behind : (test : Row → Bool) (rows : List Row) (p : ℕ) → last_place test rows ≡ Some p → (q : ℕ) (row : Row) → slice_get rows q ≡ Some row → test row ≡ true → q ≤ p
unfolding last_place
last_behind test rows p e q row h t = let l : 0 + q ≤ p = last_bounds test 0 p None rows e q row h t in omega arith

module _ (d : Dataset) (b : Base) (valid : IsDataset d) (base : IsBase d b) (log : List Entry) where
  abbrev rows : List Row
  rows = rows_of d b log

  -- a node of a chunk at or behind another one has no lesser id
  pub ordered_le : (p q : ℕ) (m n : Node) → p ≤ q → HoldsNode d b log p m → HoldsNode d b log q n → m.chunk ≡ n.chunk → m.id ≤ n.id
  ordered_le p q m n l h k e =
      elim (eq-or-lt_of_le l) [
        | inl same ↦ (let z : m ≡ n = node_same rows q m n (subst (λ x. slice_get rows x ≡ Some (NodeRow m)) same h) k in let i : m.id ≡ n.id = ap (λ x. x.id) z in omega arith)
        | inr less ↦ (let i = ordered_at d b valid base log p q m n less h k e in omega arith)
      ]

  -- the next node of a chunk has a greater id
  pub next_greater : (p : ℕ) (n : Node) → HoldsNode d b log p n → {found : Option ℕ} → found ≡ next_place (node_in n.chunk) rows p → IfSome found (λ q. (m : Node) → HoldsNode d b log q m → n.id < m.id)
  next_greater p n h {found = None} e = tt
  next_greater p n h {found = Some q} e = λ m k.
      let lead : LeadsTo (node_in n.chunk) rows (Some q) = subst (LeadsTo (node_in n.chunk) rows) (sym e) (next_leads (node_in n.chunk) rows p) in
      let behind : p < q = subst (Behind p) (sym e) (next_behind (node_in n.chunk) rows p) in
      let x = chunk_node rows n.chunk q refl lead in
      let z : x.0 ≡ m = node_same rows q x.0 m x.1 k in
      ordered_at d b valid base log p q n m behind h k (sym (sym (ap (λ y. y.chunk) z) ∙ x.2))

  -- the last node of a chunk has the greatest id
  pub greatest_last : (c : ℕ) {found : Option ℕ} → found ≡ last_place (node_in c) rows → IfSome found (λ p. (m n : Node) (q : ℕ) → HoldsNode d b log p n → HoldsNode d b log q m → m.chunk ≡ c → m.id ≤ n.id)
  greatest_last c {found = None} e = tt
  greatest_last c {found = Some p} e = λ m n q h k f.
      let last = last_row (node_in c) rows p (sym e) in
      let x = node_row c last.0 last.2 in
      let z : x.0 ≡ n = node_same rows p x.0 n (last.1 ∙ ap (λ r. Some r) x.1) h in
      let ch : n.chunk ≡ c = sym (ap (λ y. y.chunk) z) ∙ x.2 in
      ordered_le q p m n (last_behind (node_in c) rows p (sym e) q (NodeRow m) k (node_passes c m f)) k h (f ∙ sym ch)

-- a node's id is no more than the greatest number of 64 bits
pub node_most : (d : Dataset) (b : Base) (log : List Entry) → IsDataset d → IsBase d b → Legal d b log → (p : ℕ) (n : Node) → HoldsNode d b log p n → n.id ≤ 18446744073709551615
node_most d b log valid base legal p n h = let l = node_small d b valid base log legal p n h in omega arith
