-- Steps within a run: the nodes that one entry made in one chunk.
use Rattle.std.proofs.Common.{◌≡◌, ℕ, ◌+◌, ◌-◌, ◌*◌, ◌%◌, ◌^◌, ◌<◌, ◌≤◌, List, length, get_or, Option, Some, refl, sym, ◌∙◌, ap, arith}
use Rattle.node_ids.specs.Ids.{LayoutForm, parts_of}
use Rattle.op_model.specs.declared.base.Dataset.{Dataset}
use Rattle.op_model.specs.declared.base.Base.{Base}
use Rattle.op_model.specs.declared.entry.Entry.{Entry}
use Rattle.record_rows.specs.Rows.{Row, LinkRow, Node, Link}
use Rattle.record_rows.specs.LogRows.{rows_of}
use Rattle.record_rows.specs.Chains.{child_of}
use Rattle.record_rows.specs.Readings.{ParentImage, Holds, HoldsNode, first_place}
use Rattle.std.proofs.lemmas.Option.{slice_get_within}
use Rattle.record_rows.proofs.EntryPlaces.{row_at}
use Rattle.parent_rows.proofs.RowKinds.{kind_node}
use Rattle.parent_rows.proofs.NodeWalks.{child_link, child_first}
use Rattle.record_rows.proofs.NodeIds.{node_chunk}
use Rattle.parent_rows.proofs.Told.{node_id}

module _ (d : Dataset) (b : Base) (log : List Entry) (words : List ℕ) (i : ParentImage d b log words) where
  pub node_of_chunk : (p : ℕ) (row : Row) (here chunk id : ℕ) {ids : LayoutForm} → Holds d b log p row → get_or words (8 * p) 0 % 2 ^ 8 ≡ 4 → here ≡ get_or words (8 * p + 1) 0
      → ids ≡ d.layout → here ≤ id → here - (parts_of ids here).segment ≡ chunk → (m : Node) × HoldsNode d b log p m × (m.chunk ≡ chunk) × (m.id ≤ id)
  node_of_chunk p row here chunk id {ids = ids} h k e f l c =
      let n = kind_node d b log words i p row h k in
      let t : here ≡ n.0.id = e ∙ (node_id d b log words i p n.0 n.1).1 in
      let ch : n.0.chunk ≡ chunk =
      node_chunk d b i.dataset i.base log i.legal p n.0 n.1 ∙ (ap (λ x. x - (parts_of d.layout x).segment) (sym t) ∙ (ap (λ x. here - (parts_of x here).segment) (sym f) ∙ c)) in
      (n.0, n.1, ch, (let z = t in omega arith))

-- a node of the same chunk at or behind the first one, and a place at or before a link to the first one
abbrev pub InRun : Dataset → Base → List Entry → Node → ℕ → ℕ → ℕ → ℕ → Type 0
InRun d b log n first id low high =
    ((m : Node) × HoldsNode d b log low m × (m.chunk ≡ n.chunk) × (m.id ≤ id) × (first ≤ low)) × ((l : Link) × (c : ℕ) × Holds d b log c (LinkRow l) × (l.parent ≡ n.id) × (high ≤ c))

module _ (d : Dataset) (b : Base) (log : List Entry) (words : List ℕ) (i : ParentImage d b log words) where
  pub run_first : (n : Node) (first id end : ℕ) {at : Option ℕ} → HoldsNode d b log first n → n.id ≤ id → at ≡ first_place (child_of n.id) (rows_of d b log) → at ≡ Some end → InRun d b log n first id first end
  run_first n first id end h l e f =
      let k = child_link (rows_of d b log) n.id end f (child_first d b log words i n.id e).0 in
      ((n, h, refl, l, (omega arith)), (k.0, end, k.1, k.2, (omega arith)))

  -- a record stands between the two places
  pub run_within : (n : Node) (first id low high q : ℕ) → HoldsNode d b log first n → InRun d b log n first id low high → low < q → q < high → (row : Row) × Holds d b log q row
  run_within n first id low high q h r lq qh =
      let e = r.1.4 in
      let w : r.1.1 < length (rows_of d b log) = slice_get_within (rows_of d b log) r.1.1 (LinkRow r.1.0) r.1.2 in
      row_at d b log words i q (omega arith)

  -- from a node of the chunk that stands between them on
  pub run_on : (n : Node) (first id low high q : ℕ) → HoldsNode d b log first n → InRun d b log n first id low high → low < q → q < high → (chunk : ℕ) {ids : LayoutForm} {here : ℕ} → ids ≡ d.layout → here ≡ n.id
      → chunk ≡ here - (parts_of ids here).segment → (m : Node) × HoldsNode d b log q m × (m.chunk ≡ chunk) × (m.id ≤ id) → InRun d b log n first id q high
  run_on n first id low high q h r lq qh chunk {ids = ids} {here = here} e f c m =
      let k : chunk ≡ n.chunk =
      c ∙ (ap (λ x. here - (parts_of x here).segment) e ∙ (ap (λ x. x - (parts_of d.layout x).segment) f ∙ sym (node_chunk d b i.dataset i.base log i.legal first n h))) in
      let l = r.0.4 in
      ((m.0, m.1, m.2 ∙ k, m.3, (omega arith)), r.1)
