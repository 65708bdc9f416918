-- What each pointer and each fixed word that is read comes to.
use Rattle.std.proofs.Common.{◌≡◌, ℕ, ◌+◌, ◌*◌, ◌<◌, ◌≤◌, ◌^◌, true, List, length, arith, get_or, Option, refl, ◌∙◌, ap}
use Rattle.std.proofs.lemmas.Bool.{false≢true, eqb-true}
use Rattle.op_model.specs.declared.base.Dataset.{Dataset}
use Rattle.op_model.specs.declared.base.Base.{Base}
use Rattle.op_model.specs.declared.entry.Entry.{Entry}
use Rattle.record_rows.specs.Rows.{Row, SupervoxelRow, ChunkRow, NodeRow, LinkRow, EntryRow, Node, Link}
use Rattle.record_rows.specs.Chains.{version_of, child_of, node_in, is_node, has_id, retires}
use Rattle.record_rows.specs.Chains.{aims}
use Rattle.record_rows.specs.Images.{told}
use Rattle.record_rows.specs.Words.{fixed_words}
use Rattle.record_rows.specs.Sorted.{id_at}
use Rattle.record_rows.specs.LogRows.{rows_of}
use Rattle.record_rows.specs.Readings.{ParentImage, Holds, HoldsId, HoldsChunk, HoldsNode, place_of, first_place, next_place}
use Rattle.op_model.specs.Lists.{head_or}
use Rattle.record_rows.proofs.RowFacts.{entries_few, made_below, number_below}
use Rattle.record_rows.proofs.ImageFacts.{few, within, told_fixed, told_small, told_first, told_next}

-- the record at a place lies within the words, and the pointer in a word of it leads there
abbrev pub Leads : List ℕ → ℕ → ℕ → Option ℕ → Type 0
Leads words p k o = (8 * p + 8 ≤ length words) × (get_or words (8 * p + k) 0 < 2 ^ 32) × (place_of (get_or words (8 * p + k) 0) ≡ o)

-- the record at a place lies within the words, and a word of it is this number
abbrev pub Tells : List ℕ → ℕ → ℕ → ℕ → Type 0
Tells words p k n = (8 * p + 8 ≤ length words) × (get_or words (8 * p + k) 0 ≡ n)

module _ (d : Dataset) (b : Base) (log : List Entry) (words : List ℕ) (i : ParentImage d b log words) where
  pub first_version_leads : (p id : ℕ) → HoldsId d b log p id → Leads words p 5 (first_place (version_of id) (rows_of d b log))
  unfolding has_id told aims
  first_version_leads p id h = go h.0 h.1 h.2
    where
      go : (row : Row) → Holds d b log p row → has_id id row ≡ true → Leads words p 5 (first_place (version_of id) (rows_of d b log))
      go (SupervoxelRow v) s t = (
        within d b log words i p (SupervoxelRow v) s,
        told_small d b log words i p 1 (SupervoxelRow v) s (omega arith) refl,
        told_first d b log words i p 1 (SupervoxelRow v) (version_of v) s (omega arith) refl refl ∙ ap (λ x. first_place (version_of x) (rows_of d b log)) (eqb-true v id t),
      )
      go (NodeRow n) s t = (
        within d b log words i p (NodeRow n) s,
        told_small d b log words i p 1 (NodeRow n) s (omega arith) refl,
        told_first d b log words i p 1 (NodeRow n) (version_of n.id) s (omega arith) refl refl ∙ ap (λ x. first_place (version_of x) (rows_of d b log)) (eqb-true n.id id t),
      )
      go row s t = absurd (false≢true t)

  -- the second word of a supervoxel or a node is its id
  pub owner_id : (p id : ℕ) → HoldsId d b log p id → (8 * p + 8 ≤ length words) × (id_at words p ≡ id)
  unfolding has_id told fixed_words id_at
  owner_id p id h = go h.0 h.1 h.2
    where
      go : (row : Row) → Holds d b log p row → has_id id row ≡ true → (8 * p + 8 ≤ length words) × (get_or words (8 * p + 1) 0 ≡ id)
      go (SupervoxelRow v) s t = (within d b log words i p (SupervoxelRow v) s, told_fixed d b log words i p 1 (SupervoxelRow v) s (omega arith) refl ∙ eqb-true v id t)
      go (NodeRow n) s t = (within d b log words i p (NodeRow n) s, told_fixed d b log words i p 1 (NodeRow n) s (omega arith) refl ∙ eqb-true n.id id t)
      go row s t = absurd (false≢true t)

  pub next_version_leads : (p : ℕ) (l : Link) → Holds d b log p (LinkRow l) → Leads words p 6 (next_place (version_of l.child) (rows_of d b log) p)
  unfolding told aims
  next_version_leads p l h = (
    within d b log words i p (LinkRow l) h,
    told_small d b log words i p 2 (LinkRow l) h (omega arith) refl,
    told_next d b log words i p 2 (LinkRow l) (version_of l.child) h (omega arith) refl refl,
  )

  pub parent_leads : (p : ℕ) (l : Link) → Holds d b log p (LinkRow l) → Leads words p 4 (first_place (is_node l.parent) (rows_of d b log))
  unfolding told aims
  parent_leads p l h = (
    within d b log words i p (LinkRow l) h,
    told_small d b log words i p 0 (LinkRow l) h (omega arith) refl,
    told_first d b log words i p 0 (LinkRow l) (is_node l.parent) h (omega arith) refl refl,
  )

  pub link_entry : (p : ℕ) (l : Link) → Holds d b log p (LinkRow l) → Tells words p 3 l.entry
  unfolding told fixed_words
  link_entry p l h = (within d b log words i p (LinkRow l) h, told_fixed d b log words i p 3 (LinkRow l) h (omega arith) refl)

  pub first_child_leads : (p : ℕ) (n : Node) → HoldsNode d b log p n → Leads words p 4 (first_place (child_of n.id) (rows_of d b log))
  unfolding told aims
  first_child_leads p n h = (
    within d b log words i p (NodeRow n) h,
    told_small d b log words i p 0 (NodeRow n) h (omega arith) refl,
    told_first d b log words i p 0 (NodeRow n) (child_of n.id) h (omega arith) refl refl,
  )

  pub next_child_leads : (p : ℕ) (l : Link) → Holds d b log p (LinkRow l) → Leads words p 5 (next_place (child_of l.parent) (rows_of d b log) p)
  unfolding told aims
  next_child_leads p l h = (
    within d b log words i p (LinkRow l) h,
    told_small d b log words i p 1 (LinkRow l) h (omega arith) refl,
    told_next d b log words i p 1 (LinkRow l) (child_of l.parent) h (omega arith) refl refl,
  )

  pub retiring_leads : (p : ℕ) (n : Node) → HoldsNode d b log p n → Leads words p 6 (first_place (retires n) (rows_of d b log))
  unfolding told aims
  retiring_leads p n h = (
    within d b log words i p (NodeRow n) h,
    told_small d b log words i p 2 (NodeRow n) h (omega arith) refl,
    told_first d b log words i p 2 (NodeRow n) (retires n) h (omega arith) refl refl,
  )

  pub next_node_leads : (p : ℕ) (n : Node) → HoldsNode d b log p n → Leads words p 7 (next_place (node_in n.chunk) (rows_of d b log) p)
  unfolding told aims
  next_node_leads p n h = (
    within d b log words i p (NodeRow n) h,
    told_small d b log words i p 3 (NodeRow n) h (omega arith) refl,
    told_next d b log words i p 3 (NodeRow n) (node_in n.chunk) h (omega arith) refl refl,
  )

  pub first_node_leads : (p c : ℕ) → HoldsChunk d b log p c → Leads words p 4 (first_place (node_in c) (rows_of d b log))
  unfolding told aims
  first_node_leads p c h = (
    within d b log words i p (ChunkRow c) h,
    told_small d b log words i p 0 (ChunkRow c) h (omega arith) refl,
    told_first d b log words i p 0 (ChunkRow c) (node_in c) h (omega arith) refl refl,
  )

  pub chunk_id : (p c : ℕ) → HoldsChunk d b log p c → Tells words p 1 c
  unfolding told fixed_words
  chunk_id p c h = (within d b log words i p (ChunkRow c) h, told_fixed d b log words i p 1 (ChunkRow c) h (omega arith) refl)

  pub chunk_key : (p c : ℕ) → HoldsChunk d b log p c → id_at words p ≡ c
  unfolding id_at
  chunk_key p c h = (chunk_id p c h).1

  pub link_child : (p : ℕ) (l : Link) → Holds d b log p (LinkRow l) → Tells words p 1 l.child
  unfolding told fixed_words
  link_child p l h = (within d b log words i p (LinkRow l) h, told_fixed d b log words i p 1 (LinkRow l) h (omega arith) refl)

  pub node_id : (p : ℕ) (n : Node) → HoldsNode d b log p n → Tells words p 1 n.id
  unfolding told fixed_words
  node_id p n h = (within d b log words i p (NodeRow n) h, told_fixed d b log words i p 1 (NodeRow n) h (omega arith) refl)

  pub id_found : (p : ℕ) (n : Node) → HoldsNode d b log p n → id_at words p ≡ n.id
  unfolding id_at
  id_found p n h = (node_id p n h).1

  pub node_least : (p : ℕ) (n : Node) → HoldsNode d b log p n → Tells words p 2 (head_or 0 n.leaves)
  unfolding told fixed_words
  node_least p n h = (within d b log words i p (NodeRow n) h, told_fixed d b log words i p 2 (NodeRow n) h (omega arith) refl)

  -- the numbers of entries have 32 bits
  pub small : (k : ℕ) → k < length log → k < 2 ^ 32
  small k h = let e = entries_few d b log in let f = few d b log words i in omega arith

  pub node_made : (p : ℕ) (n : Node) → HoldsNode d b log p n → Tells words p 3 n.made × (n.made < 2 ^ 32)
  unfolding told fixed_words
  node_made p n h = (
    (within d b log words i p (NodeRow n) h, told_fixed d b log words i p 3 (NodeRow n) h (omega arith) refl),
    small n.made (made_below d b log i.legal p n h),
  )

  pub entry_number : (p : ℕ) (e : Entry) → Holds d b log p (EntryRow e) → Tells words p 3 e.number × (e.number < 2 ^ 32)
  unfolding told fixed_words
  entry_number p e h = (
    (within d b log words i p (EntryRow e) h, told_fixed d b log words i p 3 (EntryRow e) h (omega arith) refl),
    small e.number (number_below d b log i.legal p e h),
  )
