-- What the kind of a record tells: the records of edges, changes and items have other kinds than all others.
use Rattle.std.proofs.Common.{◌≡◌, ℕ, ◌+◌, ◌-◌, ◌*◌, ◌/◌, ◌%◌, ◌^◌, ◌<◌, ◌≤◌, true, false, List, length, take, get_or, refl, sym, ◌∙◌, ap, arith}
use Rattle.op_model.specs.declared.base.Dataset.{Dataset}
use Rattle.op_model.specs.declared.base.Base.{Base}
use Rattle.op_model.specs.declared.entry.Entry.{Entry}
use Rattle.record_rows.specs.Rows.{Row, HeaderRow, SupervoxelRow, ChunkRow, NodeRow, LinkRow, EdgeRow, ChangeRow, ItemRow, EntryRow, Node, Link}
use Rattle.record_rows.specs.Images.{told}
use Rattle.record_rows.specs.Words.{layout_word, kind_code, names, fixed_words}
use Rattle.record_rows.specs.Ascending.{kind_at}
use Rattle.record_rows.specs.LogRows.{rows_of}
use Rattle.record_rows.specs.Readings.{ParentImage, Holds, HoldsNode}
use Rattle.record_rows.proofs.ImageFacts.{few, told_fixed}
use Rattle.record_rows.proofs.EntryPlaces.{entries_ascend, row_at}

module _ (d : Dataset) (b : Base) (log : List Entry) (words : List ℕ) (i : ParentImage d b log words) where
  -- the first word of a record that is told
  first_word : (p : ℕ) (row : Row) → Holds d b log p row → get_or (told row) 0 false ≡ true → get_or words (8 * p) 0 ≡ get_or (fixed_words (take p (rows_of d b log)) row) 0 0
  first_word p row h t =
      let e : 8 * p + 0 ≡ 8 * p = omega arith in
      sym (ap (λ x. get_or words x 0) e) ∙ told_fixed d b log words i p 0 row h (omega arith) t

  -- a record of kind 4 is a node's
  pub kind_node : (p : ℕ) (row : Row) → Holds d b log p row → get_or words (8 * p) 0 % 2 ^ 8 ≡ 4 → (n : Node) × HoldsNode d b log p n
  unfolding told fixed_words layout_word kind_at
  kind_node p (NodeRow n) h k = (n, h)
  kind_node p (HeaderRow of s c) h k = let w : get_or words (8 * p) 0 ≡ 1 + of.layout.bits * 2 ^ 8 + (of.layout.version - 1) * 2 ^ 16 = first_word p (HeaderRow of s c) h refl in absurd (omega arith)
  kind_node p (SupervoxelRow v) h k = let w : get_or words (8 * p) 0 ≡ 2 = first_word p (SupervoxelRow v) h refl in absurd (omega arith)
  kind_node p (ChunkRow c) h k = let w : get_or words (8 * p) 0 ≡ 3 = first_word p (ChunkRow c) h refl in absurd (omega arith)
  kind_node p (LinkRow l) h k = let w : get_or words (8 * p) 0 ≡ 5 = first_word p (LinkRow l) h refl in absurd (omega arith)
  kind_node p (EntryRow e) h k = let w : get_or words (8 * p) 0 ≡ 9 + kind_code e.asked * 2 ^ 8 + names e.asked * 2 ^ 32 = first_word p (EntryRow e) h refl in absurd (omega arith)
  kind_node p (EdgeRow made e) h k = absurd ((i.apart p (EdgeRow made e) h tt).3 k)
  kind_node p (ChangeRow entry c) h k = absurd ((i.apart p (ChangeRow entry c) h tt).3 k)
  kind_node p (ItemRow m) h k = absurd ((i.apart p (ItemRow m) h tt).3 k)

  -- and one of kind 5 a link's
  pub kind_link : (p : ℕ) (row : Row) → Holds d b log p row → get_or words (8 * p) 0 % 2 ^ 8 ≡ 5 → (l : Link) × Holds d b log p (LinkRow l)
  unfolding told fixed_words layout_word kind_at
  kind_link p (LinkRow l) h k = (l, h)
  kind_link p (HeaderRow of s c) h k = let w : get_or words (8 * p) 0 ≡ 1 + of.layout.bits * 2 ^ 8 + (of.layout.version - 1) * 2 ^ 16 = first_word p (HeaderRow of s c) h refl in absurd (omega arith)
  kind_link p (SupervoxelRow v) h k = let w : get_or words (8 * p) 0 ≡ 2 = first_word p (SupervoxelRow v) h refl in absurd (omega arith)
  kind_link p (ChunkRow c) h k = let w : get_or words (8 * p) 0 ≡ 3 = first_word p (ChunkRow c) h refl in absurd (omega arith)
  kind_link p (NodeRow n) h k = let w : get_or words (8 * p) 0 ≡ 4 = first_word p (NodeRow n) h refl in absurd (omega arith)
  kind_link p (EntryRow e) h k = let w : get_or words (8 * p) 0 ≡ 9 + kind_code e.asked * 2 ^ 8 + names e.asked * 2 ^ 32 = first_word p (EntryRow e) h refl in absurd (omega arith)
  kind_link p (EdgeRow made e) h k = absurd ((i.apart p (EdgeRow made e) h tt).4 k)
  kind_link p (ChangeRow entry c) h k = absurd ((i.apart p (ChangeRow entry c) h tt).4 k)
  kind_link p (ItemRow m) h k = absurd ((i.apart p (ItemRow m) h tt).4 k)

  -- at each place below the number of eight words a record stands, within the words and few
  pub place_in : (p : ℕ) → p < length words / 8 → (row : Row) × Holds d b log p row
  place_in p h = let w = (entries_ascend d b log words i).within in row_at d b log words i p (omega arith)

  pub place_few : (p : ℕ) → p < length words / 8 → (8 * p + 8 ≤ length words) × (p < 2 ^ 32)
  place_few p h = let w = (entries_ascend d b log words i).within in let f = few d b log words i in (omega arith, omega arith)
