-- Which records don't count for nodes, and that emptying them leaves what is told of those.
use Rattle.std.proofs.Common.{◌≡◌, ℕ, ◌+◌, ◌*◌, ◌-◌, ◌%◌, ◌^◌, ◌<◌, ◌≤◌, true, false, List, length, take, get_or, refl, sym, ◌∙◌, ap, arith}
use Rattle.std.proofs.lemmas.Option.{slice_get-get_or}
use Rattle.op_model.specs.declared.base.Dataset.{Dataset}
use Rattle.op_model.specs.declared.base.Base.{Base}
use Rattle.op_model.specs.declared.entry.Entry.{Entry}
use Rattle.record_rows.specs.Rows.{Row, HeaderRow, SupervoxelRow, ChunkRow, NodeRow, LinkRow, EdgeRow, ChangeRow, ItemRow, EntryRow}
use Rattle.record_rows.specs.Images.{told, told_of}
use Rattle.record_rows.specs.LogRows.{rows_of}
use Rattle.record_rows.specs.Words.{fixed_words, layout_word, kind_code, names, words_of}
use Rattle.record_rows.specs.Readings.{Holds, ParentImage}
use Rattle.record_rows.proofs.ImageFacts.{few, told_fixed}
use Rattle.record_rows.proofs.TellLemmas.{length-words_of, same_length}
use Rattle.row_tests.specs.Logs.{IsUntold}

module _ (d : Dataset) (b : Base) (log : List Entry) (words : List ℕ) (i : ParentImage d b log words) where
  long : length words ≡ 8 * length (rows_of d b log)
  long = same_length (told_of (rows_of d b log)) words (words_of (rows_of d b log)) i.parents ∙ length-words_of (rows_of d b log)

  -- a record stands wherever the words reach
  pub row_at : (p : ℕ) → 8 * p + 8 ≤ length words → (row : Row) × Holds d b log p row
  row_at p h = let n = long in (_, slice_get-get_or (rows_of d b log) p (HeaderRow d 0 0) (omega (arith, n)))

  -- there are few enough to be counted in 32 bits
  pub few_words : length words < 2 ^ 32
  few_words = let n = long in let f = few d b log words i in omega (arith, n, f)

  -- the first word of a record that is told
  first : (p : ℕ) (row : Row) → Holds d b log p row → get_or (told row) 0 false ≡ true → get_or words (8 * p) 0 ≡ get_or (fixed_words (take p (rows_of d b log)) row) 0 0
  first p row h t =
      let e : 8 * p + 0 ≡ 8 * p = omega arith in
      sym (ap (λ x. get_or words x 0) e) ∙ told_fixed d b log words i p 0 row h (omega arith) t

  -- a record whose kind the words tell to be an edge's isn't told
  pub edge_untold : (p : ℕ) (row : Row) → Holds d b log p row → get_or words (8 * p) 0 % 2 ^ 8 ≡ 6 → IsUntold row
  unfolding told fixed_words layout_word
  edge_untold p (EdgeRow made e) h k = (refl, (refl, (refl, (refl, (refl, (refl, (refl, (refl, tt))))))))
  edge_untold p (ChangeRow entry c) h k = (refl, (refl, (refl, (refl, (refl, (refl, (refl, (refl, tt))))))))
  edge_untold p (ItemRow item) h k = (refl, (refl, (refl, (refl, (refl, (refl, (refl, (refl, tt))))))))
  edge_untold p (HeaderRow of s c) h k =
      let w : get_or words (8 * p) 0 ≡ 1 + of.layout.bits * 2 ^ 8 + (of.layout.version - 1) * 2 ^ 16 = first p (HeaderRow of s c) h refl in
      absurd (omega arith)
  edge_untold p (SupervoxelRow v) h k = let w : get_or words (8 * p) 0 ≡ 2 = first p (SupervoxelRow v) h refl in absurd (omega arith)
  edge_untold p (ChunkRow c) h k = let w : get_or words (8 * p) 0 ≡ 3 = first p (ChunkRow c) h refl in absurd (omega arith)
  edge_untold p (NodeRow n) h k = let w : get_or words (8 * p) 0 ≡ 4 = first p (NodeRow n) h refl in absurd (omega arith)
  edge_untold p (LinkRow l) h k = let w : get_or words (8 * p) 0 ≡ 5 = first p (LinkRow l) h refl in absurd (omega arith)
  edge_untold p (EntryRow e) h k =
      let w : get_or words (8 * p) 0 ≡ 9 + kind_code e.asked * 2 ^ 8 + names e.asked * 2 ^ 32 = first p (EntryRow e) h refl in
      absurd (omega arith)
