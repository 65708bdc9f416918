-- Examples: no clause of `run` is made of them.
-- A log of two entries, and the words of its records, written by hand from the table of records, one record a line.
use Rattle.std.specs.Prelude.{◌≡◌, ℕ, List, [], ◌∷◌}
use Rattle.op_model.specs.declared.base.Dataset.{Dataset}
use Rattle.op_model.specs.declared.entry.Entry.{Entry}
use Rattle.op_model.specs.Operations.{first_entry, next_entry}
use Rattle.op_model.specs.Samples.{base, data_a, join, r, s}
use Rattle.row_words.specs.Drafts.{DraftRows}
use Rattle.row_words.specs.declared.draft.DraftLink.{DraftLink}
use Rattle.shared_rows.specs.Origin.{Origin, origin}

-- dataset A, with room for the records of both entries and no more
abbrev pub data_small : Dataset
data_small = record data_a { capacity = 34 }

abbrev pub first_log : List Entry
first_log = first_entry data_small base 1000 ∷ []

-- r and s merged by client 1
abbrev pub merge : Entry
merge = next_entry data_small base first_log 1 1 1010 (join r s)

abbrev pub first_words : List ℕ
first_words =
    2049 ∷ 1099512676354 ∷ 12884901892 ∷ 1 ∷ 0 ∷ 0 ∷ 0 ∷ 0
    ∷ 2 ∷ 72057594037927937 ∷ 0 ∷ 0 ∷ 8 ∷ 16 ∷ 0 ∷ 0
    ∷ 2 ∷ 72057594037927938 ∷ 0 ∷ 0 ∷ 8 ∷ 17 ∷ 0 ∷ 0
    ∷ 2 ∷ 72339069014638593 ∷ 0 ∷ 0 ∷ 9 ∷ 18 ∷ 0 ∷ 0
    ∷ 2 ∷ 72339069014638594 ∷ 0 ∷ 0 ∷ 10 ∷ 19 ∷ 0 ∷ 0
    ∷ 3 ∷ 144115188075855872 ∷ 0 ∷ 0 ∷ 11 ∷ 0 ∷ 0 ∷ 0
    ∷ 3 ∷ 144396663052566528 ∷ 0 ∷ 0 ∷ 12 ∷ 0 ∷ 0 ∷ 0
    ∷ 3 ∷ 216172782113783808 ∷ 0 ∷ 0 ∷ 14 ∷ 0 ∷ 0 ∷ 0
    ∷ 262 ∷ 72057594037927937 ∷ 72057594037927938 ∷ 10 ∷ 0 ∷ 0 ∷ 9 ∷ 0
    ∷ 262 ∷ 72057594037927938 ∷ 72339069014638593 ∷ 7 ∷ 0 ∷ 0 ∷ 10 ∷ 0
    ∷ 6 ∷ 72339069014638593 ∷ 72339069014638594 ∷ 5 ∷ 0 ∷ 0 ∷ 0 ∷ 0
    ∷ 4 ∷ 144115188075855873 ∷ 72057594037927937 ∷ 0 ∷ 16 ∷ 20 ∷ 0 ∷ 0
    ∷ 4 ∷ 144396663052566529 ∷ 72339069014638593 ∷ 0 ∷ 18 ∷ 21 ∷ 0 ∷ 13
    ∷ 4 ∷ 144396663052566530 ∷ 72339069014638594 ∷ 0 ∷ 19 ∷ 22 ∷ 0 ∷ 0
    ∷ 4 ∷ 216172782113783809 ∷ 72057594037927937 ∷ 0 ∷ 20 ∷ 0 ∷ 0 ∷ 15
    ∷ 4 ∷ 216172782113783810 ∷ 72339069014638594 ∷ 0 ∷ 22 ∷ 0 ∷ 0 ∷ 0
    ∷ 5 ∷ 72057594037927937 ∷ 1 ∷ 0 ∷ 11 ∷ 17 ∷ 0 ∷ 0
    ∷ 5 ∷ 72057594037927938 ∷ 2 ∷ 0 ∷ 11 ∷ 0 ∷ 0 ∷ 0
    ∷ 5 ∷ 72339069014638593 ∷ 3 ∷ 0 ∷ 12 ∷ 0 ∷ 0 ∷ 0
    ∷ 5 ∷ 72339069014638594 ∷ 4 ∷ 0 ∷ 13 ∷ 0 ∷ 0 ∷ 0
    ∷ 5 ∷ 144115188075855873 ∷ 11 ∷ 0 ∷ 14 ∷ 21 ∷ 0 ∷ 0
    ∷ 5 ∷ 144396663052566529 ∷ 12 ∷ 0 ∷ 14 ∷ 0 ∷ 0 ∷ 0
    ∷ 5 ∷ 144396663052566530 ∷ 13 ∷ 0 ∷ 15 ∷ 0 ∷ 0 ∷ 0
    ∷ 9 ∷ 1000 ∷ 0 ∷ 0 ∷ 0 ∷ 0 ∷ 0 ∷ 0
    ∷ []

-- the records of the merge
abbrev pub merge_rows : List (List ℕ)
merge_rows =
    (4 ∷ 144396663052566531 ∷ 72339069014638593 ∷ 1 ∷ 26 ∷ 29 ∷ 0 ∷ 0 ∷ [])
    ∷ (4 ∷ 216172782113783811 ∷ 72057594037927937 ∷ 1 ∷ 28 ∷ 0 ∷ 0 ∷ 0 ∷ [])
    ∷ (5 ∷ 72339069014638593 ∷ 3 ∷ 1 ∷ 24 ∷ 27 ∷ 0 ∷ 0 ∷ [])
    ∷ (5 ∷ 72339069014638594 ∷ 4 ∷ 1 ∷ 24 ∷ 0 ∷ 0 ∷ 0 ∷ [])
    ∷ (5 ∷ 144115188075855873 ∷ 11 ∷ 1 ∷ 25 ∷ 29 ∷ 0 ∷ 0 ∷ [])
    ∷ (5 ∷ 144396663052566531 ∷ 24 ∷ 1 ∷ 25 ∷ 0 ∷ 0 ∷ 0 ∷ [])
    ∷ (264 ∷ 72339069014638593 ∷ 0 ∷ 0 ∷ 31 ∷ 0 ∷ 0 ∷ 0 ∷ [])
    ∷ (520 ∷ 72339069014638594 ∷ 0 ∷ 0 ∷ 0 ∷ 0 ∷ 0 ∷ 0 ∷ [])
    ∷ (263 ∷ 72339069014638593 ∷ 72339069014638594 ∷ 1 ∷ 10 ∷ 0 ∷ 0 ∷ 0 ∷ [])
    ∷ (265 ∷ 1010 ∷ 4294967297 ∷ 1 ∷ 30 ∷ 32 ∷ 23 ∷ 0 ∷ [])
    ∷ []

-- a pointer that the merge fills
abbrev pub link : ℕ → ℕ → ℕ → DraftLink
link from k to = record { from = from; k = k; to = to }

abbrev pub merge_links : List DraftLink
merge_links =
    link 10 4 32 ∷ link 12 6 33 ∷ link 13 6 33 ∷ link 13 7 24 ∷ link 14 6 33 ∷ link 15 6 33 ∷ link 15 7 25 ∷ link 18 6 26 ∷ link 19 6 27 ∷ link 20 6 28 ∷ []

-- the draft has them, behind the first words
pub record IsMerge (d : DraftRows) : Type 0 where
  pub tail_is : d.tail ≡ 24
  pub rows_are : d.rows ≡ merge_rows
  pub links_are : d.links ≡ merge_links

-- what the table is told: the first log, and its words
abbrev pub told : Origin
told = origin data_small base first_log first_words 24
