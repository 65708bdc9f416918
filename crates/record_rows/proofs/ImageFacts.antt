-- What readers learn of the words of an image: where they end, and what each word that they tell is.
use Rattle.std.proofs.Common.{◌≡◌, ℕ, ◌+◌, ◌*◌, ◌%◌, ◌<◌, ◌≤◌, ◌^◌, Bool, true, false, cond, List, [], ◌∷◌, length, take, drop, get_or, sym, ◌∙◌, ap, subst, arith, length-drop}
use Rattle.std.proofs.lemmas.Option.{slice_get_within}
use Rattle.op_model.specs.declared.base.Dataset.{Dataset}
use Rattle.op_model.specs.declared.base.Base.{Base}
use Rattle.op_model.specs.declared.entry.Entry.{Entry}
use Rattle.op_model.specs.Records.{records}
use Rattle.record_rows.specs.Rows.{Row, HeaderRow, SupervoxelRow, ChunkRow, NodeRow, LinkRow, EdgeRow, ChangeRow, ItemRow, EntryRow}
use Rattle.record_rows.specs.Chains.{Aim, Nowhere, First, Next, aims}
use Rattle.record_rows.specs.Words.{place_from, fixed_words, pointer_word, words_of}
use Rattle.record_rows.specs.LogRows.{rows_of, chunks}
use Rattle.record_rows.specs.Images.{told}
use Rattle.record_rows.specs.Readings.{Image, ParentImage, IsOther, IsOtherKind, KindsApart, Holds, place_of, first_place, next_place}
use Rattle.record_rows.specs.Ascending.{kind_at}
use Rattle.record_rows.proofs.BaseCounts.{counted}
use Rattle.record_rows.proofs.Lookups.{fixed_at, pointer_at}
use Rattle.record_rows.proofs.TellLemmas.{word_told, word_within}
use Rattle.record_rows.proofs.ToldLaws.{headed, standing_tells}

-- the words of records have their own kinds
kinds_apart : (rows : List Row) → KindsApart rows (words_of rows)
unfolding kind_at fixed_words
kinds_apart rows p row h o = subst (λ i. IsOtherKind (get_or (words_of rows) i 0 % 2 ^ 8)) (eight p) (go row (fixed_at rows p 0 row h (omega arith)) o)
  where
    eight : (p : ℕ) → 8 * p + 0 ≡ 8 * p
    eight p = omega arith

    six : (k : ℕ) → 6 ≤ k → k < 9 → IsOtherKind k
    six k l m = ((λ e. absurd (omega arith)), (λ e. absurd (omega arith)), (λ e. absurd (omega arith)), (λ e. absurd (omega arith)), (λ e. absurd (omega arith)), (λ e. absurd (omega arith)))

    go : (row : Row) → get_or (words_of rows) (8 * p + 0) 0 ≡ get_or (fixed_words (take p rows) row) 0 0 → IsOther row → IsOtherKind (get_or (words_of rows) (8 * p + 0) 0 % 2 ^ 8)
    go (EdgeRow made e) w o = six _ (omega arith) (omega arith)
    go (ChangeRow entry c) w o = six _ (omega arith) (omega arith)
    go (ItemRow i) w o = six _ (omega arith) (omega arith)
    go (HeaderRow d s c) w o = absurd o
    go (SupervoxelRow v) w o = absurd o
    go (ChunkRow c) w o = absurd o
    go (NodeRow n) w o = absurd o
    go (LinkRow l) w o = absurd o
    go (EntryRow e) w o = absurd o

-- the image of a log tells of its nodes and parents
pub parent_image : (d : Dataset) (b : Base) (log : List Entry) (words : List ℕ) → Image d b log words → ParentImage d b log words
parent_image d b log words i = record {
  dataset = i.dataset;
  base = i.base;
  legal = i.legal;
  numbers = i.numbers;
  fits = i.fits;
  parents = standing_tells d b words log i.stands;
  apart = subst (KindsApart (rows_of d b log)) (sym i.stands) (kinds_apart (rows_of d b log));
}

place_small : (test : Row → Bool) (place : ℕ) (rows : List Row) → place_from test place rows ≤ place + length rows
unfolding place_from
place_small test place [] = omega arith
place_small test place (row ∷ rows) = go (test row) (place_small test (place + 1) rows)
  where
    go : (t : Bool) → place_from test (place + 1) rows ≤ place + 1 + length rows → cond t place (place_from test (place + 1) rows) ≤ place + length (row ∷ rows)
    go true ih = omega arith
    go false ih = let q = ih in omega arith

pointer_small : (rows : List Row) (p : ℕ) (aim : Aim) → p < length rows → pointer_word rows p (drop (p + 1) rows) aim ≤ length rows
unfolding pointer_word
pointer_small rows p Nowhere h = omega arith
pointer_small rows p (First test) h = let q = place_small test 0 rows in omega (arith, q)
pointer_small rows p (Next test) h = let q = place_small test (p + 1) (drop (p + 1) rows) in let n = length-drop (p + 1) rows in omega (arith, q, n)

module _ (d : Dataset) (b : Base) (log : List Entry) (words : List ℕ) where
  abbrev rows : List Row
  rows = rows_of d b log

  module _ (i : ParentImage d b log words) where
    -- an image has no more records than there may be
    pub few : length rows ≤ 16777216
    few =
        let c : length rows ≡ records d b log = counted d b log i.dataset i.base i.legal in
        let f = i.fits in
        let g = i.dataset.capacity.1 in
        omega arith

    -- the header stands at the first place
    pub header : Holds d b log 0 (HeaderRow d (length b.supervoxels) (length (chunks d b)))
    header = headed d b log

    -- the words reach over each record
    pub within : (p : ℕ) (row : Row) → Holds d b log p row → 8 * p + 8 ≤ length words
    within p row h = let q = word_within rows words p 7 row i.parents h (omega arith) in omega (arith, q)

    pub below_few : (p : ℕ) (row : Row) → Holds d b log p row → p < 16777216
    below_few p row h = let q : p < length rows = slice_get_within rows p row h in let f = few in omega (arith, q, f)

    -- a fixed word that is told
    pub told_fixed : (p k : ℕ) (row : Row) → Holds d b log p row → k < 4 → get_or (told row) k false ≡ true → get_or words (8 * p + k) 0 ≡ get_or (fixed_words (take p rows) row) k 0
    told_fixed p k row h l t = word_told rows words p k row i.parents h (omega arith) t ∙ fixed_at rows p k row h l

    -- a pointer that is told
    pub told_pointer : (p k : ℕ) (row : Row) → Holds d b log p row → k < 4 → get_or (told row) (4 + k) false ≡ true
        → get_or words (8 * p + (4 + k)) 0 ≡ pointer_word rows p (drop (p + 1) rows) (get_or (aims row) k Nowhere)
    told_pointer p k row h l t = word_told rows words p (4 + k) row i.parents h (omega arith) t ∙ pointer_at rows p k row h l

    pub told_small : (p k : ℕ) (row : Row) → Holds d b log p row → k < 4 → get_or (told row) (4 + k) false ≡ true → get_or words (8 * p + (4 + k)) 0 < 2 ^ 32
    told_small p k row h l t =
        let q : p < length rows = slice_get_within rows p row h in
        let s = pointer_small rows p (get_or (aims row) k Nowhere) q in
        let e = told_pointer p k row h l t in
        let f = few in
        omega (arith, s, e, f)

    -- where a pointer that is told leads, which searches all records
    pub told_first : (p k : ℕ) (row : Row) (test : Row → Bool) → Holds d b log p row → k < 4 → get_or (told row) (4 + k) false ≡ true → get_or (aims row) k Nowhere ≡ First test
        → place_of (get_or words (8 * p + (4 + k)) 0) ≡ first_place test rows
    unfolding first_place pointer_word
    told_first p k row test h l t a = ap place_of (told_pointer p k row h l t) ∙ ap (λ x. place_of (pointer_word rows p (drop (p + 1) rows) x)) a

    -- where a pointer that is told leads, which searches the records behind its own
    pub told_next : (p k : ℕ) (row : Row) (test : Row → Bool) → Holds d b log p row → k < 4 → get_or (told row) (4 + k) false ≡ true → get_or (aims row) k Nowhere ≡ Next test
        → place_of (get_or words (8 * p + (4 + k)) 0) ≡ next_place test rows p
    unfolding next_place pointer_word
    told_next p k row test h l t a = ap place_of (told_pointer p k row h l t) ∙ ap (λ x. place_of (pointer_word rows p (drop (p + 1) rows) x)) a

  module _ (i : Image d b log words) where
    parents : ParentImage d b log words
    parents = parent_image d b log words i

    -- a fixed word
    pub image_fixed : (p k : ℕ) (row : Row) → Holds d b log p row → k < 4 → get_or words (8 * p + k) 0 ≡ get_or (fixed_words (take p rows) row) k 0
    image_fixed p k row h l = ap (λ ws. get_or ws (8 * p + k) 0) i.stands ∙ fixed_at rows p k row h l

    -- a pointer
    pub image_pointer : (p k : ℕ) (row : Row) → Holds d b log p row → k < 4 → get_or words (8 * p + (4 + k)) 0 ≡ pointer_word rows p (drop (p + 1) rows) (get_or (aims row) k Nowhere)
    image_pointer p k row h l = ap (λ ws. get_or ws (8 * p + (4 + k)) 0) i.stands ∙ pointer_at rows p k row h l

    pub image_small : (p k : ℕ) (row : Row) → Holds d b log p row → k < 4 → get_or words (8 * p + (4 + k)) 0 < 2 ^ 32
    image_small p k row h l =
        let q : p < length rows = slice_get_within rows p row h in
        let s = pointer_small rows p (get_or (aims row) k Nowhere) q in
        let e = image_pointer p k row h l in
        let f = few parents in
        omega (arith, s, e, f)

    -- where a pointer leads that searches all records
    pub image_first : (p k : ℕ) (row : Row) (test : Row → Bool) → Holds d b log p row → k < 4 → get_or (aims row) k Nowhere ≡ First test → place_of (get_or words (8 * p + (4 + k)) 0) ≡ first_place test rows
    unfolding first_place pointer_word
    image_first p k row test h l a = ap place_of (image_pointer p k row h l) ∙ ap (λ x. place_of (pointer_word rows p (drop (p + 1) rows) x)) a

    -- where a pointer leads that searches the records behind its own
    pub image_next : (p k : ℕ) (row : Row) (test : Row → Bool) → Holds d b log p row → k < 4 → get_or (aims row) k Nowhere ≡ Next test → place_of (get_or words (8 * p + (4 + k)) 0) ≡ next_place test rows p
    unfolding next_place pointer_word
    image_next p k row test h l a = ap place_of (image_pointer p k row h l) ∙ ap (λ x. place_of (pointer_word rows p (drop (p + 1) rows) x)) a
