-- What stands at a place, by the kind of the record there.
use Rattle.std.proofs.Common.{◌≡◌, ℕ, ◌+◌, ◌*◌, ◌%◌, ◌≤◌, List, length, take, get_or, refl, sym, ◌∙◌, ap, subst, arith, eq-eqb}
use Rattle.std.proofs.lemmas.Option.{slice_get-get_or}
use Rattle.op_model.specs.declared.base.Dataset.{Dataset}
use Rattle.op_model.specs.declared.base.Base.{Base}
use Rattle.op_model.specs.declared.base.Edge.{Edge}
use Rattle.op_model.specs.declared.entry.Changed.{Changed}
use Rattle.op_model.specs.declared.entry.Entry.{Entry}
use Rattle.op_model.specs.Samples.{base, data_a, halved, ingested, regained}
use Rattle.record_rows.specs.Rows.{Row, HeaderRow, SupervoxelRow, ChunkRow, NodeRow, LinkRow, EdgeRow, ChangeRow, ItemRow, EntryRow, Node}
use Rattle.record_rows.specs.Chains.{has_id}
use Rattle.record_rows.specs.Words.{fixed_words, layout_word}
use Rattle.record_rows.specs.LogRows.{rows_of}
use Rattle.record_rows.specs.Readings.{Image, Holds, HoldsChange, HoldsChunk, HoldsEdge, HoldsId, HoldsNode, HoldsSupervoxel}
use Rattle.row_tests.specs.Samples.{words_halved, words_ingested, words_regained}
use Rattle.record_rows.proofs.ImageFacts.{header, image_fixed, parent_image, within}
use Rattle.record_rows.proofs.TellLemmas.{length-words_of}
use Rattle.row_tests.proofs.SampleImages.{halved_image, ingested_image, regained_image}
use Rattle.row_tests.specs.Kinds.{HasKind, IsOwner, IsSample, Node as ANode, Supervoxel as ASupervoxel}

-- the code of a record's kind
code : Row → ℕ
code (HeaderRow d s c) = 1
code (SupervoxelRow v) = 2
code (ChunkRow c) = 3
code (NodeRow n) = 4
code (LinkRow l) = 5
code (EdgeRow made e) = 6
code (ChangeRow k c) = 7
code (ItemRow i) = 8
code (EntryRow e) = 9

-- it stands in the low bits of the first word
code_told : (before : List Row) (row : Row) → get_or (fixed_words before row) 0 0 % 256 ≡ code row
unfolding fixed_words layout_word code
code_told before (HeaderRow d s c) = omega arith
code_told before (SupervoxelRow v) = refl
code_told before (ChunkRow c) = refl
code_told before (NodeRow n) = refl
code_told before (LinkRow l) = refl
code_told before (EdgeRow made e) = omega arith
code_told before (ChangeRow k c) = omega arith
code_told before (ItemRow i) = omega arith
code_told before (EntryRow e) = omega arith

module _ (words : List ℕ) (s : IsSample words) (place kind : ℕ) (k : HasKind words place kind) where
  some_row : (row : Row) × Holds data_a base s.log place row × (code row ≡ kind)
  some_row =
      let rows : List Row = rows_of data_a base s.log in
      let long : length words ≡ 8 * length rows = ap length s.image.stands ∙ length-words_of rows in
      let w = k.within in
      let row : Row = get_or rows place (HeaderRow data_a 0 0) in
      let h : Holds data_a base s.log place row = slice_get-get_or rows place (HeaderRow data_a 0 0) (omega arith) in
      let zero_more : 8 * place + 0 ≡ 8 * place = omega arith in
      let c : get_or words (8 * place) 0 % 256 ≡ code row =
      ap (λ i. get_or words i 0 % 256) (sym zero_more) ∙ (ap (λ x. x % 256) (image_fixed data_a base s.log words s.image place 0 row h (omega arith)) ∙ code_told (take place rows) row) in
      (row, h, sym c ∙ k.code)

-- what a record of each kind is
pub node_kind : (words : List ℕ) (s : IsSample words) (place : ℕ) → HasKind words place 4 → (n : Node) × HoldsNode data_a base s.log place n
unfolding code
node_kind words s place k = go (some_row words s place 4 k).0 (some_row words s place 4 k).1 (some_row words s place 4 k).2
  where
    go : (row : Row) → Holds data_a base s.log place row → code row ≡ 4 → (n : Node) × HoldsNode data_a base s.log place n
    go (HeaderRow d s c) h y = absurd (omega arith)
    go (SupervoxelRow v) h y = absurd (omega arith)
    go (ChunkRow c) h y = absurd (omega arith)
    go (NodeRow n) h y = (n, h)
    go (LinkRow l) h y = absurd (omega arith)
    go (EdgeRow made e) h y = absurd (omega arith)
    go (ChangeRow x c) h y = absurd (omega arith)
    go (ItemRow i) h y = absurd (omega arith)
    go (EntryRow e) h y = absurd (omega arith)

pub chunk_kind : (words : List ℕ) (s : IsSample words) (place : ℕ) → HasKind words place 3 → (c : ℕ) × HoldsChunk data_a base s.log place c
unfolding code
chunk_kind words s place k = go (some_row words s place 3 k).0 (some_row words s place 3 k).1 (some_row words s place 3 k).2
  where
    go : (row : Row) → Holds data_a base s.log place row → code row ≡ 3 → (c : ℕ) × HoldsChunk data_a base s.log place c
    go (HeaderRow d s c) h y = absurd (omega arith)
    go (SupervoxelRow v) h y = absurd (omega arith)
    go (ChunkRow c) h y = (c, h)
    go (NodeRow n) h y = absurd (omega arith)
    go (LinkRow l) h y = absurd (omega arith)
    go (EdgeRow made e) h y = absurd (omega arith)
    go (ChangeRow x c) h y = absurd (omega arith)
    go (ItemRow i) h y = absurd (omega arith)
    go (EntryRow e) h y = absurd (omega arith)

pub supervoxel_kind : (words : List ℕ) (s : IsSample words) (place : ℕ) → HasKind words place 2 → (v : ℕ) × HoldsSupervoxel data_a base s.log place v
unfolding code
supervoxel_kind words s place k = go (some_row words s place 2 k).0 (some_row words s place 2 k).1 (some_row words s place 2 k).2
  where
    go : (row : Row) → Holds data_a base s.log place row → code row ≡ 2 → (v : ℕ) × HoldsSupervoxel data_a base s.log place v
    go (HeaderRow d s c) h y = absurd (omega arith)
    go (SupervoxelRow v) h y = (v, h)
    go (ChunkRow c) h y = absurd (omega arith)
    go (NodeRow n) h y = absurd (omega arith)
    go (LinkRow l) h y = absurd (omega arith)
    go (EdgeRow made e) h y = absurd (omega arith)
    go (ChangeRow x c) h y = absurd (omega arith)
    go (ItemRow i) h y = absurd (omega arith)
    go (EntryRow e) h y = absurd (omega arith)

pub edge_kind : (words : List ℕ) (s : IsSample words) (place : ℕ) → HasKind words place 6 → (made : ℕ) × (e : Edge) × HoldsEdge data_a base s.log place made e
unfolding code
edge_kind words s place k = go (some_row words s place 6 k).0 (some_row words s place 6 k).1 (some_row words s place 6 k).2
  where
    go : (row : Row) → Holds data_a base s.log place row → code row ≡ 6 → (made : ℕ) × (e : Edge) × HoldsEdge data_a base s.log place made e
    go (HeaderRow d s c) h y = absurd (omega arith)
    go (SupervoxelRow v) h y = absurd (omega arith)
    go (ChunkRow c) h y = absurd (omega arith)
    go (NodeRow n) h y = absurd (omega arith)
    go (LinkRow l) h y = absurd (omega arith)
    go (EdgeRow made e) h y = (made, e, h)
    go (ChangeRow x c) h y = absurd (omega arith)
    go (ItemRow i) h y = absurd (omega arith)
    go (EntryRow e) h y = absurd (omega arith)

pub change_kind : (words : List ℕ) (s : IsSample words) (place : ℕ) → HasKind words place 7 → (entry : ℕ) × (c : Changed) × HoldsChange data_a base s.log place entry c
unfolding code
change_kind words s place k = go (some_row words s place 7 k).0 (some_row words s place 7 k).1 (some_row words s place 7 k).2
  where
    go : (row : Row) → Holds data_a base s.log place row → code row ≡ 7 → (entry : ℕ) × (c : Changed) × HoldsChange data_a base s.log place entry c
    go (HeaderRow d s c) h y = absurd (omega arith)
    go (SupervoxelRow v) h y = absurd (omega arith)
    go (ChunkRow c) h y = absurd (omega arith)
    go (NodeRow n) h y = absurd (omega arith)
    go (LinkRow l) h y = absurd (omega arith)
    go (EdgeRow made e) h y = absurd (omega arith)
    go (ChangeRow x c) h y = (x, c, h)
    go (ItemRow i) h y = absurd (omega arith)
    go (EntryRow e) h y = absurd (omega arith)

-- a node has its id
pub owner_kind : (d : Dataset) (b : Base) (log : List Entry) (place : ℕ) (n : Node) → HoldsNode d b log place n → HoldsId d b log place n.id
unfolding has_id
owner_kind d b log place n h = (NodeRow n, h, eq-eqb n.id n.id refl)

-- a supervoxel has its id
supervoxel_owner : (d : Dataset) (b : Base) (log : List Entry) (place v : ℕ) → HoldsSupervoxel d b log place v → HoldsId d b log place v
unfolding has_id
supervoxel_owner d b log place v h = (SupervoxelRow v, h, eq-eqb v v refl)

-- a node or a supervoxel has an id
pub owner_id : (words : List ℕ) (s : IsSample words) (place : ℕ) → IsOwner words place → (id : ℕ) × HoldsId data_a base s.log place id
owner_id words s place (ANode k) = let h = node_kind words s place k in (h.0.id, owner_kind data_a base s.log place h.0 h.1)
owner_id words s place (ASupervoxel k) = let h = supervoxel_kind words s place k in (h.0, supervoxel_owner data_a base s.log place h.0 h.1)

-- the header lies within the words
pub header_within : (words : List ℕ) (s : IsSample words) → 8 ≤ length words
header_within words s =
    let i = parent_image data_a base s.log words s.image in
    within data_a base s.log words i 0 (HeaderRow data_a _ _) (header data_a base s.log words i)

pub regained_sample : (words : List ℕ) → words ≡ words_regained → IsSample words
regained_sample words e = record { log = regained; image = subst (Image data_a base regained) (sym e) regained_image }

pub ingested_sample : (words : List ℕ) → words ≡ words_ingested → IsSample words
ingested_sample words e = record { log = ingested; image = subst (Image data_a base ingested) (sym e) ingested_image }

pub halved_sample : (words : List ℕ) → words ≡ words_halved → IsSample words
halved_sample words e = record { log = halved; image = subst (Image data_a base halved) (sym e) halved_image }
