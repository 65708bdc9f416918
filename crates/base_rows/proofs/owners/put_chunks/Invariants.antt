use Rattle.std.proofs.Common.{◌≡◌, ℕ, ◌+◌, ◌-◌, ◌*◌, List, ◌∷◌, ◌++◌, length, map, take}
use Rattle.op_model.specs.declared.base.Dataset.{Dataset}
use Rattle.record_rows.specs.Rows.{HeaderRow, SupervoxelRow, ChunkRow}
use Rattle.record_rows.specs.Words.{words_of}
use Rattle.base_rows.proofs.owners.put_chunks.Given as goal

abbrev pub invariant-loop-id : goal.invariant-loop-id
invariant-loop-id l =
    ((d : Dataset) (s c : ℕ) (ids : List ℕ) → l.fn.w.words ≡ words_of (HeaderRow d s c ∷ map SupervoxelRow ids)
    → l.w.words ≡ words_of (HeaderRow d s c ∷ map SupervoxelRow ids ++ map ChunkRow (take l.id-index l.chunks)))
    × (length l.w.words ≡ length l.fn.w.words + 8 * l.id-index) × (l.w.spare ≡ l.fn.w.spare - 8 * l.id-index)
