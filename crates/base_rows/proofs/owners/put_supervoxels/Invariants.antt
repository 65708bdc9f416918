use Rattle.std.proofs.Common.{◌≡◌, ℕ, ◌+◌, ◌-◌, ◌*◌, [], ◌∷◌, length, map, take}
use Rattle.op_model.specs.declared.base.Dataset.{Dataset}
use Rattle.record_rows.specs.Rows.{HeaderRow, SupervoxelRow}
use Rattle.record_rows.specs.Words.{words_of}
use Rattle.base_rows.proofs.owners.put_supervoxels.Given as goal

abbrev pub invariant-loop-id : goal.invariant-loop-id
invariant-loop-id l =
    ((d : Dataset) (s c : ℕ) → l.fn.w.words ≡ words_of (HeaderRow d s c ∷ []) → l.w.words ≡ words_of (HeaderRow d s c ∷ map SupervoxelRow (take l.id-index l.ids)))
    × (length l.w.words ≡ length l.fn.w.words + 8 * l.id-index) × (l.w.spare ≡ l.fn.w.spare - 8 * l.id-index)
