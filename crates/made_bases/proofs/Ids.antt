-- The records of the supervoxel table, read in turn.
use Rattle.std.proofs.Common.{◌≡◌, ◌∙◌, ℕ, zero, suc, ◌+◌, ◌/◌, ◌<◌, ◌≤◌, cond, true, false, not, ◌||◌, eqb, ltb, lt-ltb, ne_eqb, decimal, [], ◌∷◌, map, Result, Ok, Err, refl, ap, ap₂, arith}
use Rattle.std.proofs.lemmas.List.{map-append}
use Rattle.std.proofs.lemmas.List.Folds.{list_any-append}
use Rattle.node_ids.specs.Ids.{parts_of}
use Rattle.node_ids.proofs.DigitLemmas.{read_back}
use Rattle.chunk_geometry.specs.Grids.{in_grid}
use Rattle.op_model.specs.Lists.{has}
use Rattle.op_model.specs.declared.base.Dataset.{Dataset}
use Rattle.table_ingest.specs.Faults.{◌>>=◌, only_if, or_cause}
use Rattle.csv.specs.Records.{field_at}
use Rattle.table_ingest.specs.Records.{field}
use Rattle.table_ingest.specs.Supervoxels.{id_of, ids_of, is_id_header, placed, supervoxel_of}
use Rattle.table_ingest.specs.Tables.{table_of}
use Rattle.table_ingest.specs.declared.errors.Cause.{Cause}
use Rattle.table_ingest.specs.declared.errors.Cause.TheVariants as cause
use Rattle.table_ingest.specs.declared.errors.Table.TheVariants as tables
use Rattle.node_ids.specs.declared.Parts.{Parts}
use Rattle.chunk_geometry.specs.Cells.{Cells}
use Rattle.made_input.specs.Edges.{IsWish, chunks, parts, supervoxel}
use Rattle.made_input.specs.Texts.{numbers_below, supervoxel_rows}
use Rattle.made_input.specs.declared.wish.Wish.{Wish}
use Rattle.made_input.proofs.Places.{parts_told, above_told}
use Rattle.made_input.proofs.Plain.{id_small}
use Rattle.made_bases.proofs.Apart.{ids_apart}
use Rattle.made_bases.proofs.Turns.{AllRead, all_last, all_meant}

module _ (w : Wish) (d : Dataset) (ok : IsWish w) (layout : d.layout ≡ w.layout) (grid : d.grid ≡ w.grid) where
  abbrev id : ℕ → ℕ
  id k = supervoxel w k

  not_there : (k i : ℕ) → i ≤ k → k < w.size → has (map id (numbers_below i)) (id k) ≡ false
  unfolding numbers_below
  not_there k zero le lt = refl
  not_there k (suc i) le lt =
      ap (λ xs. has xs (id k)) (map-append id (numbers_below i) (i ∷ []))
      ∙ list_any-append (λ y. eqb y (id k)) (map id (numbers_below i)) (id i ∷ [])
      ∙ ap₂ (λ a b. a || (b || false)) (not_there k i (omega (arith, le)) lt) (ids_apart w ok i k (omega (arith, le)) lt)

  -- where it lies
  abbrev placed_by : Parts → Cells → ℕ → Result ℕ Cause
  placed_by p g v =
      only_if (λ v. eqb p.layer 1) cause.WrongLayer v
      >>= only_if (λ v. in_grid g (record { x = p.x; y = p.y; z = p.z })) cause.OutsideGrid
      >>= only_if (λ v. not (eqb p.segment 0)) cause.ZeroSegment

  is_placed : (k : ℕ) → k < w.size → placed d (id k) ≡ Ok (id k)
  unfolding placed parts
  is_placed k lt =
      let a = above_told w ok k lt in
      let x : ltb (parts w k).x w.grid.x ≡ true = lt-ltb _ _ a.0 in
      let y : ltb (parts w k).y w.grid.y ≡ true = lt-ltb _ _ a.1 in
      let z : ltb (parts w k).z w.grid.z ≡ true = lt-ltb _ _ a.2 in
      let s : eqb (k / chunks w + 1) 0 ≡ false = ne_eqb (k / chunks w + 1) 0 (λ e. omega (arith, e)) in
      ap₂ (λ p g. placed_by p g (id k)) (ap (λ y. parts_of y (id k)) layout ∙ parts_told w ok k lt) grid ∙ rw (x, y, z, s) refl

  record_read : (k : ℕ) → k < w.size → supervoxel_of d (map id (numbers_below k)) (decimal (id k) ∷ []) ≡ Ok (id k)
  unfolding supervoxel_of id_of field field_at
  record_read k lt =
      let before = map id (numbers_below k) in
      ap (λ o. (or_cause cause.BadId o >>= placed d) >>= only_if (λ v. not (has before v)) cause.DoubleSupervoxel) (read_back (id k) (id_small w ok k lt))
      ∙ ap (λ r. r >>= only_if (λ v. not (has before v)) cause.DoubleSupervoxel) (is_placed k lt)
      ∙ ap (λ b. cond (not b) (Ok (id k)) (Err cause.DoubleSupervoxel)) (not_there k k (omega arith) lt)

  all_read : (i : ℕ) → i ≤ w.size → AllRead tables.Supervoxels (supervoxel_of d) (λ k. decimal (id k) ∷ []) id [] (numbers_below i)
  unfolding numbers_below
  all_read zero le = tt
  all_read (suc i) le =
      all_last tables.Supervoxels (supervoxel_of d) (λ k. decimal (id k) ∷ []) id (numbers_below i) i [] (all_read i (omega (arith, le))) (record_read i (omega (arith, le)))

  pub ids_read : ids_of d (supervoxel_rows w) ≡ Ok (map id (numbers_below w.size))
  unfolding ids_of table_of supervoxel_rows is_id_header field field_at
  ids_read = all_meant tables.Supervoxels (supervoxel_of d) (λ k. decimal (id k) ∷ []) id (numbers_below w.size) [] 1 (all_read w.size (omega arith))
