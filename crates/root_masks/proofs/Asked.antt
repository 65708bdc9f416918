-- What a look-up among the supervoxels tells, masks of locks, and refusals.
use Rattle.std.proofs.Common.{◌≡◌, ℕ, ◌*◌, ◌%◌, ◌^◌, ◌-◌, ◌<◌, ◌≤◌, true, false, ◌||◌, eqb, List, [], ◌∷◌, length, drop, Option, Some, None, refl, sym, ◌∙◌, ap, subst, arith, eq-eqb, ne_eqb, w64}
use Rattle.std.specs.Option.{is_some}
use Rattle.std.specs.Int.{bit_at}
use Rattle.std.specs.Int.Bits.{bit_or}
use mir.Val.{bits}
use Rattle.std.proofs.lemmas.Nat.Bits.{bit_at_set_same, bit_at_set_other, bit_at-zero}
use Rattle.std.proofs.Math.Bool.{or-true, or-false}
use mathlib.Core.Logic.{dite}
use native.Mathlib.Decide.{ℕ_discrete}
use Rattle.op_model.specs.declared.base.Dataset.{Dataset}
use Rattle.op_model.specs.declared.base.Base.{Base}
use Rattle.op_model.specs.declared.entry.Entry.{Entry}
use Rattle.op_model.specs.declared.request.Edit.{Edit}
use Rattle.op_model.specs.declared.reply.Refusal.{Refusal}
use Rattle.op_model.specs.declared.reply.Refusal.TheVariants.{NoMemory}
use Rattle.graph_model.specs.Lists.{has}
use Rattle.op_model.specs.Legal.{Legal}
use Rattle.op_model.specs.Refusals.{first_of, refuse_cut, refuse_early}
use Rattle.op_model.specs.Transcript.{log_at}
use Rattle.record_rows.specs.Readings.{ParentImage}
use Rattle.record_rows.specs.Sorted.{FoundAmong, supervoxel_count}
use Rattle.record_rows.specs.Rows.{Row, HeaderRow, SupervoxelRow}
use Rattle.record_rows.specs.LogRows.{chunks, rows_of}
use Rattle.record_rows.specs.Walks.{is_supervoxel}
use Rattle.record_rows.proofs.BaseRows.{supervoxel_found, supervoxel_known, supervoxel_spot}
use Rattle.record_rows.proofs.ToldLaws.{headed}
use Rattle.record_rows.proofs.WalkLemmas.{LeadsTo, first_leads}
use Rattle.std.specs.List.{slice_get}
use Rattle.std.proofs.lemmas.Bool.{eqb-true, false_from_ne_true, false≢true}
use Rattle.root_masks.specs.Masks.{has_bit}
use Rattle.root_masks.specs.Plans.{IsUnplanned}

-- what is found shows whether the base has the supervoxel
pub found_known : (d : Dataset) (b : Base) (log : List Entry) (words : List ℕ) → ParentImage d b log words → (v : ℕ) (found : Option ℕ) → FoundAmong words 1 (supervoxel_count words) v found → is_some found ≡ has b.supervoxels v
unfolding is_supervoxel
found_known d b log words i v None f = sym (false_from_ne_true _ (λ t. let s = supervoxel_spot d b log words i v t None f in let q : None ≡ Some s.0 = s.1 in cc))
found_known d b log words i v (Some p) f =
    let at : LeadsTo (is_supervoxel v) (rows_of d b log) (Some p) =
    subst (LeadsTo (is_supervoxel v) (rows_of d b log)) (sym (supervoxel_found d b log words i v (Some p) f))
    (first_leads (is_supervoxel v) (rows_of d b log) (HeaderRow d (length b.supervoxels) (length (chunks d b))) (headed d b log) refl) in
    from at.1 at.2 at.3
  where
    from : (row : Row) → slice_get (rows_of d b log) p ≡ Some row → is_supervoxel v row ≡ true → true ≡ has b.supervoxels v
    from (SupervoxelRow u) g t = sym (supervoxel_known d b log words i p v (subst (λ x. slice_get (rows_of d b log) p ≡ Some (SupervoxelRow x)) (eqb-true u v t) g))
    from row g t = absurd (false≢true t)

-- at its whole length a log is itself
pub whole_log : (d : Dataset) (b : Base) (log : List Entry) (n : ℕ) → n ≡ length log → log_at d b log n ≡ log
unfolding log_at
whole_log d b log n e = let k : length log - n ≡ 0 = omega arith in ap (λ m. drop m log) k

-- one more bit
pub bit_more : (mask n l : ℕ) → n < 64 → has_bit (bit_or mask (1 * 2 ^ n % 2 ^ bits w64)) l ≡ (has_bit mask l || eqb n l)
unfolding has_bit
bit_more mask n l h = dite (ℕ_discrete l n)
    (λ same. ap (λ x. eqb x 1) (ap (bit_at (bit_or mask (1 * 2 ^ n % 2 ^ bits w64))) same ∙ bit_at_set_same w64 mask n h) ∙ sym (ap (λ t. has_bit mask l || t) (eq-eqb n l (sym same)) ∙ or-true (has_bit mask l)))
    (λ apart. ap (λ x. eqb x 1) (bit_at_set_other w64 mask n h l apart) ∙ sym (ap (λ t. has_bit mask l || t) (ne_eqb n l (λ e. apart (sym e))) ∙ or-false (has_bit mask l)))

-- a legal log has an entry
pub some_entries : (d : Dataset) (b : Base) (log : List Entry) → Legal d b log → 1 ≤ length log
some_entries d b [] l = absurd l
some_entries d b (e ∷ log) l = omega arith

-- no lock is in the empty mask
pub no_bits : (l : ℕ) → has_bit 0 l ≡ false
unfolding has_bit
no_bits l = ap (λ x. eqb x 1) (bit_at-zero l)

-- a refusal for ids, marks, roots or the operation is why there is no plan
pub unplanned : (d : Dataset) (b : Base) (log : List Entry) (edit : Edit) (r : Refusal) → refuse_early d b log edit ≡ Some r → IsUnplanned d b log edit r
unfolding first_of
unplanned d b log edit NoMemory h = tt
unplanned d b log edit r h = ap (λ o. first_of (o ∷ refuse_cut d b log edit ∷ [])) h
