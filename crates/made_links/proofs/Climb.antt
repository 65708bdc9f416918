-- Steps from a supervoxel up to what stands below its node of a layer.
use Rattle.std.proofs.Common.{◌≡◌, ℕ, zero, suc, ◌+◌, ◌-◌, ◌≤◌, true, List, [], ◌∷◌, length, drop, Some, refl, sym, ◌∙◌, ap, subst, arith, eq-eqb}
use Rattle.std.specs.List.{slice_get}
use Rattle.std.proofs.lemmas.Bool.{false≢true}
use Rattle.op_model.specs.declared.base.Dataset.{Dataset}
use Rattle.op_model.specs.declared.base.Base.{Base}
use Rattle.op_model.specs.declared.entry.Entry.{Entry}
use Rattle.graph_model.specs.Lists.{has}
use Rattle.op_model.specs.Chunks.{top}
use Rattle.op_model.specs.Legal.{Legal}
use Rattle.op_model.specs.Transcript.{log_at}
use Rattle.record_rows.specs.Rows.{HeaderRow, SupervoxelRow}
use Rattle.record_rows.specs.Chains.{has_id}
use Rattle.record_rows.specs.LogRows.{chunks, rows_of}
use Rattle.record_rows.specs.Words.{place_from}
use Rattle.record_rows.specs.Versions.{child_at}
use Rattle.record_rows.specs.Readings.{HoldsId, ParentImage, first_place}
use Rattle.record_rows.proofs.WalkLemmas.{place_of-some}
use Rattle.record_rows.proofs.ToldLaws.{headed}
use Rattle.record_rows.proofs.NodePlaces.{found_from}
use Rattle.record_rows.proofs.BaseRows.{place_in, supervoxel_at}
use Rattle.record_rows.proofs.PrefixNodes.{layer_has}
use Rattle.node_reader.specs.Readable.{IsBelow}
use Rattle.made_nodes.proofs.LastNumbers.{any_here}

-- no id stands at the header's place
pub id_above : (d : Dataset) (b : Base) (log : List Entry) (p id : ℕ) → HoldsId d b log p id → 1 ≤ p
unfolding has_id
id_above d b log zero id h =
    let q : Some h.0 ≡ Some (HeaderRow d (length b.supervoxels) (length (chunks d b))) = sym h.1 ∙ headed d b log in
    let e : h.0 ≡ HeaderRow d (length b.supervoxels) (length (chunks d b)) = cc in
    absurd (false≢true (sym (ap (has_id id) e) ∙ h.2))
id_above d b log (suc p) id h = omega arith

pub log_all : (d : Dataset) (b : Base) (log : List Entry) (prefix : ℕ) → prefix ≡ length log → log_at d b log prefix ≡ log
unfolding log_at
log_all d b log prefix e = ap (λ k. drop k log) (let z : length log - prefix ≡ 0 = omega (arith, e) in z)

pub some_entries : (d : Dataset) (b : Base) (log : List Entry) → Legal d b log → 1 ≤ length log
some_entries d b [] legal = absurd legal
some_entries d b (e ∷ log) legal = omega arith

pub lowest_at : (d : Dataset) (b : Base) (log at : List Entry) (p v : ℕ) → HoldsId d b log p v → HoldsId d b log p (child_at d b at 2 v)
unfolding child_at
lowest_at d b log at p v h = h

module _ (d : Dataset) (b : Base) (log : List Entry) (words : List ℕ) (i : ParentImage d b log words) (v : ℕ) (hv : has b.supervoxels v ≡ true) where
  -- the search for a supervoxel leads to its record
  pub found_at : (p : ℕ) × (first_place (has_id v) (rows_of d b log) ≡ Some p) × HoldsId d b log p v × (place_from (has_id v) 0 (rows_of d b log) ≡ p)
  unfolding has_id first_place
  found_at =
      let k = place_in b.supervoxels v hv in
      let s : slice_get (rows_of d b log) (1 + k.0) ≡ Some (SupervoxelRow v) = subst (λ x. slice_get (rows_of d b log) (1 + k.0) ≡ Some (SupervoxelRow x)) k.2 (supervoxel_at d b log words i k.0 k.1) in
      let f = found_from (has_id v) (rows_of d b log) 0 (rows_of d b log) refl (any_here (has_id v) (rows_of d b log) (1 + k.0) (SupervoxelRow v) s (eq-eqb v v refl)) in
      let p : ℕ = place_from (has_id v) 0 (rows_of d b log) in
      let h : HoldsId d b log p v = (f.0, f.1, f.2) in
      (p, place_of-some p (id_above d b log p v h), h, refl)

  pub climb_from : (prefix layer spot : ℕ) → prefix ≡ length log → 2 ≤ layer → layer ≤ top d → HoldsId d b log spot (child_at d b (log_at d b log prefix) layer v) → IsBelow d b log words prefix layer v spot
  climb_from prefix layer spot e low high at = record {
    image = i;
    layered = layer_has d layer low high;
    known = hv;
    low = (let s = some_entries d b log i.legal in omega (arith, s, e));
    high = omega (arith, e);
    at = at;
  }
