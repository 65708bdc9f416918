-- Steps from a supervoxel up to its root.
use Rattle.std.proofs.Common.{◌≡◌, ℕ, zero, suc, ◌+◌, ◌-◌, ◌*◌, ◌<◌, ◌≤◌, cond, eqb, List, [], ◌∷◌, ◌++◌, length, map, take, set, get_or, refl, sym, ◌∙◌, ap, ap₂, subst, eq-eqb, add-one, arith}
use Rattle.std.proofs.lemmas.Bool.{eqb-true, false≢true, cond-false, ne_eqb}
use Rattle.std.proofs.Math.Seq.{take-suc-set}
use Rattle.std.proofs.lemmas.List.{map-append}
use Rattle.chunk_geometry.proofs.LayerLemmas.{top_low}
use Rattle.op_model.specs.declared.base.Dataset.{Dataset}
use Rattle.op_model.specs.declared.base.Base.{Base}
use Rattle.op_model.specs.declared.entry.Entry.{Entry}
use Rattle.op_model.specs.Chunks.{top, layers_from}
use Rattle.op_model.specs.Labels.{node, root}
use Rattle.op_model.specs.Transcript.{log_at}
use Rattle.record_rows.specs.Rows.{SupervoxelRow, NodeRow}
use Rattle.record_rows.specs.Chains.{has_id}
use Rattle.record_rows.specs.Images.{told}
use Rattle.record_rows.specs.Words.{fixed_words}
use Rattle.record_rows.specs.Sorted.{id_at}
use Rattle.record_rows.specs.Versions.{child_at}
use Rattle.record_rows.specs.Readings.{ParentImage, HoldsId, HoldsSupervoxel}
use Rattle.record_rows.proofs.ImageFacts.{told_fixed}
use Rattle.record_rows.proofs.BaseRows.{supervoxel_known}
use Rattle.record_rows.proofs.PrefixNodes.{layer_has}
use Rattle.node_reader.specs.Readable.{IsBelow}

-- the second word of a supervoxel's or a node's record is its id
id_told : (d : Dataset) (b : Base) (log : List Entry) (words : List ℕ) → ParentImage d b log words → (p id : ℕ) → HoldsId d b log p id → get_or words (8 * p + 1) 0 ≡ id
unfolding has_id told fixed_words
id_told d b log words i p id (SupervoxelRow v, h, t) = told_fixed d b log words i p 1 (SupervoxelRow v) h (omega arith) refl ∙ eqb-true v id t
id_told d b log words i p id (NodeRow n, h, t) = told_fixed d b log words i p 1 (NodeRow n) h (omega arith) refl ∙ eqb-true n.id id t
id_told d b log words i p id (row, h, t) = absurd (false≢true t)

pub id_at_told : (d : Dataset) (b : Base) (log : List Entry) (words : List ℕ) → ParentImage d b log words → (p id : ℕ) → HoldsId d b log p id → id_at words p ≡ id
unfolding id_at
id_at_told d b log words i p id h = id_told d b log words i p id h

-- what stands below the node of layer 2 is the supervoxel
pub start_at : (d : Dataset) (b : Base) (log at : List Entry) (p v : ℕ) → HoldsSupervoxel d b log p v → HoldsId d b log p (child_at d b at 2 v)
unfolding has_id child_at
start_at d b log at p v h = (SupervoxelRow v, h, eq-eqb v v refl)

-- above the node of a layer comes that of the next one
pub next_at : (d : Dataset) (b : Base) (log at : List Entry) (p layer v : ℕ) → 2 ≤ layer → HoldsId d b log p (node d b at layer v) → HoldsId d b log p (child_at d b at (layer + 1) v)
unfolding child_at
next_at d b log at p layer v l h =
    let e : cond (eqb (layer + 1) 2) v (node d b at (layer + 1 - 1) v) ≡ node d b at (layer + 1 - 1) v = cond-false (eqb (layer + 1) 2) v (node d b at (layer + 1 - 1) v) (ne_eqb (layer + 1) 2 (λ q. absurd (let z : layer + 1 ≡ 2 = q in omega arith))) in
    let n : layer + 1 - 1 ≡ layer = omega arith in
    subst (HoldsId d b log p) (sym (e ∙ ap (λ k. node d b at k v) n)) h

-- what stands below the layer above the top is the root
pub end_at : (d : Dataset) (b : Base) (at : List Entry) (layer v : ℕ) → layer ≡ top d + 1 → child_at d b at layer v ≡ root d b at v
unfolding child_at root top
end_at d b at layer v q =
    let l = top_low d.grid in
    cond-false (eqb layer 2) v (node d b at (layer - 1) v) (ne_eqb layer 2 (λ z. absurd (let y : layer ≡ 2 = z in omega arith)))
    ∙ ap (λ k. node d b at k v) (let e : layer - 1 ≡ top d = omega arith in e)

-- the walk stands below a layer from 2 to the top
pub below_layer : (d : Dataset) (b : Base) (log : List Entry) (words : List ℕ) (prefix layer v sv spot : ℕ) → ParentImage d b log words → HoldsSupervoxel d b log sv v → 1 ≤ prefix → prefix ≤ length log → 2 ≤ layer → layer ≤ top d
    → HoldsId d b log spot (child_at d b (log_at d b log prefix) layer v) → IsBelow d b log words prefix layer v spot
below_layer d b log words prefix layer v sv spot i h one most low high at = record {
  image = i;
  layered = layer_has d layer low high;
  known = supervoxel_known d b log words i sv v h;
  low = one;
  high = most;
  at = at;
}

layers_more : (layer n : ℕ) → layers_from layer (suc n) ≡ layers_from layer n ++ (layer + n) ∷ []
unfolding layers_from
layers_more layer zero = ap (λ l. l ∷ []) (let e : layer ≡ layer + 0 = omega arith in e)
layers_more layer (suc n) = ap (λ ls. layer ∷ ls) (layers_more (layer + 1) n ∙ ap (λ l. layers_from (layer + 1) n ++ l ∷ []) (let e : layer + 1 + n ≡ layer + suc n = omega arith in e))

-- the path has one more node with that of the next layer
pub one_more : (f : ℕ → ℕ) (nodes : List ℕ) (i x : ℕ) → i < length nodes → take i nodes ≡ map f (layers_from 2 i) → x ≡ f (i + 2) → take (i + 1) (set nodes i x) ≡ map f (layers_from 2 (i + 1))
one_more f nodes i x l e q =
    let two : 2 + i ≡ i + 2 = omega arith in
    rw add-one (take-suc-set nodes i x l)
    ∙ (ap₂ (λ xs y. xs ++ y ∷ []) e q ∙ (sym (map-append f (layers_from 2 i) ((i + 2) ∷ [])) ∙ ap (map f) (sym (rw add-one (layers_more 2 i ∙ ap (λ k. layers_from 2 i ++ k ∷ []) two)))))
