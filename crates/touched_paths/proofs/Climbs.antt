-- From the nodes of one layer to those of the next.
use Rattle.std.proofs.Common.{◌≡◌, ℕ, ◌+◌, ◌-◌, ◌<◌, ◌≤◌, true, List, [], ◌∷◌, length, drop, get_or, sym, ◌∙◌, ap, subst, arith, IsTrue}
use Rattle.std.proofs.lemmas.Bool.{eqb-true, false≢true}
use Rattle.node_ids.specs.Ids.{parts_of}
use Rattle.op_model.specs.declared.base.Dataset.{Dataset}
use Rattle.op_model.specs.declared.base.Base.{Base}
use Rattle.op_model.specs.declared.entry.Entry.{Entry}
use Rattle.graph_model.specs.Lists.{has}
use Rattle.chunk_geometry.proofs.LayerLemmas.{top_low}
use Rattle.graph_model.proofs.ListLemmas.{any_default}
use Rattle.layer_laws.proofs.OrderLemmas.{get_has}
use Rattle.op_model.specs.Chunks.{layers, layers_from, top}
use Rattle.op_model.specs.Labels.{label, node}
use Rattle.op_model.specs.Valid.{IsDataset}
use Rattle.op_model.specs.Legal.{Legal}
use Rattle.op_model.specs.Transcript.{log_at}
use Rattle.op_model.proofs.LegalLemmas.{all_has, labels_fit}
use Rattle.record_rows.specs.Rows.{NodeRow, SupervoxelRow, Node}
use Rattle.record_rows.specs.Chains.{has_id}
use Rattle.record_rows.specs.Readings.{HoldsId, HoldsNode, ParentImage}
use Rattle.record_rows.specs.Versions.{child_at}
use Rattle.record_rows.proofs.LayerIds.{layer_told}
use Rattle.record_rows.proofs.NodeIds.{supervoxel_layer}
use Rattle.record_rows.proofs.OnceLemmas.{layer_low, layers_from_differ}
use Rattle.node_reader.specs.Readable.{IsBelow}
use Rattle.node_reader.proofs.Climbs.{next_at}
use Rattle.touched_paths.specs.Climbing.{Covers, IsClimbed}
use Rattle.touched_paths.proofs.Covering.{covers_same, covers_through}

-- the record stands above another: where that is of one of the supervoxels just below the layer, it is of its node there
abbrev pub Above : Dataset → Base → List Entry → ℕ → List ℕ → ℕ → ℕ → Type 0
Above d b log layer us q p = (u : ℕ) → IsTrue (has us u) → HoldsId d b log p (child_at d b log layer u) → HoldsId d b log q (node d b log layer u)

pub whole_log : (d : Dataset) (b : Base) (log : List Entry) (prefix : ℕ) → prefix ≡ length log → log_at d b log prefix ≡ log
unfolding log_at
whole_log d b log prefix e = let z : length log - prefix ≡ 0 = omega (arith, e) in ap (λ n. drop n log) z

some_entry : (d : Dataset) (b : Base) (log : List Entry) → Legal d b log → 1 ≤ length log
some_entry d b [] legal = absurd legal
some_entry d b (e ∷ log) legal = omega arith

pub is_below : (d : Dataset) (b : Base) (log : List Entry) (words : List ℕ) (prefix layer u spot : ℕ) → ParentImage d b log words → prefix ≡ length log → IsTrue (has (layers d) layer) → IsTrue (has b.supervoxels u)
    → HoldsId d b log spot (child_at d b log layer u) → IsBelow d b log words prefix layer u spot
is_below d b log words prefix layer u spot i e l h at =
    let one = some_entry d b log i.legal in
    record {
      image = i;
      layered = l;
      known = h;
      low = omega (arith, e, one);
      high = omega (arith, e);
      at = subst (λ now. HoldsId d b log spot (child_at d b now layer u)) (sym (whole_log d b log prefix e)) at;
    }

pub layer_bounds : (d : Dataset) (layer : ℕ) → IsTrue (has (layers d) layer) → (2 ≤ layer) × (layer ≤ top d)
unfolding layers top
layer_bounds d layer h =
    let p = all_has (λ l. (2 ≤ l) × (l < 2 + (top d - 1))) (layers_from 2 (top d - 1)) layer (layers_from_differ 2 (top d - 1)).0 h in
    let l = p.1 in
    let t = top_low d.grid in
    (p.0, omega (arith, l, t))

-- the id of a node tells its layer
pub node_layer : (d : Dataset) (b : Base) → IsDataset d → (log : List Entry) (layer u : ℕ) → Legal d b log → IsTrue (has (layers d) layer) → IsTrue (has b.supervoxels u) → (parts_of d.layout (node d b log layer u)).layer ≡ layer
unfolding node
node_layer d b valid log layer u legal l h = layer_told d valid.layout layer u (label d b log layer u) (layer_low d layer l) (labels_fit d b log layer u legal l h)

-- the record of a node's id is that of a node
pub node_at : (d : Dataset) (b : Base) (log : List Entry) (words : List ℕ) (i : ParentImage d b log words) (p layer u : ℕ) → IsTrue (has (layers d) layer) → IsTrue (has b.supervoxels u)
    → HoldsId d b log p (node d b log layer u) → (n : Node) × HoldsNode d b log p n × (n.id ≡ node d b log layer u)
unfolding has_id
node_at d b log words i p layer u l h (NodeRow n, at, t) = (n, at, eqb-true n.id (node d b log layer u) t)
node_at d b log words i p layer u l h (SupervoxelRow v, at, t) =
    let e : 1 ≡ layer =
    sym (supervoxel_layer d b i.dataset i.base log words i p v at) ∙ (ap (λ x. (parts_of d.layout x).layer) (eqb-true v (node d b log layer u) t) ∙ node_layer d b i.dataset log layer u i.legal l h) in
    let two = (layer_bounds d layer l).0 in
    absurd (omega (arith, e, two))
node_at d b log words i p layer u l h (row, at, t) = absurd (false≢true t)

pub item_has : (xs : List ℕ) (i x : ℕ) → i < length xs → x ≡ get_or xs i x → has xs x ≡ true
item_has xs i x l e = subst (λ y. has xs y ≡ true) (sym (e ∙ any_default xs i x 0 l)) (get_has xs i l)

module _ (d : Dataset) (b : Base) (log : List Entry) (words : List ℕ) (prefix layer : ℕ) (us spots : List ℕ) (hl : IsTrue (has (layers d) layer)) (is : IsClimbed d b log words prefix layer us spots) where
  pub climbed_below : (now : List ℕ) → ParentImage d b log now → (p u : ℕ) → IsTrue (has us u) → HoldsId d b log p (child_at d b log layer u) → IsBelow d b log now prefix layer u p
  climbed_below now image p u h at = is_below d b log now prefix layer u p image is.whole hl (is.known u h) at

  pub climbed_spot : (now : List ℕ) → ParentImage d b log now → (p : ℕ) → has spots p ≡ true → (u : ℕ) × IsBelow d b log now prefix layer u p
  climbed_spot now image p h = let g = is.stand.given p h in (g.0, climbed_below now image p g.0 g.1 g.2)

  pub climbed_next : (list new : List ℕ) → ((p : ℕ) → has new p ≡ has list p) → Covers spots (Above d b log layer us) list → IsClimbed d b log words prefix (layer + 1) us new
  climbed_next list new same covers = record {
    image = is.image;
    whole = is.whole;
    known = is.known;
    stand =
        covers_same (λ p u. HoldsId d b log p (child_at d b log (layer + 1) u)) us list new same
        (covers_through (λ p u. HoldsId d b log p (child_at d b log layer u)) (Above d b log layer us) (λ p u. HoldsId d b log p (child_at d b log (layer + 1) u)) us spots list
        (λ q p u h f at. next_at d b log log q layer u (layer_bounds d layer hl).0 (f u h at)) is.stand covers);
  }
