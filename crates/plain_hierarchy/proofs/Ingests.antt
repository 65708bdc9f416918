-- The nodes of the first entry, over the base alone.
use Rattle.std.proofs.Common.{◌≡◌, ℕ, ◌+◌, true, List, [], map, refl, sym, ◌∙◌, ap}
use mathlib.Core.Path.{ap₂}
use Rattle.std.proofs.Math.Nat.{zero-add}
use Rattle.op_model.specs.declared.base.Dataset.{Dataset}
use Rattle.op_model.specs.declared.base.Base.{Base}
use Rattle.op_model.specs.declared.entry.Asked.TheVariants as asked
use Rattle.op_model.specs.declared.entry.Entry.{Entry}
use Rattle.graph_model.specs.Lists.{has}
use Rattle.graph_model.specs.Components.{component_of}
use Rattle.op_model.specs.Edges.{put_changed, edges_after, linked}
use Rattle.op_model.specs.Chunks.{chunk, members, top}
use Rattle.op_model.specs.Ingest.{ingested}
use Rattle.op_model.specs.Labels.{is_empty, edges, component, least, is_new, new_among, rank, used, label, node, root}
use Rattle.op_model.specs.Operations.{ascending, first_entry}
use Rattle.op_model.specs.Valid.{IsBase, IsDataset}
use Rattle.op_model.proofs.RootLemmas.{top_members}
use Rattle.layer_laws.proofs.IngestLemmas.{linked_base, new_firsts}
use Rattle.plain_hierarchy.specs.Ingest.{firsts, up_to}

pub component_base : (d : Dataset) (b : Base) → IsBase d b → (at l v : ℕ) → component_of (linked b.edges) (members d b l (chunk d l v)) v ≡ component d b (ingested d b at) l v
unfolding component
component_base d b base at l v = ap (λ links. component_of links (members d b l (chunk d l v)) v) (sym (linked_base d b base at))

module _ (d : Dataset) (b : Base) (at : ℕ) where
  -- a node's label is the place of its least supervoxel among those of the nodes of its chunk
  pub node_ingested : (l v : ℕ) → chunk d l v + up_to (least d b (ingested d b 0) l v) (firsts d b l (members d b l (chunk d l v))) ≡ node d b (ingested d b at) l v
  unfolding node label is_new is_empty used rank least component edges edges_after put_changed first_entry
  node_ingested l v = ap (λ vs. chunk d l v + up_to (least d b (ingested d b 0) l v) vs) (sym (new_firsts d b at l (members d b l (chunk d l v)))) ∙ ap (λ n. chunk d l v + n) (sym (zero-add (rank d b (ingested d b at) l v)))

  -- the first entry makes the roots of all supervoxels
  pub made_ingested : (first_entry d b at).made ≡ ascending (map (root d b (ingested d b 0)) b.supervoxels)
  unfolding root node label is_new is_empty used rank new_among least component edges edges_after put_changed first_entry
  made_ingested = refl

  pub entry_ingested : (m : List ℕ) → m ≡ ascending (map (root d b (ingested d b 0)) b.supervoxels)
      → (let e : Entry = record { number = 0; client = 0; line = 0; at = at; asked = asked.Ingest; changed = []; retired = []; made = m } in e) ≡ first_entry d b at
  unfolding first_entry
  entry_ingested m h =
      let whole : m ≡ (first_entry d b at).made = h ∙ sym made_ingested in
      λ i. record { number = 0; client = 0; line = 0; at = at; asked = asked.Ingest; changed = []; retired = []; made = whole i }

module _ (d : Dataset) (b : Base) (valid : IsDataset d) (base : IsBase d b) where
  -- at the top layer the place is among all nodes
  pub root_ingested : (v : ℕ) → has b.supervoxels v ≡ true
      → chunk d (top d) v + up_to (least d b (ingested d b 0) (top d) v) (firsts d b (top d) b.supervoxels) ≡ root d b (ingested d b 0) v
  unfolding root
  root_ingested v h =
      ap (λ vs. chunk d (top d) v + up_to (least d b (ingested d b 0) (top d) v) (firsts d b (top d) vs)) (sym (top_members d b valid base v h))
      ∙ node_ingested d b 0 (top d) v

  pub root_told : (v : ℕ) → has b.supervoxels v ≡ true → (layer place first n : ℕ) (nodes : List ℕ)
      → layer ≡ top d → place ≡ chunk d layer v → first ≡ least d b (ingested d b 0) layer v → nodes ≡ firsts d b layer b.supervoxels → n ≡ place + up_to first nodes
      → n ≡ root d b (ingested d b 0) v
  root_told v h layer place first n nodes el ep ef en e =
      e ∙ (ap₂ (λ p u. p + u) (ep ∙ ap (λ l. chunk d l v) el)
      (ap₂ up_to (ef ∙ ap (λ l. least d b (ingested d b 0) l v) el) (en ∙ ap (λ l. firsts d b l b.supervoxels) el)) ∙ root_ingested v h)
