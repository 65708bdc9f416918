-- A node's record that no entry has retired is that of its least leaf's node, in the layer that its id tells.
use Rattle.std.proofs.Common.{◌≡◌, ℕ, zero, suc, ◌-◌, ◌<◌, ◌≤◌, true, false, List, [], ◌∷◌, length, None, Some, refl, sym, ◌∙◌, ap, inl, inr, arith, eq-eqb}
use Rattle.std.specs.List.{slice_get, list_any}
use Rattle.std.proofs.lemmas.Bool.{false≢true, cases_Bool}
use Rattle.node_ids.specs.Ids.{parts_of}
use Rattle.op_model.specs.declared.base.Dataset.{Dataset}
use Rattle.op_model.specs.declared.base.Base.{Base}
use Rattle.op_model.specs.declared.entry.Entry.{Entry}
use Rattle.graph_model.specs.Lists.{has, head_or}
use Rattle.graph_model.proofs.ListLemmas.{head_same}
use Rattle.op_model.specs.Chunks.{layers}
use Rattle.op_model.specs.Labels.{component, least, node}
use Rattle.op_model.proofs.LabelLemmas.{least_in, own_component}
use Rattle.record_rows.specs.Rows.{Row, HeaderRow, NodeRow, Node}
use Rattle.record_rows.specs.Chains.{has_id, retires}
use Rattle.record_rows.specs.LogRows.{chunks, rows_of}
use Rattle.record_rows.specs.Words.{place_from}
use Rattle.record_rows.specs.Versions.{child_at}
use Rattle.record_rows.specs.Readings.{HoldsId, HoldsNode, ParentImage, first_place}
use Rattle.record_rows.proofs.LinkLemmas.{of_component, same_node}
use Rattle.record_rows.proofs.NodePlaces.{found_from}
use Rattle.record_rows.proofs.ToldLaws.{headed}
use Rattle.record_rows.proofs.WalkLemmas.{place_of-some}
use Rattle.node_reader.proofs.LeafMeaning.{node_id_layer}
use Rattle.current_nodes.proofs.CurrentLemmas.{unretired}
use Rattle.made_links.proofs.Below.{child_above}

header_retires : (d : Dataset) (s c : ℕ) (n : Node) → retires n (HeaderRow d s c) ≡ false
unfolding retires
header_retires d s c n = refl

-- where the search for an entry that retired a node finds none, there is none
none_retires : (d : Dataset) (b : Base) (log : List Entry) (n : Node) → first_place (retires n) (rows_of d b log) ≡ None → list_any (retires n) (rows_of d b log) ≡ false
unfolding first_place
none_retires d b log n e = elim (cases_Bool (list_any (retires n) (rows_of d b log))) [ inl t ↦ absurd (there t) | inr f ↦ f ]
  where
    there : list_any (retires n) (rows_of d b log) ≡ true → ⊥
    there t =
        let f = found_from (retires n) (rows_of d b log) 0 (rows_of d b log) refl t in
        let behind : 1 ≤ place_from (retires n) 0 (rows_of d b log) = above (place_from (retires n) 0 (rows_of d b log)) f.0 f.1 f.2 in
        let z : None ≡ Some (place_from (retires n) 0 (rows_of d b log)) = sym e ∙ place_of-some (place_from (retires n) 0 (rows_of d b log)) behind in
        cc
      where
        above : (p : ℕ) (row : Row) → slice_get (rows_of d b log) p ≡ Some row → retires n row ≡ true → 1 ≤ p
        above zero row s r =
            let q : Some row ≡ Some (HeaderRow d (length b.supervoxels) (length (chunks d b))) = sym s ∙ headed d b log in
            let is : row ≡ HeaderRow d (length b.supervoxels) (length (chunks d b)) = cc in
            absurd (false≢true (sym (header_retires d (length b.supervoxels) (length (chunks d b)) n) ∙ (sym (ap (retires n) is) ∙ r)))
        above (suc p) row s r = omega arith

-- a supervoxel's node is that of the least one in it
least_node : (d : Dataset) (b : Base) (log : List Entry) (words : List ℕ) → ParentImage d b log words → (l u : ℕ) → has b.supervoxels u ≡ true → node d b log l (least d b log l u) ≡ node d b log l u
least_node d b [] words i l u hu = absurd i.legal
least_node d b (e ∷ log) words i l u hu =
    let m = of_component d b i.dataset i.base (e ∷ log) l u (least d b (e ∷ log) l u) (least_in d b (e ∷ log) l u hu) in
    sym (same_node d b i.dataset i.base e log i.legal l u (least d b (e ∷ log) l u) hu m.0 m.1 m.2).0

layer_is : (d : Dataset) (b : Base) (log : List Entry) (words : List ℕ) → ParentImage d b log words → (l u : ℕ) → has (layers d) l ≡ true → has b.supervoxels u ≡ true → (parts_of d.layout (node d b log l u)).layer ≡ l
layer_is d b [] words i l u hl hu = absurd i.legal
layer_is d b (e ∷ log) words i l u hl hu = node_id_layer d b i.dataset i.base e log i.legal l u hl hu

pub guessed : (d : Dataset) (b : Base) (log : List Entry) (words : List ℕ) → ParentImage d b log words → (layer v p : ℕ) (n : Node) → HoldsNode d b log p n → head_or 0 n.leaves ≡ v → (parts_of d.layout n.id).layer ≡ layer - 1
    → first_place (retires n) (rows_of d b log) ≡ None → 2 < layer → HoldsId d b log p (child_at d b log layer v)
unfolding has_id least
guessed d b log words i layer v p n h at in_layer none low =
    let c = unretired d b i.dataset i.base log p n i.legal h (none_retires d b log n none) in
    let l : ℕ = c.layer in
    let u : ℕ = c.v in
    let own = own_component d b log c.layer c.v c.known in
    let least_is : v ≡ least d b log c.layer c.v = sym at ∙ (ap (head_or 0) c.leaves_are ∙ head_same 0 c.v (component d b log c.layer c.v) c.v own) in
    let layer_told : layer - 1 ≡ c.layer = sym in_layer ∙ (ap (λ x. (parts_of d.layout x).layer) c.id_is ∙ layer_is d b log words i c.layer c.v c.has_layer c.known) in
    let id : n.id ≡ child_at d b log layer v =
    c.id_is ∙ (sym (least_node d b log words i c.layer c.v c.known) ∙ (ap (node d b log c.layer) (sym least_is) ∙ (ap (λ k. node d b log k v) (sym layer_told) ∙ sym (child_above d b log layer v low)))) in
    (NodeRow n, h, eq-eqb n.id (child_at d b log layer v) id)
