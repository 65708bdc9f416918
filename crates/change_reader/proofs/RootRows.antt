-- The record of a root tells which entry made it.
use Rattle.std.proofs.Common.{◌≡◌, ℕ, ◌<◌, true, List, ◌∷◌, Option, Some, None, eqb, refl, sym, ◌∙◌, ap, subst, eq-eqb}
use Rattle.std.specs.Option.{IsSome}
use Rattle.std.proofs.lemmas.Bool.{eqb-true, false≢true}
use Rattle.node_ids.specs.Ids.{parts_of}
use Rattle.op_model.specs.declared.base.Dataset.{Dataset}
use Rattle.op_model.specs.declared.base.Base.{Base}
use Rattle.op_model.specs.declared.entry.Entry.{Entry}
use Rattle.graph_model.specs.Lists.{has}
use Rattle.graph_model.proofs.ListLemmas.{same_bool}
use Rattle.op_model.specs.Chunks.{top}
use Rattle.op_model.specs.Labels.{node, root}
use Rattle.op_model.specs.Operations.{entry_at}
use Rattle.op_model.proofs.LocalLemmas.{top_in_layers}
use Rattle.record_rows.specs.Rows.{Node}
use Rattle.record_rows.specs.Chains.{has_id}
use Rattle.record_rows.specs.LogRows.{rows_of}
use Rattle.record_rows.specs.Readings.{HoldsNode, first_place}
use Rattle.node_reader.proofs.LeafLaws.{made_fresh, made_here}
use Rattle.node_reader.proofs.LeafMeaning.{node_id_layer}
use Rattle.change_reader.specs.Walks.{IsMadeBy, IsMadeRoot}
use Rattle.change_reader.proofs.EntryPlaces.{At, any_at, at_entry, at_whole, made_only, one_at}
use Rattle.change_reader.proofs.MadeRoots.{RootBy, none_found, root_by, root_found}

module _ (d : Dataset) (b : Base) (log : List Entry) (words : List ℕ) (r prefix : ℕ) (i : IsMadeRoot d b log words r prefix) where
  -- the entry that made it
  maker : (m : ℕ) × (e : Entry) × At d b log m e × (m < prefix) × (has e.made r ≡ true)
  maker = any_at d b log r prefix i.image.legal i.low i.high i.made

  -- its id tells the top layer
  pub root_top : (parts_of d.layout r).layer ≡ top d
  unfolding root
  root_top =
      let m = maker in
      let e : Entry = m.1 in
      let f = made_fresh d b i.image.dataset i.image.base e m.2.older r m.2.legal m.4 in
      let named : node d b (e ∷ m.2.older) (top d) f.0 ≡ r = f.2 in
      ap (λ x. (parts_of d.layout x).layer) (sym named) ∙ node_id_layer d b i.image.dataset i.image.base e m.2.older m.2.legal (top d) f.0 (top_in_layers d) f.1

  -- it has a record
  pub record_there : (found : Option ℕ) → found ≡ first_place (has_id r) (rows_of d b log) → IsSome found
  record_there None h = absurd (false≢true (sym (none_found d b log words i.image r root_top (sym h) prefix i.low i.high) ∙ i.made))
  record_there (Some p) h = refl

  pub record_is : (p : ℕ) → Some p ≡ first_place (has_id r) (rows_of d b log) → (n : Node) × HoldsNode d b log p n × (n.id ≡ r)
  record_is p h = root_found d b log words i.image r root_top p (sym h)

  pub row_by : (p : ℕ) (n : Node) → HoldsNode d b log p n → n.id ≡ r → RootBy d b i.image.dataset i.image.base log r n
  row_by p n h e = root_by d b i.image.dataset i.image.base log i.image.legal r p n root_top h e

  -- which entry made it is what the record tells
  pub row_maker : (n : Node) → RootBy d b i.image.dataset i.image.base log r n → (e : Entry) × At d b log n.made e × (has e.made r ≡ true)
  row_maker n t =
      let e : Entry = t.timed.entry in
      let at = at_whole d b log t.timed.newer e t.timed.older i.image.legal t.timed.whole in
      (e, subst (λ k. At d b log k e) (sym t.timed.made) at, subst (λ x. has e.made x ≡ true) (sym t.named) (made_here d b i.image.dataset i.image.base e t.timed.older t.legal t.timed.born.supervoxel t.timed.born.known t.fresh))

  pub made_by_row : (p : ℕ) (n : Node) → HoldsNode d b log p n → n.id ≡ r → IsMadeBy log r prefix n.made
  made_by_row p n h q =
      let w = row_maker n (row_by p n h q) in
      let m = maker in
      let same : n.made ≡ m.0 = made_only d b i.image.dataset i.image.base log r n.made m.0 w.0 m.1 w.1 m.2 w.2 m.4 in
      (subst (λ k. k < prefix) (sym same) m.3, each w.0 w.1 w.2)
    where
      each : (f : Entry) → At d b log n.made f → has f.made r ≡ true → (k : ℕ) (e : Entry) → entry_at log k ≡ Some e → has e.made r ≡ eqb k n.made
      each f at made k e h =
          let here = at_entry d b log k e i.image.legal h in
          same_bool (has e.made r) (eqb k n.made)
          (λ t. eq-eqb k n.made (made_only d b i.image.dataset i.image.base log r k n.made e f here at t made))
          (λ t. let s : k ≡ n.made = eqb-true k n.made t in subst (λ x. has x.made r ≡ true) (one_at d b log n.made f e at (subst (λ x. At d b log x e) s here)) made)
