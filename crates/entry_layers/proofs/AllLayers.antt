-- The layers up to the top are all that an entry makes.
use Rattle.std.proofs.Common.{◌≡◌, ◌∙◌, ℕ, ◌-◌, ◌<◌, ◌≤◌, true, List, [], ◌∷◌, length, map, sym, ap, subst, arith}
use Rattle.graph_model.specs.Lists.{has}
use Rattle.op_model.specs.declared.base.Base.{Base}
use Rattle.op_model.specs.declared.base.Dataset.{Dataset}
use Rattle.op_model.specs.declared.entry.Entry.{Entry}
use Rattle.op_model.specs.Chunks.{layers, top}
use Rattle.op_model.specs.Labels.{new_among, root}
use Rattle.op_model.specs.Operations.{ascending, ends}
use Rattle.op_model.specs.Records.{child_count, children}
use Rattle.op_model.proofs.LegalLemmas.{all_has}
use Rattle.op_model.proofs.MadeLemmas.{map_only}
use Rattle.std.proofs.lemmas.List.Elements.{recursion_from_All}
use Rattle.record_rows.specs.LogRows.{new_links, new_nodes}
use Rattle.record_rows.proofs.SumLemmas.{total-flat}
use Rattle.layer_laws.specs.Building.{at}
use Rattle.layer_laws.proofs.OrderLemmas.{get_has}
use Rattle.entry_parts.specs.Made.{AreLinks, AreMadeIn, told_made}
use Rattle.entry_layers.specs.declared.gathering.EntryLayers.{EntryLayers}
use Rattle.entry_layers.specs.declared.layering.LayerBelow.{LayerBelow}
use Rattle.entry_layers.specs.Gathered.{AreEntryLayers, AreGathered, told_spent}
use Rattle.entry_layers.specs.Layering.{AreLayersTo, IsEntryList}
use Rattle.entry_layers.proofs.NewRoots.{roots_are}

module _ (d : Dataset) (b : Base) (e : Entry) (words ids places : List ℕ) (high : 2 ≤ top d) where
  -- the ends of the changed pairs are supervoxels of the base
  ends_known : (log : List Entry) → IsEntryList d b log e words ids places → (u : ℕ) → has (ends e.changed) u ≡ true → has b.supervoxels u ≡ true
  ends_known log is u h =
      let p = map_only (at ids) places u ((is.ends_at.all u).0 h) in
      let l = all_has (λ q. q < length ids) places p.0 (recursion_from_All (λ q. q < length ids) places is.ends_at.small) p.1 in
      (is.holds 2 (omega arith) high).known u (subst (λ x. has ids x ≡ true) p.2 (get_has ids p.0 l))

  -- the ids of the top layer's nodes are the roots
  top_roots : (log : List Entry) (below : LayerBelow) → IsEntryList d b log e words ids places → AreMadeIn d b log e (top d) below.made.nodes.items
      → ascending (map (λ m. m.id) below.made.nodes.items) ≡ ascending (map (root d b (e ∷ log)) (ends e.changed))
  top_roots [] below is are = absurd is.image.legal
  top_roots (f ∷ log) below is are = roots_are d b is.image.dataset is.image.base e f log (ends_known (f ∷ log) is) below.made.nodes.items are

  pub all_layers : (log : List Entry) (n : ℕ) (all x : EntryLayers) (below : LayerBelow) → IsEntryList d b log e words ids places → n ≡ top d - 1 → AreLayersTo d b log e ids n all below
      → x.nodes ≡ all.nodes → x.links ≡ all.links → x.spent ≡ all.spent → x.roots ≡ ascending (map (λ m. m.id) below.made.nodes.items) → AreEntryLayers d b log e x
  unfolding new_nodes new_links child_count layers top
  all_layers log n all x below is last to nodes links spent roots =
      let two : 2 ≤ top d = high in
      let g = subst (λ k. AreGathered d b log e k all) last to.gathered in
      record {
        nodes = ap (λ v. map told_made v.items) nodes ∙ g.nodes;
        count = ap (λ v. length v.items) links ∙ (g.count ∙ sym (total-flat (λ layer. map (children d b (e ∷ log) layer) (new_among d b (e ∷ log) layer b.supervoxels)) (layers d)));
        spent = ap told_spent spent ∙ g.spent;
        links = λ o. subst (λ v. AreLinks d b log e v.items x.links.items) (sym nodes) (subst (λ v. AreLinks d b log e all.nodes.items v.items) (sym links)
            (let k = g.links (sym spent ∙ o) in record { links_are = k.links_are; placed = k.placed }));
        roots = roots ∙ top_roots log below is (subst (λ k. AreMadeIn d b log e k below.made.nodes.items) (omega (arith, last, two)) (to.made (omega (arith, last, two))));
      }
