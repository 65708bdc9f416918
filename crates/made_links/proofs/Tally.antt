-- There are as many links as the new nodes of the layer have children, whatever ids these have.
use Rattle.std.proofs.Common.{◌≡◌, ℕ, ◌<◌, ◌≤◌, ◌&&◌, eqb, ltb, List, ◌∷◌, length, map, get_or, sym, ◌∙◌, ap, arith}
use Rattle.std.specs.List.{filter, range_with_len}
use Rattle.std.proofs.lemmas.Bool.{lt-ltb, ltb-true}
use Rattle.std.proofs.lemmas.List.{length-map}
use Rattle.std.proofs.lemmas.List.Sorted.{length_permutation}
use Rattle.graph_model.specs.Lists.{has}
use Rattle.graph_model.proofs.ListLemmas.{filter_same, same_bool}
use Rattle.op_model.specs.declared.base.Dataset.{Dataset}
use Rattle.op_model.specs.declared.base.Base.{Base}
use Rattle.op_model.specs.declared.entry.Entry.{Entry}
use Rattle.op_model.specs.Labels.{new_among}
use Rattle.op_model.specs.Records.{children, total}
use Rattle.octree_layers.proofs.Leaves.{range_in}
use Rattle.made_nodes.specs.declared.layers.MadeLayer.{MadeLayer}
use Rattle.child_counts.specs.Counting.{is_counted}
use Rattle.child_counts.proofs.Counted.{counted}
use Rattle.made_links.specs.declared.finding.Child.{Child}
use Rattle.made_links.specs.Children.{IsLinked, has_parent}
use Rattle.made_links.specs.Orders.{AreSorted, link_of}
use Rattle.made_links.specs.Ranks.{AreRanks}

module _ (d : Dataset) (b : Base) (log : List Entry) (e : Entry) (words : List ℕ) (prefix : ℕ) (ids : List ℕ) (layer : ℕ) (below_firsts : List ℕ) (below : MadeLayer) (firsts : List ℕ) (made : MadeLayer)
    (is : IsLinked d b log e words prefix ids layer below_firsts below firsts made) (two : 2 ≤ layer) (ranks : List ℕ) (ranked : AreRanks (length ids) made.leasts.items ranks) where
  -- a place has a rank just where the least leaf of a new node stands there
  ranked_has : (i : ℕ) → i < length ids → ltb 0 (get_or ranks (get_or firsts i 0) 0) ≡ has made.leasts.items (get_or firsts i 0)
  ranked_has i l =
      let q : ℕ = get_or firsts i 0 in
      same_bool (ltb 0 (get_or ranks q 0)) (has made.leasts.items q) (λ h. ranked.only q (is.firsts_of.small i l) (ltb-true 0 (get_or ranks q 0) h)) (λ h. lt-ltb 0 (get_or ranks q 0) (ranked.there q h).0)

  tests_same : filter (has_parent below_firsts firsts ranks) (range_with_len 0 (length ids)) ≡ filter (is_counted below_firsts firsts made.leasts.items) (range_with_len 0 (length ids))
  tests_same =
      filter_same (has_parent below_firsts firsts ranks) (is_counted below_firsts firsts made.leasts.items) (range_with_len 0 (length ids))
      (λ i h. let z = range_in 0 (length ids) i h in ap (λ t. eqb (get_or below_firsts i 0) i && t) (ranked_has i (omega (arith, z))))

  pub tallied : (all mid ks : List Child) → map (λ (c : Child). c.least) all ≡ filter (has_parent below_firsts firsts ranks) (range_with_len 0 (length ids))
      → AreSorted (λ c. c.id) all mid → AreSorted (λ c. c.parent) mid ks
      → length (map (link_of made.nodes.items) ks) ≡ total (map (children d b (e ∷ log) layer) (new_among d b (e ∷ log) layer b.supervoxels))
  tallied all mid ks leasts one sorted =
      let n : length ks ≡ length all =
      let p = length_permutation all mid one.moved in
      let q = length_permutation mid ks sorted.moved in
      omega (arith, p, q) in
      length-map ks (link_of made.nodes.items)
      ∙ (n
      ∙ (sym (length-map all (λ (c : Child). c.least))
      ∙ (ap length (leasts ∙ tests_same)
      ∙ counted d b is.below_is.image.dataset is.below_is.image.base log e ids layer two is.below_is.holds below_firsts firsts made.leasts.items made.nodes.items is.below_is.firsts_of is.firsts_of is.made_are is.made_leasts is.made_places)))
