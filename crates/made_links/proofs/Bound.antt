-- The links of children in groups by their parents are those of the layer's new nodes.
use Rattle.std.proofs.Common.{◌≡◌, ℕ, suc, ◌+◌, ◌-◌, ◌<◌, ◌≤◌, true, eqb, List, [], ◌∷◌, ◌++◌, length, map, get_or, None, refl, sym, ◌∙◌, ap, arith}
use Rattle.std.specs.List.{All, AllByRecursion, filter, flat_map, range_with_len}
use Rattle.std.proofs.lemmas.Bool.{eqb-true}
use Rattle.std.proofs.lemmas.List.{get_or-map, length-map}
use Rattle.std.proofs.lemmas.List.Elements.{All-from_recursion, recursion_from_All}
use Rattle.op_model.specs.declared.base.Dataset.{Dataset}
use Rattle.op_model.specs.declared.base.Base.{Base}
use Rattle.op_model.specs.declared.entry.Entry.{Entry}
use Rattle.graph_model.specs.Lists.{head_or}
use Rattle.op_model.specs.Chunks.{members, top}
use Rattle.op_model.specs.Ingest.{spent_in}
use Rattle.op_model.specs.Labels.{component, new_among}
use Rattle.record_rows.specs.Rows.{Link, Node}
use Rattle.record_rows.specs.LogRows.{children_of, layer_chunks, layer_nodes, links_of, new_node, rows_of}
use Rattle.record_rows.proofs.DifferLemmas.{all_each, all_flat, all_map, all_more, all_filter}
use Rattle.record_rows.proofs.OnceLemmas.{least_all}
use Rattle.layer_laws.specs.Building.{at}
use Rattle.layer_laws.proofs.OrderLemmas.{same_ascending}
use Rattle.octree_layers.proofs.Grouping.{map_flat}
use Rattle.octree_layers.proofs.Leaves.{map_twice}
use Rattle.entry_parts.specs.declared.made.MadeNode.{MadeNode}
use Rattle.entry_parts.specs.Made.{AreLinksIn, IsPlacedChild, as_link, told_made, told_node}
use Rattle.made_nodes.specs.declared.layers.MadeLayer.{MadeLayer}
use Rattle.made_links.specs.declared.finding.Child.{Child}
use Rattle.made_links.specs.Children.{IsChild, IsLinked, has_parent}
use Rattle.made_links.specs.Orders.{AreSorted, link_of}
use Rattle.made_links.specs.Ranks.{AreRanks}
use Rattle.made_links.proofs.Made.{head_is}
use Rattle.made_links.proofs.Groups.{each_key, group, group_has, group_up, keys_are}
use Rattle.made_links.proofs.Kin.{Fact, facts, from, ids_differ, into, parent_low, up}

flat_range : {X Y : Type 0} (g : ℕ → List Y) (f : X → List Y) (xs : List X) (a : ℕ) → ((i : ℕ) (x : X) → i < length xs → g (a + i) ≡ f (get_or xs i x)) → flat_map g (range_with_len a (length xs)) ≡ flat_map f xs
flat_range g f [] a e = refl
flat_range g f (x ∷ xs) a e =
    let z : a + 0 ≡ a = omega arith in
    ap (λ ys. ys ++ flat_map g (range_with_len (a + 1) (length xs))) (sym (ap g z) ∙ e 0 x (omega arith))
    ∙ ap (λ ys. f x ++ ys) (flat_range g f xs (a + 1) (λ i y l. let s : a + 1 + i ≡ a + suc i = omega arith in ap g s ∙ e (suc i) y (omega arith)))

same_each : {X Y : Type 0} (f g : X → Y) (xs : List X) → AllByRecursion (λ x. f x ≡ g x) xs → map f xs ≡ map g xs
same_each f g [] a = refl
same_each f g (x ∷ xs) a = ap (λ y. y ∷ map f xs) a.0 ∙ ap (λ ys. g x ∷ ys) (same_each f g xs a.1)

module _ (d : Dataset) (b : Base) (log : List Entry) (e : Entry) (words : List ℕ) (prefix : ℕ) (ids : List ℕ) (layer : ℕ) (below_firsts : List ℕ) (below : MadeLayer) (firsts : List ℕ) (made : MadeLayer)
    (is : IsLinked d b log e words prefix ids layer below_firsts below firsts made) (two : 2 ≤ layer) (high : layer ≤ top d)
    (ranks : List ℕ) (ranked : AreRanks (length ids) made.leasts.items ranks) (all : List Child)
    (leasts : map (λ (c : Child). c.least) all ≡ filter (has_parent below_firsts firsts ranks) (range_with_len 0 (length ids)))
    (parents : All (λ (c : Child). c.parent ≡ get_or ranks (get_or firsts c.least 0) 0) all) (are : All (IsChild d b log e layer ids below) all)
    (mid ks : List Child) (one : AreSorted (λ c. c.id) all mid) (sorted : AreSorted (λ c. c.parent) mid ks) where
  many : length made.leasts.items ≡ length made.nodes.items
  many = sym (length-map made.leasts.items (at ids)) ∙ (ap length is.made_leasts ∙ length-map made.nodes.items (λ (m : MadeNode). m.least))

  pub parents_low : All (λ (c : Child). (0 < c.parent) × (c.parent ≤ length made.nodes.items)) all
  parents_low =
      All-from_recursion (λ (c : Child). (0 < c.parent) × (c.parent ≤ length made.nodes.items)) all
      (all_more (Fact d b log e words prefix ids layer below_firsts below firsts made is two high ranks ranked all leasts parents are) (λ (c : Child). (0 < c.parent) × (c.parent ≤ length made.nodes.items)) all
      (λ c f. let p = parent_low d b log e words prefix ids layer below_firsts below firsts made is two high ranks ranked all leasts parents are c f in let low = p.0 in let most = p.1 in (low, omega (arith, most, many)))
      (facts d b log e words prefix ids layer below_firsts below firsts made is two high ranks ranked all leasts parents are))

  pub keys_low : All (λ (c : Child). (0 < c.parent) × (c.parent ≤ length made.nodes.items)) ks
  keys_low = each_key all mid ks one sorted (λ (c : Child). (0 < c.parent) × (c.parent ≤ length made.nodes.items)) parents_low

  -- the ids of a node's children
  group_ids : (2 < layer → spent_in d b (e ∷ log) (layer - 1) ≡ None) → (r : ℕ) (m : MadeNode) → r < length made.nodes.items
      → map (λ (c : Child). c.id) (group all mid ks one sorted (r + 1)) ≡ children_of d b (e ∷ log) layer (component d b (e ∷ log) layer (get_or made.nodes.items r m).least)
  group_ids fits r m l =
      same_ascending (map (λ (c : Child). c.id) (group all mid ks one sorted (r + 1))) (children_of d b (e ∷ log) layer (component d b (e ∷ log) layer (get_or made.nodes.items r m).least))
      (group_up all mid ks one sorted (ids_differ d b log e words prefix ids layer below_firsts below firsts made is two high ranks ranked all leasts parents are fits) (r + 1))
      (up d b log e words prefix ids layer below_firsts below firsts made is two high ranks ranked all leasts parents are r m l)
      (λ x h. into d b log e words prefix ids layer below_firsts below firsts made is two high ranks ranked all leasts parents are r m l x (sym (group_has all mid ks one sorted (r + 1) x) ∙ h))
      (λ x h. group_has all mid ks one sorted (r + 1) x ∙ from d b log e words prefix ids layer below_firsts below firsts made is two high ranks ranked all leasts parents are r m l x h)

  nodes : List Node
  nodes = layer_nodes d b (e ∷ log) e.number layer

  -- what a new node of the layer has as one of the records
  abbrev IsNew : Node → Type 0
  IsNew n = (n.leaves ≡ component d b (e ∷ log) layer (head_or 0 n.leaves)) × (n.made ≡ e.number)

  own_node : (v : ℕ) → head_or 0 (component d b (e ∷ log) layer v) ≡ v → IsNew (new_node d b (e ∷ log) e.number layer v)
  unfolding new_node
  own_node v h = (ap (component d b (e ∷ log) layer) (sym h), refl)

  nodes_new : AllByRecursion IsNew nodes
  unfolding nodes layer_nodes
  nodes_new =
      all_flat (λ c. map (new_node d b (e ∷ log) e.number layer) (new_among d b (e ∷ log) layer (members d b layer c))) IsNew (layer_chunks d b layer)
      (all_each (λ c. AllByRecursion IsNew (map (new_node d b (e ∷ log) e.number layer) (new_among d b (e ∷ log) layer (members d b layer c)))) (layer_chunks d b layer)
      (λ c. all_map (new_node d b (e ∷ log) e.number layer) IsNew (new_among d b (e ∷ log) layer (members d b layer c))
      (all_more _ (λ v. IsNew (new_node d b (e ∷ log) e.number layer v)) (new_among d b (e ∷ log) layer (members d b layer c))
      (λ v p. own_node v (head_is d b is.below_is.image.dataset is.below_is.image.base log e layer made.nodes.items is.made_are v p.0 p.3))
      (least_all d b is.below_is.image.dataset is.below_is.image.base (e ∷ log) layer c))))

  as_many : length made.nodes.items ≡ length nodes
  unfolding nodes
  as_many =
      sym (length-map made.nodes.items told_made) ∙ (ap length is.made_are ∙ length-map (layer_nodes d b (e ∷ log) e.number layer) told_node)

  told_at : (r : ℕ) (m : MadeNode) (n : Node) → r < length made.nodes.items → told_made (get_or made.nodes.items r m) ≡ told_node (get_or nodes r n)
  unfolding nodes
  told_at r m n l =
      sym (get_or-map told_made made.nodes.items r m (0, 0, 0) l)
      ∙ (ap (λ ts. get_or ts r (0, 0, 0)) is.made_are ∙ get_or-map told_node (layer_nodes d b (e ∷ log) e.number layer) r n (0, 0, 0) (let q = as_many in omega (arith, q, l)))

  abbrev linked : Child → Link
  linked c = as_link e.number (link_of made.nodes.items c)

  -- the links of one node
  piece : (2 < layer → spent_in d b (e ∷ log) (layer - 1) ≡ None) → (r : ℕ) (n : Node) → r < length made.nodes.items
      → map linked (group all mid ks one sorted (r + 1)) ≡ links_of d b (e ∷ log) layer (get_or nodes r n)
  unfolding links_of
  piece fits r n l =
      same_each linked (λ (c : Child). to c.id) (group all mid ks one sorted (r + 1))
      (all_more (λ (c : Child). Unit {0} × (eqb c.parent (r + 1) ≡ true)) (λ (c : Child). linked c ≡ to c.id) (group all mid ks one sorted (r + 1)) same
      (all_filter (λ (c : Child). eqb c.parent (r + 1)) (λ (c : Child). Unit {0}) ks (all_each (λ (c : Child). Unit {0}) ks (λ c. tt))))
      ∙ (sym (map_twice to (λ (c : Child). c.id) (group all mid ks one sorted (r + 1)))
      ∙ ap (map to) (group_ids fits r nobody l ∙ ap (children_of d b (e ∷ log) layer) (ap (component d b (e ∷ log) layer) least_told ∙ sym new_one.0)))
    where
      nobody : MadeNode
      nobody = record { id = 0; chunk = 0; least = 0 }

      one_of : Node
      one_of = get_or nodes r n

      new_one : IsNew (get_or nodes r n)
      new_one = All-from_recursion IsNew nodes nodes_new r n (let q = as_many in omega (arith, q, l))

      least_told : (get_or made.nodes.items r nobody).least ≡ head_or 0 (get_or nodes r n).leaves
      least_told = ap (λ (t : ℕ × ℕ × ℕ). t.2) (told_at r nobody n l)

      id_told : (get_or made.nodes.items r nobody).id ≡ (get_or nodes r n).id
      id_told = ap (λ (t : ℕ × ℕ × ℕ). t.0) (told_at r nobody n l)

      to : ℕ → Link
      to x = record { child = x; parent = (get_or nodes r n).id; entry = (get_or nodes r n).made }

      same : (c : Child) → Unit {0} × (eqb c.parent (r + 1) ≡ true) → linked c ≡ to c.id
      same c p =
          let q : c.parent - 1 ≡ r = let z : c.parent ≡ r + 1 = eqb-true _ _ p.1 in omega (arith, z) in
          let parent : get_or (map (λ (m : MadeNode). m.id) made.nodes.items) (c.parent - 1) 0 ≡ (get_or nodes r n).id =
          ap (λ k. get_or (map (λ (m : MadeNode). m.id) made.nodes.items) k 0) q ∙ (get_or-map (λ (m : MadeNode). m.id) made.nodes.items r nobody 0 l ∙ id_told) in
          λ j. record { child = c.id; parent = parent j; entry = sym new_one.1 j }

  pub linked_all : (2 < layer → spent_in d b (e ∷ log) (layer - 1) ≡ None) → AreLinksIn d b log e layer below.nodes.items (map (link_of made.nodes.items) ks)
  unfolding nodes
  linked_all fits = record {
    links_are =
        map_twice (as_link e.number) (link_of made.nodes.items) ks
        ∙ (ap (map linked) (sym (keys_are all mid ks one sorted (length made.nodes.items) parents_low))
        ∙ (map_flat linked (group all mid ks one sorted) (range_with_len 1 (length made.nodes.items))
        ∙ (ap (λ k. flat_map (λ p. map linked (group all mid ks one sorted p)) (range_with_len 1 k)) as_many
        ∙ flat_range (λ p. map linked (group all mid ks one sorted p)) (links_of d b (e ∷ log) layer) (layer_nodes d b (e ∷ log) e.number layer) 1
        (λ i n l. ap (λ p. map linked (group all mid ks one sorted p)) (let z : 1 + i ≡ i + 1 = omega arith in z) ∙ piece fits i n (let q = as_many in omega (arith, q, l))))));
    placed =
        All-from_recursion (IsPlacedChild (rows_of d b log) (map (λ (m : MadeNode). m.id) below.nodes.items)) (map (link_of made.nodes.items) ks)
        (all_map (link_of made.nodes.items) (IsPlacedChild (rows_of d b log) (map (λ (m : MadeNode). m.id) below.nodes.items)) ks
        (all_more (IsChild d b log e layer ids below) (λ (c : Child). IsPlacedChild (rows_of d b log) (map (λ (m : MadeNode). m.id) below.nodes.items) (link_of made.nodes.items c)) ks
        (λ c f. record { new = f.new; kept = f.kept })
        (recursion_from_All (IsChild d b log e layer ids below) ks (each_key all mid ks one sorted (IsChild d b log e layer ids below) are))));
  }
