-- The nodes of all layers below one, and the roots.
use Rattle.std.proofs.Common.{◌≡◌, ℕ, ◌+◌, ◌-◌, ◌<◌, ◌≤◌, true, eqb, List, [], ◌∷◌, ◌++◌, length, map, take, get_or, sym, ◌∙◌, ap, subst, inl, inr, arith, append_assoc, eq-eqb, IsTrue, Some}
use Rattle.std.specs.List.{slice_get}
use Rattle.std.proofs.lemmas.Bool.{cases_lt, cond-false, false_from_ne_true, ne_eqb}
use Rattle.node_ids.specs.Ids.{parts_of}
use Rattle.op_model.specs.declared.base.Dataset.{Dataset}
use Rattle.op_model.specs.declared.base.Base.{Base}
use Rattle.op_model.specs.declared.entry.Entry.{Entry}
use Rattle.graph_model.specs.Lists.{has}
use Rattle.graph_model.proofs.ListLemmas.{contra, has_head, has_none, has_tail}
use Rattle.op_model.specs.Chunks.{layers, top}
use Rattle.op_model.specs.Labels.{node, root}
use Rattle.op_model.specs.Operations.{ascending, ends}
use Rattle.op_model.specs.Valid.{IsAscending}
use Rattle.op_model.proofs.LegalLemmas.{ascending_has, map_has}
use Rattle.op_model.proofs.LocalLemmas.{top_in_layers}
use Rattle.op_model.proofs.LockLemmas.{ascending_ascends}
use Rattle.op_model.proofs.MadeLemmas.{ascending_only, map_only}
use Rattle.layer_laws.proofs.OrderLemmas.{ascending_above, ascending_tail, same_ascending}
use Rattle.record_rows.specs.Rows.{NodeRow, Node}
use Rattle.record_rows.specs.Chains.{has_id}
use Rattle.record_rows.specs.LogRows.{rows_of}
use Rattle.record_rows.specs.Readings.{HoldsId, HoldsNode, HoldsSupervoxel, ParentImage}
use Rattle.record_rows.specs.Versions.{child_at}
use Rattle.record_rows.proofs.PrefixNodes.{layer_has}
use Rattle.node_reader.proofs.Climbs.{end_at, start_at}
use Rattle.grown_rows.specs.Aimed.{Differ}
use Rattle.entry_rows.specs.Retiring.{AreOnPaths}
use Rattle.touched_paths.specs.Climbing.{ArePassed, AreTops, Covers, IsClimbed}
use Rattle.touched_paths.proofs.Climbs.{layer_bounds, node_at, node_layer}
use Rattle.touched_paths.proofs.Covering.{covers_weaker, has_back, has_front, has_parts, take_more}

pub one_put : (old more list new : List ℕ) (i x : ℕ) → i < length more → x ≡ get_or more i x → list ≡ old ++ take i more → new ≡ list ++ x ∷ [] → new ≡ old ++ take (i + 1) more
one_put old more list new i x l e q n = n ∙ (ap (λ xs. xs ++ x ∷ []) q ∙ (append_assoc old (take i more) (x ∷ []) ∙ ap (λ xs. old ++ xs) (sym (take_more more i x l e))))

-- the id is that of the record
abbrev pub Named : Dataset → Base → List Entry → ℕ → ℕ → Type 0
Named d b log r p = (id : ℕ) → HoldsId d b log p id → r ≡ id

ascending_differ : (xs : List ℕ) → IsAscending xs → Differ xs
ascending_differ [] a = tt
ascending_differ (x ∷ xs) a = (false_from_ne_true (has xs x) (λ h. let l = ascending_above xs x x a h in omega arith), ascending_differ xs (ascending_tail x xs a))

differ_append : (xs ys : List ℕ) → Differ xs → Differ ys → ((x : ℕ) → has xs x ≡ true → has ys x ≡ true → ⊥) → Differ (xs ++ ys)
differ_append [] ys a c f = c
differ_append (x ∷ xs) ys a c f = (
  false_from_ne_true (has (xs ++ ys) x) (λ h. elim (has_parts xs ys x h) [ inl k ↦ contra (has xs x) k a.0 | inr k ↦ f x (has_head x xs) k ]),
  differ_append xs ys a.1 c (λ y h k. f y (has_tail x xs y h) k),
)

node_same : (m n : Node) → Some (NodeRow m) ≡ Some (NodeRow n) → m ≡ n
node_same m n e = cc

-- just below the node of the next layer stands the node of this one
child_above : (d : Dataset) (b : Base) (log : List Entry) (layer u : ℕ) → 2 ≤ layer → child_at d b log (layer + 1) u ≡ node d b log layer u
unfolding child_at
child_above d b log layer u l =
    cond-false (eqb (layer + 1) 2) u (node d b log (layer + 1 - 1) u) (ne_eqb (layer + 1) 2 (λ q. absurd (let z : layer + 1 ≡ 2 = q in omega arith)))
    ∙ ap (λ k. node d b log k u) (let n : layer + 1 - 1 ≡ layer = omega arith in n)

pub roots_members : (f : ℕ → ℕ) (us vs : List ℕ) → ((u : ℕ) → has us u ≡ has vs u) → ascending (map f us) ≡ ascending (map f vs)
roots_members f us vs same =
    same_ascending (ascending (map f us)) (ascending (map f vs)) (ascending_ascends (map f us)) (ascending_ascends (map f vs))
    (λ r h. into us vs (λ u k. sym (same u) ∙ k) r h) (λ r h. into vs us (λ u k. same u ∙ k) r h)
  where
    into : (xs ys : List ℕ) → ((u : ℕ) → has xs u ≡ true → has ys u ≡ true) → (r : ℕ) → has (ascending (map f xs)) r ≡ true → has (ascending (map f ys)) r ≡ true
    into xs ys g r h =
        let m = map_only f xs r (ascending_only (map f xs) r h) in
        subst (λ x. has (ascending (map f ys)) x ≡ true) m.2 (ascending_has (map f ys) (f m.0) (map_has f ys m.0 (g m.0 m.1)))

pub tops_members : (d : Dataset) (b : Base) (log : List Entry) (us vs tops : List ℕ) → ((u : ℕ) → has us u ≡ has vs u) → AreTops d b log us tops → AreTops d b log vs tops
tops_members d b log us vs tops same are = record {
  ascending = are.ascending;
  stand = record {
    given = λ p h. let g = are.stand.given p h in (g.0, sym (same g.0) ∙ g.1, g.2);
    all = λ u h. are.stand.all u (same u ∙ h);
  };
}

-- what stands below layer 2 are the supervoxels
pub climbed_first : (d : Dataset) (b : Base) (log : List Entry) (words : List ℕ) (prefix : ℕ) (us spots : List ℕ) → ParentImage d b log words → prefix ≡ length log → ((u : ℕ) → IsTrue (has us u) → IsTrue (has b.supervoxels u))
    → Covers us (λ p u. HoldsSupervoxel d b log p u) spots → IsClimbed d b log words prefix 2 us spots
climbed_first d b log words prefix us spots i whole known covers = record {
  image = i;
  whole = whole;
  known = known;
  stand = covers_weaker (λ p u. HoldsSupervoxel d b log p u) (λ p u. HoldsId d b log p (child_at d b log 2 u)) us spots (λ p u h at. start_at d b log log p u at) covers;
}

module _ (d : Dataset) (b : Base) (log : List Entry) (words : List ℕ) (i : ParentImage d b log words) where
  pub passed_none : (us places : List ℕ) → places ≡ [] → ArePassed d b log 2 us places
  passed_none us places e = record {
    given = λ p h. has_none p (subst (λ xs. has xs p ≡ true) e h);
    all = λ k u low high h. absurd (omega arith);
    differ = subst (λ xs. Differ xs) (sym e) tt;
  }

  -- the nodes of one layer stand at other places than those of the layers below
  pub passed_more : (prefix layer : ℕ) (us places spots new : List ℕ) → IsTrue (has (layers d) layer) → IsClimbed d b log words prefix (layer + 1) us spots → IsAscending spots → new ≡ places ++ spots
      → ArePassed d b log layer us places → ArePassed d b log (layer + 1) us new
  passed_more prefix layer us places spots new hl is ascends e passed = record {
    given = λ p h. elim (has_parts places spots p (subst (λ xs. has xs p ≡ true) e h)) [
      | inl k ↦ let g = passed.given p k in let low = g.4 in (g.0, g.1, g.2, g.3, omega (arith, low), g.5, g.6, g.7)
      | inr k ↦ let s = stands p k in (layer, s.0, s.1, two, omega arith, s.2, s.3, s.4)
    ];
    all = λ k u low high h. elim (cases_lt k layer) [
      | inl less ↦ let g = passed.all k u low less h in (g.0, g.1, subst (λ xs. has xs g.0 ≡ true) (sym e) (has_front places spots g.0 g.2), g.3, g.4)
      | inr more ↦
          let same : layer ≡ k = omega arith in
          let g = is.stand.all u h in
          let n = node_at d b log words i g.0 layer u hl (is.known u h) (below g.0 u g.2) in
          (g.0, n.0, subst (λ xs. has xs g.0 ≡ true) (sym e) (has_back places spots g.0 g.1), n.1, n.2 ∙ ap (λ l. node d b log l u) same)
    ];
    differ = subst (λ xs. Differ xs) (sym e) (differ_append places spots passed.differ (ascending_differ spots ascends) apart);
  }
    where
      two : 2 ≤ layer
      two = (layer_bounds d layer hl).0

      below : (p u : ℕ) → HoldsId d b log p (child_at d b log (layer + 1) u) → HoldsId d b log p (node d b log layer u)
      below p u at = subst (λ x. HoldsId d b log p x) (child_above d b log layer u two) at

      stands : (p : ℕ) → has spots p ≡ true → (u : ℕ) × (n : Node) × IsTrue (has us u) × (slice_get (rows_of d b log) p ≡ Some (NodeRow n)) × (n.id ≡ node d b log layer u)
      stands p h =
          let g = is.stand.given p h in
          let n = node_at d b log words i p layer g.0 hl (is.known g.0 g.1) (below p g.0 g.2) in
          (g.0, n.0, g.1, n.1, n.2)

      apart : (p : ℕ) → has places p ≡ true → has spots p ≡ true → ⊥
      apart p h k =
          let g = passed.given p h in
          let s = stands p k in
          let low = g.3 in
          let less = g.4 in
          let high = (layer_bounds d layer hl).1 in
          let e : g.2 ≡ s.1 = node_same g.2 s.1 (sym g.6 ∙ s.3) in
          let same : node d b log g.0 g.1 ≡ node d b log layer s.0 = sym g.7 ∙ (ap (λ x. x.id) e ∙ s.4) in
          let here : has (layers d) g.0 ≡ true = layer_has d g.0 g.3 (omega (arith, less, high)) in
          let q : g.0 ≡ layer =
          sym (node_layer d b i.dataset log g.0 g.1 i.legal here (is.known g.1 g.5)) ∙ (ap (λ x. (parts_of d.layout x).layer) same ∙ node_layer d b i.dataset log layer s.0 i.legal hl (is.known s.0 s.2)) in
          omega (arith, q, less)

  -- above the top layer stand the roots
  pub tops_are : (prefix layer : ℕ) (us spots : List ℕ) → layer ≡ top d + 1 → IsClimbed d b log words prefix layer us spots → IsAscending spots → AreTops d b log us spots
  unfolding root
  tops_are prefix layer us spots e is ascends = record {
    ascending = ascends;
    stand = covers_weaker (λ p u. HoldsId d b log p (child_at d b log layer u)) (λ p u. (n : Node) × HoldsNode d b log p n × (n.id ≡ root d b log u)) us spots
        (λ p u h at. node_at d b log words i p (top d) u top_layer (is.known u h) (subst (λ x. HoldsId d b log p x) (end_at d b log layer u e) at)) is.stand;
  }
    where
      top_layer : has (layers d) (top d) ≡ true
      top_layer = top_in_layers d

  root_holds : (p u : ℕ) → (n : Node) × HoldsNode d b log p n × (n.id ≡ root d b log u) → HoldsId d b log p (root d b log u)
  unfolding has_id
  root_holds p u n = (NodeRow n.0, n.1, eq-eqb n.0.id (root d b log u) n.2)

  -- the ids of the roots' records
  pub roots_are : (us tops list new : List ℕ) → AreTops d b log us tops → Covers tops (Named d b log) list → IsAscending new → ((v : ℕ) → has new v ≡ has list v) → new ≡ ascending (map (root d b log) us)
  roots_are us tops list new are named ascends same =
      same_ascending new (ascending (map (root d b log) us)) ascends (ascending_ascends (map (root d b log) us))
      (λ r h.
      let g = named.given r (sym (same r) ∙ h) in
      let t = are.stand.given g.0 g.1 in
      subst (λ x. has (ascending (map (root d b log) us)) x ≡ true) (sym (g.2 (root d b log t.0) (root_holds g.0 t.0 t.2)))
      (ascending_has (map (root d b log) us) (root d b log t.0) (map_has (root d b log) us t.0 t.1)))
      (λ r h.
      let m = map_only (root d b log) us r (ascending_only (map (root d b log) us) r h) in
      let t = are.stand.all m.0 m.1 in
      let g = named.all t.0 t.1 in
      let e : g.0 ≡ r = g.2 (root d b log m.0) (root_holds t.0 m.0 t.2) ∙ m.2 in
      same r ∙ subst (λ x. has list x ≡ true) e g.1)

  -- the nodes of all layers
  pub on_paths : (us places : List ℕ) (e : Entry) → ((u : ℕ) → has us u ≡ has (ends e.changed) u) → ((u : ℕ) → has us u ≡ true → has b.supervoxels u ≡ true) → ArePassed d b log (top d + 1) us places → AreOnPaths d b log e places
  on_paths us places e same known passed = record {
    known = λ u h. known u (same u ∙ h);
    given = λ p h.
        let g = passed.given p h in
        let high = g.4 in
        (g.0, g.1, g.2, layer_has d g.0 g.3 (omega (arith, high)), sym (same g.1) ∙ g.5, g.6, g.7);
    all = λ layer u hl h.
        let l = layer_bounds d layer hl in
        let high = l.1 in
        let g = passed.all layer u l.0 (omega (arith, high)) (same u ∙ h) in
        (g.0, g.1, g.2, g.3, g.4);
    differ = passed.differ;
  }
