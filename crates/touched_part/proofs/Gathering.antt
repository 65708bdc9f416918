-- The leaves of several roots in one list.
use Rattle.std.proofs.Common.{◌≡◌, ℕ, ◌+◌, ◌<◌, ◌≤◌, true, List, [], ◌∷◌, ◌++◌, length, take, get_or, refl, sym, ◌∙◌, ap, subst, inl, inr, arith, append_assoc, IsTrue, Some}
use Rattle.op_model.specs.declared.base.Dataset.{Dataset}
use Rattle.op_model.specs.declared.base.Base.{Base}
use Rattle.op_model.specs.declared.entry.Entry.{Entry}
use Rattle.graph_model.specs.Lists.{has}
use Rattle.graph_model.proofs.ListLemmas.{has_head, has_none}
use Rattle.op_model.specs.Chunks.{top}
use Rattle.op_model.specs.Labels.{component, node, root}
use Rattle.op_model.specs.Legal.{Legal}
use Rattle.op_model.specs.Transcript.{log_at}
use Rattle.op_model.proofs.LocalLemmas.{joined_root, root_joined, top_in_layers}
use Rattle.record_rows.specs.Rows.{NodeRow, Node}
use Rattle.record_rows.specs.Readings.{HoldsNode, ParentImage}
use Rattle.record_rows.proofs.LinkLemmas.{of_component, to_component}
use Rattle.node_reader.proofs.LeafLaws.{leaves_joined}
use Rattle.touched_paths.specs.Climbing.{AreTops}
use Rattle.touched_paths.proofs.Climbs.{whole_log}
use Rattle.touched_paths.proofs.Covering.{has_back, has_front, has_last, has_parts, take_more}
use Rattle.touched_part.specs.Touching.{AreTouched}

pub one_put : (old more list new : List ℕ) (i x : ℕ) → i < length more → x ≡ get_or more i x → list ≡ old ++ take i more → new ≡ list ++ x ∷ [] → new ≡ old ++ take (i + 1) more
one_put old more list new i x l e q n = n ∙ (ap (λ xs. xs ++ x ∷ []) q ∙ (append_assoc old (take i more) (x ∷ []) ∙ ap (λ xs. old ++ xs) (sym (take_more more i x l e))))

-- the list has the leaves of just the nodes at these places
pub record AreLeaves (d : Dataset) (b : Base) (log : List Entry) (tops list : List ℕ) : Type 0 where
  pub given : (v : ℕ) → has list v ≡ true → (p : ℕ) × (n : Node) × (has tops p ≡ true) × HoldsNode d b log p n × (has n.leaves v ≡ true)
  pub all : (p v : ℕ) (n : Node) → has tops p ≡ true → HoldsNode d b log p n → has n.leaves v ≡ true → has list v ≡ true

pub leaves_none : (d : Dataset) (b : Base) (log : List Entry) (tops list : List ℕ) → list ≡ [] → AreLeaves d b log (take 0 tops) list
leaves_none d b log tops list e = record {
  given = λ v h. has_none v (subst (λ xs. has xs v ≡ true) e h);
  all = λ p v n h at k. has_none p h;
}

some_entry : (d : Dataset) (b : Base) (log : List Entry) → Legal d b log → 1 ≤ length log
some_entry d b [] legal = absurd legal
some_entry d b (e ∷ log) legal = omega arith

node_same : (m n : Node) → Some (NodeRow m) ≡ Some (NodeRow n) → m ≡ n
node_same m n e = cc

pub leaves_more : (d : Dataset) (b : Base) (log : List Entry) (tops list new own : List ℕ) (i p : ℕ) (n : Node) → i < length tops → p ≡ get_or tops i p → HoldsNode d b log p n → own ≡ n.leaves → new ≡ list ++ own
    → AreLeaves d b log (take i tops) list → AreLeaves d b log (take (i + 1) tops) new
leaves_more d b log tops list new own i p n l e at o q are = record {
  given = λ v h.
      elim (has_parts list own v (subst (λ xs. has xs v ≡ true) q h)) [
        | inl k ↦ let g = are.given v k in (g.0, g.1, subst (λ xs. has xs g.0 ≡ true) (sym t) (has_front (take i tops) (p ∷ []) g.0 g.2), g.3, g.4)
        | inr k ↦ (p, n, subst (λ xs. has xs p ≡ true) (sym t) (has_back (take i tops) (p ∷ []) p (has_head p [])), at, subst (λ xs. has xs v ≡ true) o k)
      ];
  all = λ x v m h there k.
      elim (has_last (take i tops) p x (subst (λ xs. has xs x ≡ true) t h)) [
        | inl g ↦ subst (λ xs. has xs v ≡ true) (sym q) (has_front list own v (are.all x v m g there k))
        | inr g ↦
            let s : n ≡ m = node_same n m (sym at ∙ subst (λ y. HoldsNode d b log y m) (sym g) there) in
            subst (λ xs. has xs v ≡ true) (sym q) (has_back list own v (subst (λ xs. has xs v ≡ true) (sym (o ∙ ap (λ y. y.leaves) s)) k))
      ];
}
  where
    t : take (i + 1) tops ≡ take i tops ++ p ∷ []
    t = take_more tops i p l e

module _ (d : Dataset) (b : Base) (log : List Entry) (words : List ℕ) (i : ParentImage d b log words) where
  root_leaves : (p u : ℕ) (n : Node) → has b.supervoxels u ≡ true → HoldsNode d b log p n → n.id ≡ root d b log u → n.leaves ≡ component d b log (top d) u
  unfolding root
  root_leaves p u n h at e =
      let w : log_at d b log (length log) ≡ log = whole_log d b log (length log) refl in
      leaves_joined d b log (length log) (top d) u p n i.dataset i.base i.legal (some_entry d b log i.legal) at (top_in_layers d) h (e ∙ ap (λ now. node d b now (top d) u) (sym w))
      ∙ ap (λ now. component d b now (top d) u) w

  into_root : (u v : ℕ) → has b.supervoxels u ≡ true → has (component d b log (top d) u) v ≡ true → (has b.supervoxels v ≡ true) × (root d b log v ≡ root d b log u)
  into_root u v h k = go log i.legal k
    where
      go : (now : List Entry) → Legal d b now → has (component d b now (top d) u) v ≡ true → (has b.supervoxels v ≡ true) × (root d b now v ≡ root d b now u)
      go [] legal k = absurd legal
      go (e ∷ older) legal k =
          let c = of_component d b i.dataset i.base (e ∷ older) (top d) u v k in
          (c.0, sym (joined_root d b e older u v i.dataset.layout legal h c.2))

  from_root : (u v : ℕ) → has b.supervoxels u ≡ true → has b.supervoxels v ≡ true → root d b log v ≡ root d b log u → has (component d b log (top d) u) v ≡ true
  from_root u v h k q = go log i.legal q
    where
      go : (now : List Entry) → Legal d b now → root d b now v ≡ root d b now u → has (component d b now (top d) u) v ≡ true
      go [] legal q = absurd legal
      go (e ∷ older) legal q = to_component d b i.dataset i.base (e ∷ older) (top d) u v (root_joined d b e older u v i.dataset.layout legal h k (sym q))

  pub touched_are : (us tops list new : List ℕ) → ((u : ℕ) → IsTrue (has us u) → IsTrue (has b.supervoxels u)) → AreTops d b log us tops → AreLeaves d b log tops list → ((v : ℕ) → has new v ≡ has list v)
      → AreTouched d b log us new
  touched_are us tops list new known are leaves same v = (
    (λ h.
        let g = leaves.given v (sym (same v) ∙ h) in
        let t = are.stand.given g.0 g.2 in
        let e : t.2.0 ≡ g.1 = node_same t.2.0 g.1 (sym t.2.1 ∙ g.3) in
        let k = into_root t.0 v (known t.0 t.1) (subst (λ xs. has xs v ≡ true) (root_leaves g.0 t.0 g.1 (known t.0 t.1) g.3 (sym (ap (λ x. x.id) e) ∙ t.2.2)) g.4) in
        (k.0, (t.0, t.1, k.1))),
    (λ h.
        let u : ℕ = h.1.0 in
        let t = are.stand.all u h.1.1 in
        same v ∙ leaves.all t.0 v t.2.0 t.1 t.2.1 (subst (λ xs. has xs v ≡ true) (sym (root_leaves t.0 u t.2.0 (known u h.1.1) t.2.1 t.2.2)) (from_root u v (known u h.1.1) h.0 h.1.2))),
  )
