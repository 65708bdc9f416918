-- Joints, their supervoxels and their pairs, gathered one behind the other.
use Rattle.std.proofs.Common.{◌≡◌, ◌∙◌, ℕ, ◌+◌, ◌<◌, Bool, true, false, cond, leb, List, [], ◌∷◌, ◌++◌, length, map, take, get_or, Some, refl, sym, ap, subst, append-nil, append_assoc}
use Rattle.std.specs.List.{All, AllByRecursion, filter, flat_map, slice_get}
use Rattle.std.specs.Option.{option_map_or}
use Rattle.std.proofs.lemmas.Grind.{flat_map-append}
use Rattle.std.proofs.lemmas.List.{map-append}
use Rattle.std.proofs.lemmas.List.Elements.{All-from_recursion, recursion_from_All}
use Rattle.graph_model.specs.Lists.{has, head_or}
use Rattle.graph_model.proofs.ListLemmas.{has_head, has_tail}
use Rattle.op_model.specs.declared.base.Dataset.{Dataset}
use Rattle.op_model.specs.declared.base.Base.{Base}
use Rattle.op_model.specs.declared.entry.Changed.{Changed}
use Rattle.op_model.specs.declared.entry.Entry.{Entry}
use Rattle.op_model.specs.Operations.{ends}
use Rattle.op_model.specs.Valid.{IsSupervoxel}
use Rattle.op_model.proofs.LegalLemmas.{all_has}
use Rattle.record_rows.specs.Rows.{Row, NodeRow, SupervoxelRow, Node}
use Rattle.record_rows.specs.Chains.{has_id}
use Rattle.record_rows.specs.Readings.{HoldsNode}
use Rattle.record_rows.specs.Walks.{children_in}
use Rattle.record_rows.specs.Words.{place_from}
use Rattle.node_reader.specs.Spreads.{AreNodes, id_leaves, row_leaves}
use Rattle.node_reader.proofs.LeafMeaning.{found_leaves}
use Rattle.octree_layers.proofs.Placing.{place_at}
use Rattle.touched_paths.proofs.Covering.{take_more}
use Rattle.united_layers.specs.declared.joints.Joint.{Joint}
use Rattle.united_layers.specs.declared.joints.PlacedJoint.{PlacedJoint}
use Rattle.united_layers.specs.Jointed.{joint_ids, node_joint, pairs_to, place_joints, placed, row_joints}

-- the least leaf of the record of a supervoxel, and of that of a node
pub leaf_head : (rows : List Row) (p c v : ℕ) → p ≡ place_from (has_id c) 0 rows → slice_get rows p ≡ Some (SupervoxelRow v) → head_or 0 (id_leaves rows c) ≡ v
unfolding id_leaves row_leaves head_or
leaf_head rows p c v e h = ap (head_or 0) (found_leaves rows c (place_from (has_id c) 0 rows) (SupervoxelRow v) (subst (λ k. slice_get rows k ≡ Some (SupervoxelRow v)) e h))

pub node_head : (rows : List Row) (p c : ℕ) (n : Node) → p ≡ place_from (has_id c) 0 rows → slice_get rows p ≡ Some (NodeRow n) → head_or 0 (id_leaves rows c) ≡ head_or 0 n.leaves
unfolding id_leaves row_leaves
node_head rows p c n e h = ap (head_or 0) (found_leaves rows c (place_from (has_id c) 0 rows) (NodeRow n) (subst (λ k. slice_get rows k ≡ Some (NodeRow n)) e h))

-- the joints of a node's record
pub place_is : (d : Dataset) (rows : List Row) (p : ℕ) (n : Node) → slice_get rows p ≡ Some (NodeRow n) → place_joints d rows p ≡ map (node_joint d rows n) (children_in rows n.id)
unfolding place_joints row_joints
place_is d rows p n h = ap (λ o. option_map_or (row_joints d rows) o []) h

-- the node at one of some places
pub node_at : (d : Dataset) (b : Base) (log : List Entry) (ps : List ℕ) (i p : ℕ) → AreNodes d b log ps → i < length ps → p ≡ get_or ps i p → (n : Node) × HoldsNode d b log p n
node_at d b log ps i p a l e = subst (λ q. (n : Node) × HoldsNode d b log q n) (sym e) (All-from_recursion (λ q. (n : Node) × HoldsNode d b log q n) ps a i p l)

-- the joint of one more child
pub child_put : (f : ℕ → Joint) (before : List ℕ) (first old new : List Joint) (c : ℕ) (j : Joint) → j ≡ f c → old ≡ first ++ map f before → new ≡ old ++ j ∷ [] → new ≡ first ++ map f (before ++ c ∷ [])
child_put f before first old new c j q o n =
    n
    ∙ (ap (λ zs. zs ++ j ∷ []) o
    ∙ (append_assoc first (map f before) (j ∷ []) ∙ ap (λ zs. first ++ zs) (ap (λ z. map f before ++ z ∷ []) q ∙ sym (map-append f before (c ∷ [])))))

-- one more of those that are put behind others
pub map_more : {X Y : Type 0} (f : X → Y) (xs : List X) (first old new : List Y) (i : ℕ) (x : X) (y : Y) → i < length xs → x ≡ get_or xs i x → y ≡ f x → old ≡ first ++ map f (take i xs) → new ≡ old ++ y ∷ []
    → new ≡ first ++ map f (take (i + 1) xs)
map_more f xs first old new i x y l e q o n =
    n
    ∙ (ap (λ zs. zs ++ y ∷ []) o
    ∙ (append_assoc first (map f (take i xs)) (y ∷ [])
    ∙ ap (λ zs. first ++ zs) (ap (λ z. map f (take i xs) ++ z ∷ []) q ∙ (sym (map-append f (take i xs) (x ∷ [])) ∙ ap (map f) (sym (take_more xs i x l e))))))

pub flat_more : {X Y : Type 0} (f : X → List Y) (xs : List X) (first old new : List Y) (i : ℕ) (x : X) → i < length xs → x ≡ get_or xs i x → old ≡ first ++ flat_map f (take i xs) → new ≡ old ++ f x
    → new ≡ first ++ flat_map f (take (i + 1) xs)
flat_more f xs first old new i x l e o n =
    n
    ∙ (ap (λ zs. zs ++ f x) o
    ∙ (append_assoc first (flat_map f (take i xs)) (f x)
    ∙ ap (λ zs. first ++ zs)
    (ap (λ z. flat_map f (take i xs) ++ z) (sym (append-nil (f x))) ∙ (sym (flat_map-append f (take i xs) (x ∷ [])) ∙ ap (flat_map f) (sym (take_more xs i x l e))))))

two : (xs : List ℕ) (x y : ℕ) → (xs ++ x ∷ []) ++ y ∷ [] ≡ xs ++ x ∷ y ∷ []
two xs x y = append_assoc xs (x ∷ []) (y ∷ [])

pub ids_more : (js : List Joint) (i : ℕ) (j : Joint) (old mid new : List ℕ) → i < length js → j ≡ get_or js i j → old ≡ joint_ids (take i js) → mid ≡ old ++ j.a ∷ [] → new ≡ mid ++ j.b ∷ [] → new ≡ joint_ids (take (i + 1) js)
unfolding joint_ids
ids_more js i j old mid new l e o m n = flat_more (λ (j : Joint). j.a ∷ j.b ∷ []) js [] old new i j l e o (n ∙ (ap (λ xs. xs ++ j.b ∷ []) m ∙ two old j.a j.b))

filter_append : {X : Type 0} (t : X → Bool) (xs ys : List X) → filter t (xs ++ ys) ≡ filter t xs ++ filter t ys
filter_append t [] ys = refl
filter_append t (x ∷ xs) ys = go (t x) (filter_append t xs ys)
  where
    go : (s : Bool) → filter t (xs ++ ys) ≡ filter t xs ++ filter t ys → cond s (x ∷ filter t (xs ++ ys)) (filter t (xs ++ ys)) ≡ cond s (x ∷ filter t xs) (filter t xs) ++ filter t ys
    go true ih = ap (λ zs. x ∷ zs) ih
    go false ih = ih

pairs_append : (layer : ℕ) (xs ys : List PlacedJoint) → pairs_to layer (xs ++ ys) ≡ pairs_to layer xs ++ pairs_to layer ys
unfolding pairs_to
pairs_append layer xs ys = ap (map (λ (j : PlacedJoint). (j.a, j.b))) (filter_append (λ (j : PlacedJoint). leb j.layer layer) xs ys) ∙ map-append (λ (j : PlacedJoint). (j.a, j.b)) (filter (λ (j : PlacedJoint). leb j.layer layer) xs) _

pub pair_put : (layer : ℕ) (js : List PlacedJoint) (i : ℕ) (j : PlacedJoint) (old new : List (ℕ × ℕ)) → i < length js → j ≡ get_or js i j → leb j.layer layer ≡ true → old ≡ pairs_to layer (take i js) → new ≡ old ++ (j.a, j.b) ∷ []
    → new ≡ pairs_to layer (take (i + 1) js)
unfolding pairs_to
pair_put layer js i j old new l e t o n =
    n
    ∙ (ap (λ xs. xs ++ (j.a, j.b) ∷ []) o
    ∙ (ap (λ s. pairs_to layer (take i js) ++ map (λ (x : PlacedJoint). (x.a, x.b)) (cond s (j ∷ []) [])) (sym t)
    ∙ (sym (pairs_append layer (take i js) (j ∷ [])) ∙ ap (pairs_to layer) (sym (take_more js i j l e)))))

pub pair_left : (layer : ℕ) (js : List PlacedJoint) (i : ℕ) (j : PlacedJoint) (old : List (ℕ × ℕ)) → i < length js → j ≡ get_or js i j → leb j.layer layer ≡ false → old ≡ pairs_to layer (take i js) → old ≡ pairs_to layer (take (i + 1) js)
unfolding pairs_to
pair_left layer js i j old l e t o =
    o
    ∙ (sym (append-nil (pairs_to layer (take i js)))
    ∙ (ap (λ s. pairs_to layer (take i js) ++ map (λ (x : PlacedJoint). (x.a, x.b)) (cond s (j ∷ []) [])) (sym t)
    ∙ (sym (pairs_append layer (take i js) (j ∷ [])) ∙ ap (pairs_to layer) (sym (take_more js i j l e)))))

-- the pairs are of places
pub pairs_small : (n layer : ℕ) (js : List PlacedJoint) → All (λ (j : PlacedJoint). (j.a < n) × (j.b < n)) js → All (λ (p : ℕ × ℕ). (p.0 < n) × (p.1 < n)) (pairs_to layer js)
unfolding pairs_to
pairs_small n layer js a = All-from_recursion (λ (p : ℕ × ℕ). (p.0 < n) × (p.1 < n)) (pairs_to layer js) (go js (recursion_from_All (λ (j : PlacedJoint). (j.a < n) × (j.b < n)) js a))
  where
    go : (js : List PlacedJoint) → AllByRecursion (λ (j : PlacedJoint). (j.a < n) × (j.b < n)) js → AllByRecursion (λ (p : ℕ × ℕ). (p.0 < n) × (p.1 < n)) (map (λ (j : PlacedJoint). (j.a, j.b)) (filter (λ (j : PlacedJoint). leb j.layer layer) js))
    go [] a = tt
    go (j ∷ js) a = pick (leb j.layer layer) (go js a.1)
      where
        pick : (t : Bool) → AllByRecursion (λ (p : ℕ × ℕ). (p.0 < n) × (p.1 < n)) (map (λ (j : PlacedJoint). (j.a, j.b)) (filter (λ (j : PlacedJoint). leb j.layer layer) js))
            → AllByRecursion (λ (p : ℕ × ℕ). (p.0 < n) × (p.1 < n)) (map (λ (j : PlacedJoint). (j.a, j.b)) (cond t (j ∷ filter (λ (j : PlacedJoint). leb j.layer layer) js) (filter (λ (j : PlacedJoint). leb j.layer layer) js)))
        pick true ih = (a.0, ih)
        pick false ih = ih

-- both supervoxels of each joint are among their supervoxels
pub joint_known : (js : List Joint) (i : ℕ) (j : Joint) → i < length js → j ≡ get_or js i j → (has (joint_ids js) j.a ≡ true) × (has (joint_ids js) j.b ≡ true)
unfolding joint_ids
joint_known js i j l e = subst (λ (x : Joint). (has (joint_ids js) x.a ≡ true) × (has (joint_ids js) x.b ≡ true)) (sym e) (All-from_recursion (λ (x : Joint). (has (joint_ids js) x.a ≡ true) × (has (joint_ids js) x.b ≡ true)) js (each js (λ v h. h)) i j l)
  where
    each : (xs : List Joint) → ((v : ℕ) → has (joint_ids xs) v ≡ true → has (joint_ids js) v ≡ true) → AllByRecursion (λ (x : Joint). (has (joint_ids js) x.a ≡ true) × (has (joint_ids js) x.b ≡ true)) xs
    each [] f = tt
    each (x ∷ xs) f = (
      (f x.a (has_head x.a (x.b ∷ joint_ids xs)), f x.b (has_tail x.a (x.b ∷ joint_ids xs) x.b (has_head x.b (joint_ids xs)))),
      each xs (λ v h. f v (has_tail x.a (x.b ∷ joint_ids xs) v (has_tail x.b (joint_ids xs) v h))),
    )

-- so each joint by its places is of places in the list
pub placed_small : (ids : List ℕ) (js : List Joint) → ((v : ℕ) → has (joint_ids js) v ≡ true → has ids v ≡ true) → All (λ (j : PlacedJoint). (j.a < length ids) × (j.b < length ids)) (map (placed ids) js)
unfolding joint_ids
placed_small ids js f = All-from_recursion (λ (j : PlacedJoint). (j.a < length ids) × (j.b < length ids)) (map (placed ids) js) (go js f)
  where
    go : (js : List Joint) → ((v : ℕ) → has (joint_ids js) v ≡ true → has ids v ≡ true) → AllByRecursion (λ (j : PlacedJoint). (j.a < length ids) × (j.b < length ids)) (map (placed ids) js)
    go [] f = tt
    go (j ∷ js) f = (
      ((place_at ids j.a (f j.a (has_head j.a (j.b ∷ joint_ids js)))).0, (place_at ids j.b (f j.b (has_tail j.a (j.b ∷ joint_ids js) j.b (has_head j.b (joint_ids js))))).0),
      go js (λ v h. f v (has_tail j.a (j.b ∷ joint_ids js) v (has_tail j.b (joint_ids js) v h))),
    )

-- the ends of changed pairs are supervoxels of the dataset
pub ends_valid : (d : Dataset) (b : Base) (cs : List Changed) → AllByRecursion (IsSupervoxel d) b.supervoxels → ((u : ℕ) → has (ends cs) u ≡ true → has b.supervoxels u ≡ true)
    → AllByRecursion (λ c. IsSupervoxel d c.pair.a × IsSupervoxel d c.pair.b) cs
unfolding ends
ends_valid d b [] valid f = tt
ends_valid d b (c ∷ cs) valid f = (
  (
    all_has (IsSupervoxel d) b.supervoxels c.pair.a valid (f c.pair.a (has_head c.pair.a (c.pair.b ∷ ends cs))),
    all_has (IsSupervoxel d) b.supervoxels c.pair.b valid (f c.pair.b (has_tail c.pair.a (c.pair.b ∷ ends cs) c.pair.b (has_head c.pair.b (ends cs)))),
  ),
  ends_valid d b cs valid (λ u h. f u (has_tail c.pair.a (c.pair.b ∷ ends cs) u (has_tail c.pair.b (ends cs) u h))),
)
