-- Inner: no clause of `run` is made of it.
-- The joints that nodes and changed pairs give: pairs of supervoxels, and the layers from which on they are of one node.
use Rattle.std.specs.Prelude.{ℕ, ◌-◌, ◌≤◌, ◌==◌, ◌&&◌, nat_le, Bool, IsTrue, List, [], ◌∷◌, ◌++◌, map}
use Rattle.std.specs.List.{AllByRecursion, filter, flat_map, list_any, slice_get}
use Rattle.std.specs.Option.{option_map_or}
use Rattle.node_ids.specs.Ids.{parts_of}
use Rattle.graph_model.specs.Lists.{has, head_or}
use Rattle.op_model.specs.declared.base.Dataset.{Dataset}
use Rattle.op_model.specs.declared.base.Base.{Base}
use Rattle.op_model.specs.declared.entry.Changed.{Changed}
use Rattle.op_model.specs.declared.entry.Entry.{Entry}
use Rattle.op_model.specs.Chunks.{top}
use Rattle.op_model.specs.Labels.{touches}
use Rattle.record_rows.specs.Rows.{Row, NodeRow, Node}
use Rattle.record_rows.specs.Walks.{children_in}
use Rattle.layer_laws.specs.Building.{least_leaf}
use Rattle.layer_laws.specs.Levels.{leaves, level}
use Rattle.octree_layers.specs.Places.{place_of}
use Rattle.node_reader.specs.Spreads.{id_leaves}
use Rattle.unite_laws.specs.Uniting.{unites}
use Rattle.united_layers.specs.declared.joints.Joint.{Joint}
use Rattle.united_layers.specs.declared.joints.PlacedJoint.{PlacedJoint}
use Rattle.united_layers.specs.Representing.{IsOwn}

-- the joint of a node with one of its children, by their least leaves
abbrev pub node_joint : Dataset → List Row → Node → ℕ → Joint
node_joint d rows n c = record { layer = (parts_of d.layout n.id).layer; a = head_or 0 n.leaves; b = head_or 0 (id_leaves rows c) }

-- those of a node's record
unfoldable pub row_joints : Dataset → List Row → Row → List Joint
row_joints d rows (NodeRow n) = map (node_joint d rows n) (children_in rows n.id)
row_joints d rows row = []

unfoldable pub place_joints : Dataset → List Row → ℕ → List Joint
place_joints d rows place = option_map_or (row_joints d rows) (slice_get rows place) []

-- that of a changed pair, whose layer is its level
abbrev pub pair_joint : Dataset → Changed → Joint
pair_joint d c = record { layer = level d c.pair.a c.pair.b; a = c.pair.a; b = c.pair.b }

-- those of the nodes at some places, and of the changed pairs
abbrev pub all_joints : Dataset → List Row → List ℕ → List Changed → List Joint
all_joints d rows places changed = flat_map (place_joints d rows) places ++ map (pair_joint d) changed

-- their supervoxels
unfoldable pub joint_ids : List Joint → List ℕ
joint_ids joints = flat_map (λ j. j.a ∷ j.b ∷ []) joints

-- by their places in a list
abbrev pub placed : List ℕ → Joint → PlacedJoint
placed ids j = record { layer = j.layer; a = place_of ids j.a; b = place_of ids j.b }

-- those of the layers up to this one, as pairs of places
unfoldable pub pairs_to : ℕ → List PlacedJoint → List (ℕ × ℕ)
pairs_to layer joints = map (λ j. (j.a, j.b)) (filter (λ j. nat_le j.layer layer) joints)

-- whether this is the joint
abbrev pub is_joint : ℕ → ℕ → ℕ → Joint → Bool
is_joint layer u v j = j.layer == layer && (j.a == u && j.b == v)

module _ (d : Dataset) (b : Base) (changed : List Changed) (log : List Entry) where
  -- what holds of each: it is of two supervoxels that a changed pair unites, or one node does, and of representatives
  pub record IsJoint (j : Joint) : Type 0 where
    pub high : 2 ≤ j.layer
    pub known_a : IsTrue (has b.supervoxels j.a)
    pub known_b : IsTrue (has b.supervoxels j.b)
    pub united : IsTrue (unites d b changed log j.layer j.a j.b)
    pub own_a : IsOwn d b changed log j.a
    pub own_b : IsOwn d b changed log j.b

  -- and there is one for each child of a node that a changed pair touches, and for each changed pair
  pub record AreJoints (joints : List Joint) : Type 0 where
    pub given : AllByRecursion IsJoint joints
    pub nodes :
        (l v : ℕ) → 2 ≤ l → l ≤ top d → IsTrue (has b.supervoxels v) → IsTrue (touches changed (leaves d b log l v))
        → IsTrue (list_any (is_joint l (least_leaf d b log l v) (least_leaf d b log (l - 1) v)) joints)
    pub pairs : AllByRecursion (λ c. IsTrue (list_any (is_joint (level d c.pair.a c.pair.b) c.pair.a c.pair.b) joints)) changed
