-- Walks from a supervoxel of a part stay in it, so it has the nodes of the whole base.
use Rattle.std.proofs.Common.{◌≡◌, ℕ, Bool, true, leb, List, [], ◌∷◌, get_or, sym, ◌∙◌, ap, subst, cond, IsTrue}
use Rattle.op_model.specs.declared.base.Dataset.{Dataset}
use Rattle.op_model.specs.declared.base.Base.{Base}
use Rattle.op_model.specs.declared.entry.Entry.{Entry}
use Rattle.graph_model.specs.Lists.{has, head_or}
use Rattle.graph_model.specs.Components.{Inside, Joined as JoinedBy, component_of}
use Rattle.graph_model.proofs.Walks.{reach_under}
use Rattle.graph_model.proofs.Components.{Joined_last, component_joined}
use Rattle.op_model.specs.Chunks.{chunk, members}
use Rattle.op_model.specs.Edges.{edges_after, linked, put_changed}
use Rattle.op_model.specs.Ingest.{ingested}
use Rattle.op_model.specs.Labels.{component, edges}
use Rattle.op_model.specs.Operations.{first_entry}
use Rattle.op_model.specs.Valid.{IsAscending, IsBase}
use Rattle.op_model.proofs.LabelLemmas.{in_members, members_in}
use Rattle.layer_laws.specs.Building.{AreLeastLeaves, least_leaf}
use Rattle.layer_laws.specs.Levels.{leaves}
use Rattle.layer_laws.proofs.OrderLemmas.{filter_ascending, get_has, members_ascending, same_ascending}
use Rattle.layer_laws.proofs.Repeated.{component_filter}
use Rattle.entry_parts.specs.Parts.{AreFirstsOf, IsPart, IsWhole}

component_ascending : (linked : ℕ → ℕ → Bool) (all : List ℕ) (u : ℕ) → IsAscending all → IsAscending (component_of linked all u)
component_ascending linked all u a =
    let f = component_filter linked all u in subst (λ xs. IsAscending xs) (sym f.1) (filter_ascending f.0 all a)

module _ (d : Dataset) (b : Base) (base : IsBase d b) (log : List Entry) (part : Base) (is : IsPart d b log part) where
  abbrev one : ℕ → ℕ → Bool
  one = linked (edges d part [])

  abbrev other : ℕ → ℕ → Bool
  other = linked (edges d b log)

  module _ (layer c : ℕ) where
    abbrev P : ℕ → Type 0
    P x = has part.supervoxels x ≡ true

    into : (u v : ℕ) → Inside one (members d part layer c) u v → P u → Inside other (members d b layer c) u v × P v
    into u v s p =
        let m = members_in d part layer c v s.1 in
        ((sym (is.same u v p m.0) ∙ s.0, in_members d b layer c v (is.known v m.0) m.1), m.0)

    back : (u v : ℕ) → Inside other (members d b layer c) u v → P u → Inside one (members d part layer c) u v × P v
    back u v s p =
        let q : P v = is.closed u v p s.0 in
        ((is.same u v p q ∙ s.0, in_members d part layer c v q (members_in d b layer c v s.1).1), q)

    joined_into : (u v : ℕ) → JoinedBy one (members d part layer c) u v → JoinedBy other (members d b layer c) u v
    joined_into u v j =
        let m = members_in d part layer c u j.0 in
        (in_members d b layer c u (is.known u m.0) m.1, reach_under (Inside one (members d part layer c)) (Inside other (members d b layer c)) P into u v j.1 m.0)

    joined_back : (u v : ℕ) → P u → JoinedBy other (members d b layer c) u v → JoinedBy one (members d part layer c) u v
    joined_back u v p j =
        (in_members d part layer c u p (members_in d b layer c u j.0).1, reach_under (Inside other (members d b layer c)) (Inside one (members d part layer c)) P back u v j.1 p)

    found : (u : ℕ) → P u → component_of one (members d part layer c) u ≡ component_of other (members d b layer c) u
    found u p =
        same_ascending (component_of one (members d part layer c) u) (component_of other (members d b layer c) u)
        (component_ascending one (members d part layer c) u (members_ascending d part is.base.ascending layer c))
        (component_ascending other (members d b layer c) u (members_ascending d b base.ascending layer c))
        (λ w h. (component_joined other (members d b layer c) u w).1 (joined_into u w ((component_joined one (members d part layer c) u w).0 h)))
        (λ w h. (component_joined one (members d part layer c) u w).1 (joined_back u w p ((component_joined other (members d b layer c) u w).0 h)))

  pub told_nodes : (now layer v : ℕ) → IsTrue (has part.supervoxels v) → component d part (ingested d part now) layer v ≡ component d b log layer v
  unfolding component edges edges_after put_changed first_entry
  told_nodes now layer v p = found layer (chunk d layer v) v p

  -- what is joined to a supervoxel of the part is in it
  joined_in : (layer v w : ℕ) → IsTrue (has part.supervoxels v) → IsTrue (has (component d b log layer v) w) → IsTrue (has part.supervoxels w)
  unfolding component
  joined_in layer v w p h =
      let c : ℕ = chunk d layer v in
      let j = joined_back layer c v w p ((component_joined other (members d b layer c) v w).0 h) in
      (members_in d part layer c w (Joined_last one (members d part layer c) v w j)).0

  pub whole : IsWhole d b log part.supervoxels
  whole = record { ascending = is.base.ascending; known = is.known; whole = joined_in }

  same_least : (now layer v : ℕ) → IsTrue (has part.supervoxels v) → least_leaf d part (ingested d part now) layer v ≡ least_leaf d b log layer v
  unfolding least_leaf leaves
  same_least now layer v p = ap (λ xs. head_or v (cond (leb layer 1) (v ∷ []) xs)) (told_nodes now layer v p)

  pub told_firsts : (now layer : ℕ) (firsts : List ℕ) → AreLeastLeaves d part (ingested d part now) layer firsts → AreFirstsOf d b log part.supervoxels layer firsts
  told_firsts now layer firsts are = record {
    count = are.count;
    small = are.small;
    leaf = λ i l. are.leaf i l ∙ same_least now layer (get_or part.supervoxels i 0) (get_has part.supervoxels i l);
  }
