-- The layers of a uniting entry: what its lists are to `entry_layers`.
use Rattle.std.proofs.Common.{◌≡◌, ◌∙◌, ℕ, ◌+◌, ◌-◌, ◌<◌, ◌≤◌, true, false, List, [], ◌∷◌, length, map, refl, sym, ap, subst, inl, inr, arith}
use Rattle.std.specs.List.{range_with_len}
use Rattle.std.proofs.lemmas.Bool.{cases_lt}
use Rattle.chunk_geometry.proofs.LayerLemmas.{top_low as two_low}
use Rattle.graph_model.specs.Lists.{has, head_or}
use Rattle.graph_model.proofs.ListLemmas.{has_cases, has_head, has_none, has_tail}
use Rattle.op_model.specs.declared.base.Dataset.{Dataset}
use Rattle.op_model.specs.declared.base.Base.{Base}
use Rattle.op_model.specs.declared.entry.Changed.{Changed}
use Rattle.op_model.specs.declared.entry.Entry.{Entry}
use Rattle.op_model.specs.Chunks.{top}
use Rattle.op_model.specs.Labels.{is_empty, touches}
use Rattle.op_model.specs.Legal.{Legal}
use Rattle.op_model.specs.Operations.{ends}
use Rattle.op_model.specs.Valid.{IsAscending, IsDataset}
use Rattle.components.specs.Joining.{AreLeastMembers}
use Rattle.record_rows.specs.Rows.{SupervoxelRow}
use Rattle.record_rows.specs.LogRows.{rows_of}
use Rattle.record_rows.specs.Readings.{ParentImage}
use Rattle.record_rows.proofs.BaseRows.{supervoxel_at}
use Rattle.record_rows.proofs.ImageFacts.{below_few}
use Rattle.layer_laws.specs.Building.{least_leaf}
use Rattle.layer_laws.specs.Levels.{leaves}
use Rattle.layer_laws.proofs.RemakeLemmas.{ends_touch, touches_more}
use Rattle.layer_laws.proofs.StepLemmas.{leaves_one, leaves_self}
use Rattle.layer_laws.proofs.OrderLemmas.{ascending_above, ascending_tail}
use Rattle.node_reader.specs.Spreads.{AreNodes}
use Rattle.entry_rows.specs.Retiring.{AreOnPaths}
use Rattle.entry_parts.specs.Parts.{AreEndsAt, AreFirstsOf}
use Rattle.entry_layers.specs.Layering.{IsEntryList}
use Rattle.unite_laws.specs.Uniting.{HaveState}
use Rattle.united_layers.specs.declared.joints.Joint.{Joint}
use Rattle.united_layers.specs.declared.joints.PlacedJoint.{PlacedJoint}
use Rattle.united_layers.specs.Jointed.{AreJoints, all_joints, joint_ids, pairs_to, placed}
use Rattle.united_layers.specs.Layering.{IsUnitedList}
use Rattle.united_layers.specs.Representing.{AreRepresentatives, JoinRepresentatives}
use Rattle.united_layers.proofs.Jointing.{joints_are}
use Rattle.united_layers.proofs.Listed.{join_them, representatives}
use Rattle.united_layers.proofs.Represented.{lowest_firsts, represented_hold, united_firsts}

legal_some : (d : Dataset) (b : Base) (log : List Entry) → Legal d b log → is_empty log ≡ false
unfolding is_empty
legal_some d b [] legal = absurd legal
legal_some d b (f ∷ log) legal = refl

module _ (d : Dataset) (b : Base) (log : List Entry) (e : Entry) (words ids ends : List ℕ) (joints : List PlacedJoint) (is : IsUnitedList d b log e words ids ends joints) where
  -- with the least leaves of all children
  pub entry_list : IsEntryList d b log e words ids ends
  entry_list = record {
    image = is.image;
    holds = λ layer two high. represented_hold d b is.image.dataset is.image.base e log (legal_some d b log is.image.legal) is.active ids is.represent layer two high;
    ends_at = is.ends_at;
  }

  -- the components of a layer are its least leaves
  pub firsts_here : (layer : ℕ) → 2 ≤ layer → layer ≤ top d → (pairs : List (ℕ × ℕ)) (lows : List ℕ) → pairs ≡ pairs_to layer joints → AreLeastMembers (length ids) pairs lows → AreFirstsOf d b (e ∷ log) ids layer lows
  firsts_here layer two high pairs lows q labels =
      united_firsts d b is.image.dataset is.image.base e log is.active ids is.represent layer two high (pairs_to layer joints) (is.join layer two high) lows
      (subst (λ ps. AreLeastMembers (length ids) ps lows) q labels)

  pub firsts_lowest : (lows : List ℕ) → lows ≡ range_with_len 0 (length ids) → AreFirstsOf d b (e ∷ log) ids 1 lows
  firsts_lowest lows q = lowest_firsts d b is.image.dataset is.image.base e log is.active ids is.represent lows q

-- an ascending list of members of another one is no longer
sub_length : (xs ys : List ℕ) → IsAscending xs → IsAscending ys → ((v : ℕ) → has xs v ≡ true → has ys v ≡ true) → length xs ≤ length ys
sub_length [] ys a c f = omega arith
sub_length (x ∷ xs) [] a c f = has_none x (f x (has_head x xs))
sub_length (x ∷ xs) (y ∷ ys) a c f =
    elim (has_cases y ys x (f x (has_head x xs))) [
      | inl e ↦
          let l = sub_length xs ys (ascending_tail x xs a) (ascending_tail y ys c) (λ v h.
          elim (has_cases y ys v (f v (has_tail x xs v h))) [ inl q ↦ (let m = ascending_above xs x v a h in absurd (omega (arith, m, e, q))) | inr k ↦ k ]) in
          omega (arith, l)
      | inr k ↦
          let n = ascending_above ys y x c k in
          let l = sub_length (x ∷ xs) ys a (ascending_tail y ys c) (λ v h.
          elim (has_cases y ys v (f v h)) [
            | inl q ↦ elim (has_cases x xs v h) [ inl r ↦ absurd (omega (arith, n, q, r)) | inr s ↦ (let m = ascending_above xs x v a s in absurd (omega (arith, m, n, q))) ]
            | inr s ↦ s
          ]) in
          omega (arith, l)
    ]

few_supervoxels : (d : Dataset) (b : Base) (log : List Entry) (words : List ℕ) (i : ParentImage d b log words) → length b.supervoxels < 16777216
few_supervoxels d b log words i = elim (cases_lt 0 (length b.supervoxels)) [
  | inl some ↦
      let k : ℕ = length b.supervoxels - 1 in
      let l = below_few d b log words i (1 + k) (SupervoxelRow _) (supervoxel_at d b log words i k (omega arith)) in
      omega (arith, l)
  | inr none ↦ omega (arith, none)
]

-- at the places of paths stand nodes
pub path_nodes : (d : Dataset) (b : Base) (log : List Entry) (e : Entry) (places : List ℕ) → AreOnPaths d b log e places → AreNodes d b log places
path_nodes d b log e places on = go places (λ p h. h)
  where
    go : (ps : List ℕ) → ((p : ℕ) → has ps p ≡ true → has places p ≡ true) → AreNodes d b log ps
    go [] f = tt
    go (p ∷ ps) f = (let g = on.given p (f p (has_head p ps)) in (g.2, g.5), go ps (λ q h. f q (has_tail p ps q h)))

-- an end is a representative, as the child of its node of layer 2
end_held : (d : Dataset) (b : Base) (valid : IsDataset d) (cs : List Changed) (log : List Entry) (ids : List ℕ) → AreRepresentatives d b cs log ids → ((u : ℕ) → has (ends cs) u ≡ true → has b.supervoxels u ≡ true)
    → (v : ℕ) → has (ends cs) v ≡ true → has ids v ≡ true
unfolding least_leaf top head_or
end_held d b valid cs log ids r known v h =
    let hv = known v h in
    let t : touches cs (leaves d b log 2 v) ≡ true =
    touches_more cs (v ∷ []) (leaves d b log 2 v) (λ y g. elim (has_cases v [] y g) [ inl q ↦ subst (λ z. has (leaves d b log 2 v) z ≡ true) q (leaves_self d b valid.layout log 2 v hv) | inr n ↦ has_none y n ]) (sym (ends_touch cs v) ∙ h) in
    subst (λ x. has ids x ≡ true) (ap (head_or v) (leaves_one d b valid.layout log 1 v (omega arith))) (r.children 2 v (omega arith) (two_low d.grid) hv t)

-- what is read of the retired nodes
module _ (d : Dataset) (b : Base) (e : Entry) (words places : List ℕ) (changed : List Changed) (active : HaveState true changed) (told : e.changed ≡ changed) (ids : List ℕ) (up : IsAscending ids) where
  -- the list is what the layers are made from
  pub united_list : (log : List Entry) → ParentImage d b log words → AreOnPaths d b log e places → (read : List Joint) → read ≡ all_joints d (rows_of d b log) places changed → ((v : ℕ) → has ids v ≡ has (joint_ids read) v)
      → (ends : List ℕ) → AreEndsAt ids changed ends → (list : List PlacedJoint) → list ≡ map (placed ids) read → IsUnitedList d b log e words ids ends list
  united_list [] image on read joints_told same ends at list q = absurd image.legal
  united_list (f ∷ older) image on read joints_told same ends at list q =
      let are = subst (λ js. AreJoints d b e.changed (f ∷ older) js) (sym (joints_told ∙ ap (all_joints d (rows_of d b (f ∷ older)) places) (sym told))) (joints_are d b image.dataset image.base e f older image.legal places on) in
      record {
        image = image;
        active = subst (HaveState true) (sym told) active;
        represent = representatives d b image.dataset image.base e.changed (f ∷ older) read are ids up same;
        join = λ layer two high. subst (λ js. JoinRepresentatives d b e.changed (f ∷ older) ids layer (pairs_to layer js)) (sym q) (join_them d b image.dataset image.base e.changed (f ∷ older) read are ids up same layer high);
        ends_at = subst (λ cs. AreEndsAt ids cs ends) (sym told) at;
      }

  -- it is short, and has the ends of the changed pairs
  pub list_few : (log : List Entry) → ParentImage d b log words → AreOnPaths d b log e places → (read : List Joint) → read ≡ all_joints d (rows_of d b log) places changed → ((v : ℕ) → has ids v ≡ has (joint_ids read) v) → length ids < 4294967296
  list_few [] image on read joints_told same = absurd image.legal
  list_few (f ∷ older) image on read joints_told same =
      let are = subst (λ js. AreJoints d b e.changed (f ∷ older) js) (sym (joints_told ∙ ap (all_joints d (rows_of d b (f ∷ older)) places) (sym told))) (joints_are d b image.dataset image.base e f older image.legal places on) in
      let r = representatives d b image.dataset image.base e.changed (f ∷ older) read are ids up same in
      let l = sub_length ids b.supervoxels up image.base.ascending r.known in
      let m = few_supervoxels d b (f ∷ older) words image in
      omega (arith, l, m)

  pub list_ends : (log : List Entry) → ParentImage d b log words → AreOnPaths d b log e places → (read : List Joint) → read ≡ all_joints d (rows_of d b log) places changed → ((v : ℕ) → has ids v ≡ has (joint_ids read) v)
      → (v : ℕ) → has (ends changed) v ≡ true → has ids v ≡ true
  list_ends [] image on read joints_told same v h = absurd image.legal
  list_ends (f ∷ older) image on read joints_told same v h =
      let are = subst (λ js. AreJoints d b e.changed (f ∷ older) js) (sym (joints_told ∙ ap (all_joints d (rows_of d b (f ∷ older)) places) (sym told))) (joints_are d b image.dataset image.base e f older image.legal places on) in
      let r = representatives d b image.dataset image.base e.changed (f ∷ older) read are ids up same in
      end_held d b image.dataset e.changed (f ∷ older) ids r on.known v (subst (λ cs. has (ends cs) v ≡ true) (sym told) h)
