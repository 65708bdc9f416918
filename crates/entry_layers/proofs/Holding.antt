-- A list of supervoxels with all that is joined to them has the least leaves of all children of the nodes that an entry makes.
use Rattle.std.proofs.Common.{◌≡◌, ◌∙◌, ℕ, ◌-◌, ◌<◌, ◌≤◌, true, List, [], ◌∷◌, length, map, get_or, sym, ap, subst, inl, inr, arith}
use Rattle.std.proofs.lemmas.Bool.{cases_lt}
use Rattle.std.proofs.lemmas.List.Elements.{recursion_from_All}
use Rattle.graph_model.specs.Lists.{has, head_or}
use Rattle.op_model.specs.declared.base.Base.{Base}
use Rattle.op_model.specs.declared.base.Dataset.{Dataset}
use Rattle.op_model.specs.declared.entry.Entry.{Entry}
use Rattle.op_model.specs.Labels.{component, is_empty, is_new, touches}
use Rattle.op_model.specs.Legal.{Legal}
use Rattle.op_model.specs.Valid.{IsBase, IsDataset}
use Rattle.op_model.proofs.LabelLemmas.{own_component, same_component}
use Rattle.op_model.proofs.LegalLemmas.{all_has}
use Rattle.op_model.proofs.MadeLemmas.{map_only}
use Rattle.record_rows.proofs.LinkLemmas.{of_component}
use Rattle.layer_laws.specs.Building.{at, least_leaf}
use Rattle.layer_laws.specs.Levels.{leaves}
use Rattle.layer_laws.proofs.BuildLemmas.{leaf_in}
use Rattle.layer_laws.proofs.OrderLemmas.{get_has}
use Rattle.layer_laws.proofs.RemakeLemmas.{ends_touch, touches_end}
use Rattle.layer_laws.proofs.StepLemmas.{leaves_node, leaves_one}
use Rattle.entry_parts.specs.Parts.{AreEndsAt, IsWhole}
use Rattle.child_counts.specs.Counting.{HoldsChildren}

module _ (d : Dataset) (b : Base) (valid : IsDataset d) (base : IsBase d b) (e : Entry) where
  pub whole_holds : (log : List Entry) → Legal d b log → (layer : ℕ) → 2 ≤ layer → (ids places : List ℕ) → IsWhole d b (e ∷ log) ids → AreEndsAt ids e.changed places → HoldsChildren d b (e ∷ log) layer ids
  unfolding is_new is_empty least_leaf head_or
  whole_holds [] legal layer two ids places is ends = absurd legal
  whole_holds (f ∷ older) legal layer two ids places is ends = record { ascending = is.ascending; known = is.known; children = children }
    where
      low_place : (p : ℕ) → has places p ≡ true → p < length ids
      low_place p h = all_has (λ q. q < length ids) places p (recursion_from_All (λ q. q < length ids) places ends.small) h

      -- a new node's leaves are in the list
      inside : (v : ℕ) → has b.supervoxels v ≡ true → is_new d b (e ∷ f ∷ older) layer v ≡ true → has ids v ≡ true
      inside v hv n =
          let t = touches_end e.changed (component d b (e ∷ f ∷ older) layer v) n in
          let x : ℕ = t.0 in
          let m = map_only (at ids) places x ((ends.all x).0 (ends_touch e.changed x ∙ t.2)) in
          let hx : has ids x ≡ true = subst (λ y. has ids y ≡ true) m.2 (get_has ids m.0 (low_place m.0 m.1)) in
          let c = of_component d b valid base (e ∷ f ∷ older) layer v x t.1 in
          let same = same_component d b (e ∷ f ∷ older) layer v x c.1 c.2 in
          is.whole layer x v hx (subst (λ ls. has ls v ≡ true) same (own_component d b (e ∷ f ∷ older) layer v hv))

      children : (v : ℕ) → has b.supervoxels v ≡ true → is_new d b (e ∷ f ∷ older) layer v ≡ true → has ids (least_leaf d b (e ∷ f ∷ older) (layer - 1) v) ≡ true
      children v hv n = elim (cases_lt 1 (layer - 1)) [
        | inl m ↦
            is.whole (layer - 1) v (least_leaf d b (e ∷ f ∷ older) (layer - 1) v) (inside v hv n)
            (subst (λ ls. has ls (least_leaf d b (e ∷ f ∷ older) (layer - 1) v) ≡ true) (leaves_node d b valid.layout (e ∷ f ∷ older) (layer - 1) v (omega (arith, m)))
            (leaf_in d b valid.layout base.ascending (e ∷ f ∷ older) (layer - 1) v hv))
        | inr m ↦ subst (λ x. has ids x ≡ true) (sym (ap (head_or v) (leaves_one d b valid.layout (e ∷ f ∷ older) (layer - 1) v (omega (arith, m))))) (inside v hv n)
      ]
