-- An end of a changed pair is joined to each supervoxel of a root that an entry made, before the entry and after it.
use Rattle.std.proofs.Common.{◌≡◌, ℕ, true, false, List, [], ◌∷◌, ◌++◌, length, map, refl, sym, ◌∙◌, ap, ap₂, subst, inl, inr, arith}
use Rattle.std.proofs.lemmas.Bool.{cases_Bool}
use Rattle.op_model.specs.declared.base.Dataset.{Dataset}
use Rattle.op_model.specs.declared.base.Base.{Base}
use Rattle.op_model.specs.declared.entry.Changed.{Changed}
use Rattle.op_model.specs.declared.entry.Entry.{Entry}
use Rattle.graph_model.specs.Lists.{has}
use Rattle.graph_model.specs.Components.{Inside}
use Rattle.graph_model.specs.Walks.{IsWalk, Reaches}
use Rattle.graph_model.proofs.ListLemmas.{has_none, has_cases, has_head}
use Rattle.graph_model.proofs.Walks.{reach_self, reach_one, reach_more}
use Rattle.op_model.specs.Edges.{linked, edges_after}
use Rattle.op_model.specs.Chunks.{chunk, members, top}
use Rattle.op_model.specs.Labels.{is_empty, edges, Joined, component, is_new, node, root}
use Rattle.op_model.specs.declared.entry.Asked.TheVariants as asked
use Rattle.op_model.specs.Operations.{ascending, change, ends, entry_of, first_entry, next_entry}
use Rattle.op_model.specs.Legal.{Legal}
use Rattle.op_model.specs.Valid.{IsDataset, IsBase}
use Rattle.op_model.proofs.EdgeLemmas.{linked_put_changed}
use Rattle.op_model.proofs.LabelLemmas.{label_new, label_used, own_component, rank_bounds}
use Rattle.op_model.proofs.LocalLemmas.{joined_root, retired_are, root_joined, top_in_layers}
use Rattle.op_model.proofs.HistoryLemmas.{legal_prefix, node_stays}
use Rattle.op_model.proofs.KnownLemmas.{legal_known}
use Rattle.op_model.proofs.MadeLemmas.{ascending_only, ends_known, map_only, root_same}
use Rattle.layer_laws.proofs.RemakeLemmas.{ends_touch, touches_more}

map_same : (f g : ℕ → ℕ) → ((x : ℕ) → f x ≡ g x) → (xs : List ℕ) → map f xs ≡ map g xs
map_same f g h [] = refl
map_same f g h (x ∷ xs) = ap₂ (λ y ys. y ∷ ys) (h x) (map_same f g h xs)

module _ (d : Dataset) (b : Base) (valid : IsDataset d) (base : IsBase d b) where
  -- an entry behind others made the roots of its pairs' ends after it
  pub made_roots : (e f : Entry) (log : List Entry) → Legal d b (e ∷ f ∷ log) → ascending (map (root d b (e ∷ f ∷ log)) (ends e.changed)) ≡ e.made
  unfolding next_entry entry_of
  made_roots e f log legal =
      let q = legal.0.2 in
      let cs : List Changed = change d b (f ∷ log) legal.0.0 in
      let bare : Entry = record { number = length (f ∷ log); client = e.client; line = e.line; at = e.at; asked = asked.Edit legal.0.0; changed = cs; retired = []; made = [] } in
      let c : e.changed ≡ cs = ap (λ x. x.changed) q in
      ap (λ ds. ascending (map (root d b (e ∷ f ∷ log)) (ends ds))) c
      ∙ (ap ascending (map_same (root d b (e ∷ f ∷ log)) (root d b (bare ∷ f ∷ log)) (λ u. root_same d b e bare (f ∷ log) u c) (ends cs))
      ∙ sym (ap (λ x. x.made) q))

  -- the ends of an entry's changed pairs are supervoxels
  pub known_end : (e : Entry) (log : List Entry) (u : ℕ) → Legal d b (e ∷ log) → has (ends e.changed) u ≡ true → has b.supervoxels u ≡ true
  known_end e log u legal h = ends_known b e.changed u (legal_known d b base (e ∷ log) legal).0.0 h

  -- a root that an entry made is that of an end after it
  pub made_end : (e f : Entry) (log : List Entry) (s : ℕ) → Legal d b (e ∷ f ∷ log) → has e.made s ≡ true → (u : ℕ) × (has (ends e.changed) u ≡ true) × (root d b (e ∷ f ∷ log) u ≡ s)
  made_end e f log s legal h =
      map_only (root d b (e ∷ f ∷ log)) (ends e.changed) s (ascending_only _ s (subst (λ xs. has xs s ≡ true) (sym (made_roots e f log legal)) h))

  -- and one that it retired is that of an end before it
  pub retired_end : (e f : Entry) (log : List Entry) (r : ℕ) → Legal d b (e ∷ f ∷ log) → has e.retired r ≡ true → (u : ℕ) × (has (ends e.changed) u ≡ true) × (root d b (f ∷ log) u ≡ r)
  retired_end e f log r legal h =
      map_only (root d b (f ∷ log)) (ends e.changed) r (ascending_only _ r (subst (λ xs. has xs r ≡ true) (retired_are d b e f log legal) h))

  -- a link from a supervoxel that is no end was there before the entry
  link_stays : (e : Entry) (log : List Entry) (v w : ℕ) → has (ends e.changed) v ≡ false → linked (edges d b (e ∷ log)) v w ≡ true → linked (edges d b log) v w ≡ true
  unfolding edges edges_after
  link_stays e log v w n l = sym (linked_put_changed d.merge_affinity e.changed (edges d b log) (v ∷ []) v w (sym (ends_touch e.changed v) ∙ n) (has_head v [])) ∙ l

  -- along a walk to an end, the first end is joined to where the walk begins, before the entry and after it
  module _ (e : Entry) (log : List Entry) (all : List ℕ) where
    abbrev Now : ℕ → ℕ → Type 0
    Now = Inside (linked (edges d b (e ∷ log))) all

    abbrev Before : ℕ → ℕ → Type 0
    Before = Inside (linked (edges d b log)) all

    first_end : (ws : List ℕ) (v u : ℕ) → IsWalk Now v ws u → has (ends e.changed) u ≡ true → (x : ℕ) × (has (ends e.changed) x ≡ true) × Reaches Now v x × Reaches Before v x
    first_end [] v u k h = (v, subst (λ z. has (ends e.changed) z ≡ true) (sym k) h, reach_self Now v, reach_self Before v)
    first_end (w ∷ ws) v u k h = elim (cases_Bool (has (ends e.changed) v)) [
      | inl t ↦ (v, t, reach_self Now v, reach_self Before v)
      | inr n ↦
          let r = first_end ws w u k.1 h in
          let old : Before v w = (link_stays e log v w n k.0.0, k.0.1) in
          (r.0, r.1, reach_more Now v w r.0 (reach_one Now v w k.0) r.2, reach_more Before v w r.0 (reach_one Before v w old) r.3)
    ]

  -- so each supervoxel of a root that an entry made has an end with the same roots, before the entry and after it
  pub near_end : (e f : Entry) (log : List Entry) (v : ℕ) → Legal d b (e ∷ f ∷ log) → has b.supervoxels v ≡ true → has e.made (root d b (e ∷ f ∷ log) v) ≡ true
      → (u : ℕ) × (has (ends e.changed) u ≡ true) × (root d b (f ∷ log) u ≡ root d b (f ∷ log) v) × (root d b (e ∷ f ∷ log) u ≡ root d b (e ∷ f ∷ log) v)
  near_end e f log v legal h m =
      let s = made_end e f log (root d b (e ∷ f ∷ log) v) legal m in
      let j : Joined d b (e ∷ f ∷ log) (top d) v s.0 = root_joined d b e (f ∷ log) v s.0 valid.layout legal h (known_end e (f ∷ log) s.0 legal s.1) (sym s.2) in
      let x = first_end e (f ∷ log) (members d b (top d) (chunk d (top d) v)) j.1.0 v s.0 j.1.1 s.1 in
      (x.0, x.1, sym (joined_root d b f log v x.0 valid.layout legal.1 h (j.0, x.3)), sym (joined_root d b e (f ∷ log) v x.0 valid.layout legal h (j.0, x.2)))

  -- an entry gives each end a new node
  end_new : (g f : Entry) (older : List Entry) (w : ℕ) → has b.supervoxels w ≡ true → has (ends g.changed) w ≡ true → is_new d b (g ∷ f ∷ older) (top d) w ≡ true
  unfolding is_new is_empty
  end_new g f older w h k =
      touches_more g.changed (w ∷ []) (component d b (g ∷ f ∷ older) (top d) w)
      (λ x q. elim (has_cases w [] x q) [ inl p ↦ subst (λ z. has (component d b (g ∷ f ∷ older) (top d) w) z ≡ true) p (own_component d b (g ∷ f ∷ older) (top d) w h) | inr n ↦ has_none x n ])
      (sym (ends_touch g.changed w) ∙ k)

  end_moves : (g f : Entry) (older : List Entry) (w : ℕ) → has b.supervoxels w ≡ true → has (ends g.changed) w ≡ true → node d b (g ∷ f ∷ older) (top d) w ≡ node d b (f ∷ older) (top d) w → ⊥
  unfolding node
  end_moves g f older w h k q =
      let n = end_new g f older w h k in
      let l = label_new d b g (f ∷ older) (top d) w n in
      let r = (rank_bounds d b (g ∷ f ∷ older) (top d) w h n).0 in
      let o = label_used d b (f ∷ older) (top d) w h in
      omega (arith, q, l, r, o)

  -- a root that was retired is no supervoxel's root any more
  pub gone : (newer : List Entry) (g : Entry) (older : List Entry) (r u : ℕ) → Legal d b (newer ++ g ∷ older) → has g.retired r ≡ true → has b.supervoxels u ≡ true → root d b (newer ++ g ∷ older) u ≡ r → ⊥
  unfolding root first_entry
  gone newer g [] r u legal h hu q =
      let l = legal_prefix d b newer g [] legal in
      has_none r (subst (λ xs. has xs r ≡ true) (ap (λ x. x.retired) l.0) h)
  gone newer g (f ∷ older) r u legal h hu q =
      let l = legal_prefix d b newer g (f ∷ older) legal in
      let w = retired_end g f older r l h in
      let hw = known_end g (f ∷ older) w.0 l w.1 in
      let s = node_stays d b newer (g ∷ []) f older (top d) w.0 u valid.layout legal (top_in_layers d) hw hu (w.2 ∙ sym q) in
      end_moves g f older w.0 hw w.1 s.0
