-- The roots that each entry of a legal log made, and those that it left alone.
use Rattle.std.proofs.Common.{◌≡◌, ℕ, true, false, List, [], ◌∷◌, map, sym, ◌∙◌, ap, subst, inl, inr}
use Rattle.std.proofs.lemmas.Bool.{false_from_ne_true}
use Rattle.op_model.specs.declared.base.Dataset.{Dataset}
use Rattle.op_model.specs.declared.base.Base.{Base}
use Rattle.op_model.specs.declared.entry.Entry.{Entry}
use Rattle.op_model.specs.declared.entry.Asked.TheVariants as asked
use Rattle.graph_model.specs.Lists.{has}
use Rattle.graph_model.proofs.ListLemmas.{contra, has_cases, has_none}
use Rattle.op_model.specs.Chunks.{top}
use Rattle.op_model.specs.Labels.{Joined, component, joined, root, touches}
use Rattle.op_model.specs.Operations.{ascending, ends, first_entry}
use Rattle.op_model.specs.Valid.{IsDataset, IsBase}
use Rattle.op_model.specs.Legal.{Legal}
use Rattle.op_model.proofs.LabelLemmas.{joined_iff, kept}
use Rattle.op_model.proofs.LegalLemmas.{ascending_has, map_has}
use Rattle.op_model.proofs.LocalLemmas.{component_Joined, joined_root, root_joined, root_kept, touches_end}
use Rattle.op_model.proofs.MadeLemmas.{ascending_only, map_only, root_same}
use Rattle.layer_laws.proofs.RemakeLemmas.{ends_touch, touches_more}
use Rattle.change_laws.proofs.NearEnds.{known_end, made_roots, retired_end}

-- what the first entry is but for the roots that it made
abbrev ingest : ℕ → Entry
ingest at = record { number = 0; client = 0; line = 0; at = at; asked = asked.Ingest; changed = []; retired = []; made = [] }

module _ (d : Dataset) (b : Base) where
  -- the first entry made all roots
  pub first_roots : (e : Entry) → Legal d b (e ∷ []) → e.made ≡ ascending (map (root d b (ingest e.at ∷ [])) b.supervoxels)
  unfolding first_entry
  first_roots e legal = ap (λ x. x.made) legal.0

  -- and retired none
  pub first_retires : (e : Entry) → Legal d b (e ∷ []) → e.retired ≡ []
  unfolding first_entry
  first_retires e legal = ap (λ x. x.retired) legal.0

  root_first : (e : Entry) (v : ℕ) → Legal d b (e ∷ []) → root d b (e ∷ []) v ≡ root d b (ingest e.at ∷ []) v
  unfolding first_entry
  root_first e v legal = root_same d b e (ingest e.at) [] v (ap (λ x. x.changed) legal.0)

  pub first_made : (e : Entry) (v : ℕ) → Legal d b (e ∷ []) → has b.supervoxels v ≡ true → has e.made (root d b (e ∷ []) v) ≡ true
  first_made e v legal hv =
      let first = root d b (ingest e.at ∷ []) in
      let all : List ℕ = ascending (map first b.supervoxels) in
      subst (λ xs. has xs (root d b (e ∷ []) v) ≡ true) (sym (first_roots e legal))
      (subst (λ x. has all x ≡ true) (sym (root_first e v legal)) (ascending_has (map first b.supervoxels) (first v) (map_has first b.supervoxels v hv)))

  pub first_made_root : (e : Entry) (r : ℕ) → Legal d b (e ∷ []) → has e.made r ≡ true → (v : ℕ) × (has b.supervoxels v ≡ true) × (root d b (e ∷ []) v ≡ r)
  first_made_root e r legal h =
      let first = root d b (ingest e.at ∷ []) in
      let v = map_only first b.supervoxels r (ascending_only (map first b.supervoxels) r (subst (λ xs. has xs r ≡ true) (first_roots e legal) h)) in
      (v.0, v.1, root_first e v.0 legal ∙ v.2)

module _ (d : Dataset) (b : Base) (valid : IsDataset d) (base : IsBase d b) where
  -- an entry made the root of each of its ends
  end_made : (e f : Entry) (log : List Entry) (u : ℕ) → Legal d b (e ∷ f ∷ log) → has (ends e.changed) u ≡ true → has e.made (root d b (e ∷ f ∷ log) u) ≡ true
  end_made e f log u legal h =
      subst (λ xs. has xs (root d b (e ∷ f ∷ log) u) ≡ true) (made_roots d b valid base e f log legal)
      (ascending_has (map (root d b (e ∷ f ∷ log)) (ends e.changed)) (root d b (e ∷ f ∷ log) u) (map_has (root d b (e ∷ f ∷ log)) (ends e.changed) u h))

  -- no end of it is joined to a supervoxel whose root it didn't make
  not_touched : (e f : Entry) (log : List Entry) (v : ℕ) → Legal d b (e ∷ f ∷ log) → has b.supervoxels v ≡ true → has e.made (root d b (e ∷ f ∷ log) v) ≡ false
      → touches e.changed (component d b (e ∷ f ∷ log) (top d) v) ≡ false
  not_touched e f log v legal hv n =
      false_from_ne_true _ (λ t.
      let r = touches_end e.changed (component d b (e ∷ f ∷ log) (top d) v) t in
      let q = joined_root d b e (f ∷ log) v r.0 valid.layout legal hv (component_Joined d b (e ∷ f ∷ log) (top d) v r.0 r.2) in
      contra (has e.made (root d b (e ∷ f ∷ log) v)) (subst (λ x. has e.made x ≡ true) (sym q) (end_made e f log r.0 legal r.1)) n)

  end_touches : (e f : Entry) (log : List Entry) (v u : ℕ) → has (ends e.changed) u ≡ true → Joined d b (e ∷ f ∷ log) (top d) v u → touches e.changed (component d b (e ∷ f ∷ log) (top d) v) ≡ true
  unfolding joined
  end_touches e f log v u h j =
      touches_more e.changed (u ∷ []) (component d b (e ∷ f ∷ log) (top d) v)
      (λ x q. elim (has_cases u [] x q) [ inl p ↦ subst (λ z. has (component d b (e ∷ f ∷ log) (top d) v) z ≡ true) p ((joined_iff d b (e ∷ f ∷ log) (top d) v u).1 j) | inr n ↦ has_none x n ])
      (sym (ends_touch e.changed u) ∙ h)

  -- so a supervoxel whose root it didn't make lost no root by it
  pub not_retired : (e f : Entry) (log : List Entry) (v : ℕ) → Legal d b (e ∷ f ∷ log) → has b.supervoxels v ≡ true → has e.made (root d b (e ∷ f ∷ log) v) ≡ false
      → has e.retired (root d b (f ∷ log) v) ≡ false
  not_retired e f log v legal hv n =
      let t = not_touched e f log v legal hv n in
      false_from_ne_true _ (λ r.
      let u = retired_end d b valid base e f log (root d b (f ∷ log) v) legal r in
      let hu = known_end d b valid base e (f ∷ log) u.0 legal u.1 in
      let old : Joined d b (f ∷ log) (top d) v u.0 = root_joined d b f log v u.0 valid.layout legal.1 hv hu (sym u.2) in
      let now : Joined d b (e ∷ f ∷ log) (top d) v u.0 = (kept d b e (f ∷ log) (top d) v hv t u.0).1 old in
      contra (touches e.changed (component d b (e ∷ f ∷ log) (top d) v)) (end_touches e f log v u.0 u.1 now) t)

  -- and keeps its root
  pub root_left : (e f : Entry) (log : List Entry) (v : ℕ) → Legal d b (e ∷ f ∷ log) → has b.supervoxels v ≡ true → has e.made (root d b (e ∷ f ∷ log) v) ≡ false
      → root d b (e ∷ f ∷ log) v ≡ root d b (f ∷ log) v
  root_left e f log v legal hv n = root_kept d b e f log v valid.layout legal (not_retired e f log v legal hv n)
