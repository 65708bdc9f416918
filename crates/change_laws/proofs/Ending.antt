-- The first entry with an end among the leaves of a root retires it.
use Rattle.std.proofs.Common.{◌≡◌, ℕ, ◌+◌, ◌≤◌, true, false, List, [], ◌∷◌, ◌++◌, map, sym, ◌∙◌, ap, subst, inl, inr, eq-eqb, eqb}
use Rattle.std.specs.List.{AllByRecursion}
use Rattle.std.proofs.lemmas.Bool.{eqb-true}
use Rattle.node_ids.proofs.IdLemmas.{width_low}
use Rattle.op_model.specs.declared.base.Dataset.{Dataset}
use Rattle.op_model.specs.declared.base.Base.{Base}
use Rattle.op_model.specs.declared.entry.Asked.TheVariants as asked
use Rattle.op_model.specs.declared.entry.Entry.{Entry}
use Rattle.graph_model.specs.Lists.{has}
use Rattle.graph_model.proofs.ListLemmas.{filter_has, filter_only, has_none, same_bool}
use Rattle.op_model.specs.Answers.{leaves_at}
use Rattle.op_model.specs.Chunks.{chunk, top}
use Rattle.op_model.specs.Labels.{label, node, root, touches, used}
use Rattle.op_model.specs.Operations.{ascending, ends, first_entry}
use Rattle.op_model.specs.Legal.{Legal}
use Rattle.op_model.specs.Valid.{IsDataset, IsBase}
use Rattle.op_model.proofs.HistoryLemmas.{label_kept, legal_prefix, node_parts_of}
use Rattle.op_model.proofs.LabelLemmas.{label_used}
use Rattle.op_model.proofs.LegalLemmas.{labels_fit}
use Rattle.op_model.proofs.LocalLemmas.{end_retired, root_kept, top_in_layers, touches_end}
use Rattle.op_model.proofs.MadeLemmas.{ascending_only, map_only, root_same}
use Rattle.layer_laws.proofs.RemakeLemmas.{ends_touch, touches_more}
use Rattle.graph_model.proofs.ListLemmas.{has_cases}
use Rattle.change_laws.specs.Laws.{RootsEndOnce}
use Rattle.change_laws.proofs.NearEnds.{known_end, made_end, retired_end}

module _ (d : Dataset) (b : Base) (valid : IsDataset d) (base : IsBase d b) where
  -- a root that an entry made is some supervoxel's after it
  made_root : (g : Entry) (older : List Entry) (r : ℕ) → Legal d b (g ∷ older) → has g.made r ≡ true → (w : ℕ) × (has b.supervoxels w ≡ true) × (root d b (g ∷ older) w ≡ r)
  unfolding first_entry
  made_root g [] r legal h =
      let q = legal.0 in
      let first : Entry = record { number = 0; client = 0; line = 0; at = g.at; asked = asked.Ingest; changed = []; retired = []; made = [] } in
      let m : g.made ≡ ascending (map (root d b (first ∷ [])) b.supervoxels) = ap (λ x. x.made) q in
      let c : g.changed ≡ [] = ap (λ x. x.changed) q in
      let w = map_only (root d b (first ∷ [])) b.supervoxels r (ascending_only _ r (subst (λ xs. has xs r ≡ true) m h)) in
      (w.0, w.1, root_same d b g first [] w.0 c ∙ w.2)
  made_root g (f ∷ older) r legal h =
      let w = made_end d b valid base g f older r legal h in
      (w.0, known_end d b valid base g (f ∷ older) w.0 legal w.1, w.2)

  -- who has a root later had it when it was made
  root_then : (newer : List Entry) (g : Entry) (older : List Entry) (u w : ℕ) → Legal d b (newer ++ g ∷ older) → has b.supervoxels u ≡ true → has b.supervoxels w ≡ true
      → root d b (newer ++ g ∷ older) u ≡ root d b (g ∷ older) w → root d b (g ∷ older) u ≡ root d b (g ∷ older) w
  unfolding root node
  root_then newer g older u w legal hu hw q =
      let old : Legal d b (g ∷ older) = legal_prefix d b newer g older legal in
      let p = node_parts_of d b (newer ++ g ∷ older) (g ∷ older) (top d) u w (width_low d.layout valid.layout.3 (top d))
      (labels_fit d b (newer ++ g ∷ older) (top d) u legal (top_in_layers d) hu) (labels_fit d b (g ∷ older) (top d) w old (top_in_layers d) hw) q in
      let m = label_used d b (g ∷ older) (top d) w hw in
      let low : label d b (newer ++ g ∷ older) (top d) u ≤ used d b (g ∷ older) (top d) (chunk d (top d) w) = subst (λ x. x ≤ used d b (g ∷ older) (top d) (chunk d (top d) w)) (sym p.1) m in
      let k = (label_kept d b newer g older (top d) u hu (subst (λ c. label d b (newer ++ g ∷ older) (top d) u ≤ used d b (g ∷ older) (top d) c) (sym p.0) low)).0 in
      ap (λ x. chunk d (top d) u + x) (sym k) ∙ q

  -- and has it until it is retired
  root_stays : (newer : List Entry) (g : Entry) (older : List Entry) (u r : ℕ) → Legal d b (newer ++ g ∷ older) → AllByRecursion (λ f. has f.retired r ≡ false) newer
      → root d b (g ∷ older) u ≡ r → root d b (newer ++ g ∷ older) u ≡ r
  root_stays [] g older u r legal a q = q
  root_stays (f ∷ []) g older u r legal a q = root_kept d b f g older u valid.layout legal (subst (λ x. has f.retired x ≡ false) (sym q) a.0) ∙ q
  root_stays (f ∷ h ∷ newer) g older u r legal a q =
      let ih = root_stays (h ∷ newer) g older u r legal.1 a.1 q in
      root_kept d b f h (newer ++ g ∷ older) u valid.layout legal (subst (λ x. has f.retired x ≡ false) (sym ih) a.0) ∙ ih

  ended : (e g : Entry) (newer older : List Entry) (r : ℕ) → Legal d b (e ∷ newer ++ g ∷ older) → has g.made r ≡ true → AllByRecursion (λ f. has f.retired r ≡ false) newer
      → has e.retired r ≡ touches e.changed (leaves_at d b (g ∷ older) r)
  unfolding leaves_at
  ended e g newer older r legal m a = same_bool (has e.retired r) (touches e.changed (leaves_at d b (g ∷ older) r)) (to newer legal) (back newer legal a)
    where
      after : (newer : List Entry) → Legal d b (e ∷ newer ++ g ∷ older) → Legal d b (newer ++ g ∷ older)
      after [] l = l.1
      after (f ∷ newer) l = l.1

      of_end : (newer : List Entry) → Legal d b (e ∷ newer ++ g ∷ older) → has e.retired r ≡ true → (u : ℕ) × (has (ends e.changed) u ≡ true) × (root d b (newer ++ g ∷ older) u ≡ r)
      of_end [] l h = retired_end d b valid base e g older r l h
      of_end (f ∷ newer) l h = retired_end d b valid base e f (newer ++ g ∷ older) r l h

      retired : (newer : List Entry) → Legal d b (e ∷ newer ++ g ∷ older) → (u : ℕ) → has (ends e.changed) u ≡ true → has e.retired (root d b (newer ++ g ∷ older) u) ≡ true
      retired [] l u h = end_retired d b e g older u l h
      retired (f ∷ newer) l u h = end_retired d b e f (newer ++ g ∷ older) u l h

      to : (newer : List Entry) → Legal d b (e ∷ newer ++ g ∷ older) → has e.retired r ≡ true → touches e.changed (leaves_at d b (g ∷ older) r) ≡ true
      to newer l h =
          let u = of_end newer l h in
          let known = known_end d b valid base e (newer ++ g ∷ older) u.0 l u.1 in
          let old : Legal d b (g ∷ older) = legal_prefix d b newer g older (after newer l) in
          let w = made_root g older r old m in
          let held = root_then newer g older u.0 w.0 (after newer l) known w.1 (u.2 ∙ sym w.2) ∙ w.2 in
          touches_more e.changed (u.0 ∷ []) (leaves_at d b (g ∷ older) r)
          (λ x q. elim (has_cases u.0 [] x q) [
            | inl p ↦ subst (λ z. has (leaves_at d b (g ∷ older) r) z ≡ true) p (filter_has (λ v. eqb (root d b (g ∷ older) v) r) b.supervoxels u.0 known (eq-eqb (root d b (g ∷ older) u.0) r held))
            | inr n ↦ has_none x n
          ])
          (sym (ends_touch e.changed u.0) ∙ u.1)

      back : (newer : List Entry) → Legal d b (e ∷ newer ++ g ∷ older) → AllByRecursion (λ f. has f.retired r ≡ false) newer → touches e.changed (leaves_at d b (g ∷ older) r) ≡ true → has e.retired r ≡ true
      back newer l a t =
          let u = touches_end e.changed (leaves_at d b (g ∷ older) r) t in
          let p = filter_only (λ v. eqb (root d b (g ∷ older) v) r) b.supervoxels u.0 u.2 in
          let now = root_stays newer g older u.0 r (after newer l) a (eqb-true (root d b (g ∷ older) u.0) r p.1) in
          subst (λ x. has e.retired x ≡ true) now (retired newer l u.0 u.1)

pub end_once : RootsEndOnce
end_once d b valid base e g newer older r legal m a = ended d b valid base e g newer older r legal m a
