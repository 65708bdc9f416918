-- The leaves of a root of a legal log are the supervoxels that have it.
use Rattle.std.proofs.Common.{◌≡◌, ℕ, Bool, true, false, cond, List, [], ◌∷◌, refl, sym, ◌∙◌, ap, subst, eqb, eq-eqb}
use Rattle.std.specs.Prelude.{◌↔◌, IsTrue}
use Rattle.std.proofs.lemmas.Bool.{eqb-true}
use Rattle.op_model.specs.declared.base.Dataset.{Dataset}
use Rattle.op_model.specs.declared.base.Base.{Base}
use Rattle.op_model.specs.declared.entry.Entry.{Entry}
use Rattle.graph_model.specs.Lists.{has}
use Rattle.graph_model.specs.Components.{Joined as JoinedBy}
use Rattle.graph_model.proofs.ListLemmas.{filter_has, filter_only}
use Rattle.op_model.specs.Answers.{leaves, leaves_at}
use Rattle.op_model.specs.Edges.{linked}
use Rattle.op_model.specs.Labels.{edges, root}
use Rattle.op_model.specs.Valid.{IsDataset, IsBase}
use Rattle.op_model.specs.Legal.{Legal}
use Rattle.op_model.proofs.LocalLemmas.{leaves_kept}
use Rattle.op_model.proofs.RootLemmas.{roots_joined}
use Rattle.histories.proofs.Roots.{first_made, not_retired, root_left}

module _ (d : Dataset) (b : Base) (valid : IsDataset d) (base : IsBase d b) where
  -- the leaves at the entry that made a root are those at each later log where a supervoxel has it
  leaves_now : (log : List Entry) (v : ℕ) → Legal d b log → has b.supervoxels v ≡ true → leaves d b log (root d b log v) ≡ leaves_at d b log (root d b log v)
  unfolding leaves
  leaves_now [] v legal hv = absurd legal
  leaves_now (e ∷ []) v legal hv = ap (λ t. cond t (leaves_at d b (e ∷ []) (root d b (e ∷ []) v)) []) (first_made d b e v legal hv)
  leaves_now (e ∷ f ∷ log) v legal hv = go (has e.made r) refl (leaves_now (f ∷ log) v legal.1 hv)
    where
      r : ℕ
      r = root d b (e ∷ f ∷ log) v

      go : (t : Bool) → has e.made r ≡ t → leaves d b (f ∷ log) (root d b (f ∷ log) v) ≡ leaves_at d b (f ∷ log) (root d b (f ∷ log) v)
          → cond t (leaves_at d b (e ∷ f ∷ log) r) (leaves d b (f ∷ log) r) ≡ leaves_at d b (e ∷ f ∷ log) r
      go true h ih = refl
      go false h ih =
          let same : r ≡ root d b (f ∷ log) v = root_left d b valid base e f log v legal hv h in
          ap (leaves d b (f ∷ log)) same
          ∙ (ih
          ∙ (sym (leaves_kept d b e f log v valid.layout legal hv (not_retired d b valid base e f log v legal hv h))
          ∙ ap (leaves_at d b (e ∷ f ∷ log)) (sym same)))

  leaf_only : (log : List Entry) (v w : ℕ) → Legal d b log → has b.supervoxels v ≡ true → has (leaves d b log (root d b log v)) w ≡ true → (has b.supervoxels w ≡ true) × (root d b log w ≡ root d b log v)
  unfolding leaves_at
  leaf_only log v w legal hv h =
      let k = filter_only (λ x. eqb (root d b log x) (root d b log v)) b.supervoxels w (subst (λ ls. has ls w ≡ true) (leaves_now log v legal hv) h) in
      (k.0, eqb-true _ _ k.1)

  leaf_has : (log : List Entry) (v w : ℕ) → Legal d b log → has b.supervoxels v ≡ true → has b.supervoxels w ≡ true → root d b log w ≡ root d b log v → has (leaves d b log (root d b log v)) w ≡ true
  unfolding leaves_at
  leaf_has log v w legal hv hw same =
      subst (λ ls. has ls w ≡ true) (sym (leaves_now log v legal hv))
      (filter_has (λ x. eqb (root d b log x) (root d b log v)) b.supervoxels w hw (eq-eqb _ _ same))

  -- so they are its component
  pub leaves_joined : (log : List Entry) (v w : ℕ) → Legal d b log → has b.supervoxels v ≡ true
      → IsTrue (has (leaves d b log (root d b log v)) w) ↔ (IsTrue (has b.supervoxels w) × JoinedBy (linked (edges d b log)) b.supervoxels v w)
  leaves_joined log v w legal hv = (
    (λ h. let l = leaf_only log v w legal hv h in (l.0, (roots_joined d b valid base log v w legal hv l.0).0 (sym l.1))),
    (λ k. leaf_has log v w legal hv k.0 (sym ((roots_joined d b valid base log v w legal hv k.0).1 k.1))),
  )
