-- When a root is made and retired: once each, by an entry of its number, and not before it was made.
use Rattle.std.proofs.Common.{◌≡◌, ℕ, ◌+◌, Bool, true, false, List, [], ◌∷◌, ◌++◌, refl, sym, ◌∙◌, ap, subst}
use Rattle.std.specs.List.{list_any}
use Rattle.std.proofs.lemmas.Bool.{or_left, or_right}
use Rattle.op_model.specs.declared.base.Dataset.{Dataset}
use Rattle.op_model.specs.declared.base.Base.{Base}
use Rattle.op_model.specs.declared.entry.Entry.{Entry}
use Rattle.graph_model.specs.Lists.{has}
use Rattle.graph_model.proofs.ListLemmas.{has_none}
use Rattle.op_model.specs.Chunks.{chunk, top}
use Rattle.op_model.specs.Labels.{component, is_empty, is_new, node, root}
use Rattle.op_model.specs.Legal.{Legal}
use Rattle.op_model.specs.Operations.{first_entry}
use Rattle.op_model.specs.Valid.{IsDataset, IsBase}
use Rattle.op_model.proofs.HistoryLemmas.{legal_prefix}
use Rattle.op_model.proofs.LabelLemmas.{label_old}
use Rattle.op_model.proofs.LocalLemmas.{top_in_layers}
use Rattle.record_rows.specs.Rows.{Node}
use Rattle.record_rows.proofs.OnceLemmas.{layer_low}
use Rattle.node_reader.proofs.LeafLaws.{made_fresh, made_here}
use Rattle.node_reader.proofs.NodeLeaves.{Born, later_other}
use Rattle.change_laws.proofs.NearEnds.{known_end, retired_end}

module _ (d : Dataset) (b : Base) (valid : IsDataset d) (base : IsBase d b) where
  -- a root that an entry made is none of a log before it
  fresh_root : (g : Entry) (newer : List Entry) (e : Entry) (older : List Entry) (r u : ℕ) → Legal d b (g ∷ (newer ++ e ∷ older)) → has g.made r ≡ true → has b.supervoxels u ≡ true → root d b (e ∷ older) u ≡ r → ⊥
  unfolding root
  fresh_root g newer e older r u legal h hu q =
      let whole : List Entry = g ∷ (newer ++ e ∷ older) in
      let f = made_fresh d b valid base g (newer ++ e ∷ older) r legal h in
      let n : Node = record { id = node d b whole (top d) f.0; chunk = chunk d (top d) f.0; leaves = component d b whole (top d) f.0; made = 0 } in
      let born : Born d b whole n = record { layer = top d; supervoxel = f.0; layered = top_in_layers d; low = layer_low d (top d) (top_in_layers d); known = f.1; fresh = f.3; in_chunk = refl; named = refl; holds = refl } in
      later_other d b valid base g newer e older legal n born (top d) u (top_in_layers d) hu (f.2 ∙ sym q)

  -- so no two entries made one
  pub made_again : (g : Entry) (newer : List Entry) (e : Entry) (older : List Entry) (r : ℕ) → Legal d b (g ∷ (newer ++ e ∷ older)) → has g.made r ≡ true → has e.made r ≡ true → ⊥
  made_again g newer e older r legal h k =
      let f = made_fresh d b valid base e older r (legal_prefix d b (g ∷ newer) e older legal) k in
      fresh_root g newer e older r f.0 legal h f.1 f.2

  -- nor does the entry that made it retire it
  pub own_retired : (g : Entry) (older : List Entry) (r : ℕ) → Legal d b (g ∷ older) → has g.made r ≡ true → has g.retired r ≡ true → ⊥
  unfolding first_entry
  own_retired g [] r legal h k = has_none r (subst (λ xs. has xs r ≡ true) (ap (λ z. z.retired) legal.0) k)
  own_retired g (f ∷ older) r legal h k =
      let u = retired_end d b valid base g f older r legal k in
      fresh_root g [] f older r u.0 legal h (known_end d b valid base g (f ∷ older) u.0 legal u.1) u.2

  -- a supervoxel's root was made by an entry of the log
  pub is_made : (log : List Entry) (u : ℕ) → Legal d b log → has b.supervoxels u ≡ true → list_any (λ e. has e.made (root d b log u)) log ≡ true
  unfolding root node is_new is_empty
  is_made [] u legal h = absurd legal
  is_made (e ∷ []) u legal h = or_left (has e.made (root d b (e ∷ []) u)) _ (made_here d b valid base e [] legal u h refl)
  is_made (e ∷ f ∷ log) u legal h = go (is_new d b (e ∷ f ∷ log) (top d) u) refl (is_made (f ∷ log) u legal.1 h)
    where
      go : (t : Bool) → is_new d b (e ∷ f ∷ log) (top d) u ≡ t → list_any (λ g. has g.made (root d b (f ∷ log) u)) (f ∷ log) ≡ true → list_any (λ g. has g.made (root d b (e ∷ f ∷ log) u)) (e ∷ f ∷ log) ≡ true
      go true q ih = or_left (has e.made (root d b (e ∷ f ∷ log) u)) _ (made_here d b valid base e (f ∷ log) legal u h q)
      go false q ih =
          let same : root d b (f ∷ log) u ≡ root d b (e ∷ f ∷ log) u = ap (λ x. chunk d (top d) u + x) (sym (label_old d b e (f ∷ log) (top d) u q)) in
          or_right (has e.made (root d b (e ∷ f ∷ log) u)) _ (subst (λ r. list_any (λ g. has g.made r) (f ∷ log) ≡ true) same ih)
