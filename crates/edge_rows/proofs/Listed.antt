-- The walk along the edges of a supervoxel that lists them as they are at a prefix.
use Rattle.std.proofs.Common.{◌≡◌, ℕ, Bool, true, false, cond, ◌&&◌, ltb, List, [], ◌∷◌, ◌++◌, Option, Some, None, refl, sym, ◌∙◌, ap, subst, append-nil, append_assoc}
use Rattle.std.specs.List.{slice_get, filter_map, cons_option}
use Rattle.op_model.specs.declared.base.Edge.{Edge}
use Rattle.record_rows.specs.Rows.{Row, EdgeRow}
use Rattle.record_rows.specs.Chains.{edge_at}
use Rattle.record_rows.specs.Readings.{first_place, next_place}
use Rattle.record_rows.specs.Walks.{is_end}
use Rattle.record_rows.proofs.WalkLemmas.{LeadsTo, from_spot, first_leads, next_leads, gather_first, gather_step}
use Rattle.edge_rows.specs.AtPrefix.{with_state}
use Rattle.edge_rows.proofs.EdgeLists.{given}
use Rattle.edge_rows.proofs.EdgeMeaning.{edge_below}

no_edge : (es : List Edge) (v prefix : ℕ) (row : Row) → edge_at v row ≡ false → edge_below es v prefix row ≡ None
unfolding edge_at edge_below is_end
no_edge es v prefix (EdgeRow made e) h = rw h refl
no_edge es v prefix row h = refl

-- the list behind an edge's record
abbrev pub kept : List Edge → ℕ → ℕ → Edge → List Edge → List Edge
kept es prefix made e fs = cond (ltb made prefix) (fs ++ with_state es e ∷ []) fs

module _ (rows : List Row) (es : List Edge) (v prefix : ℕ) where
  -- where the walk stands, and that the list and the edges left are those of the supervoxel
  abbrev pub Listed : List Edge → Option ℕ → Type 0
  Listed fs at = LeadsTo (edge_at v) rows at × (fs ++ filter_map (edge_below es v prefix) (from_spot rows at) ≡ filter_map (edge_below es v prefix) rows)

  pub listed_first : (row : Row) (at : Option ℕ) → slice_get rows 0 ≡ Some row → edge_at v row ≡ false → at ≡ first_place (edge_at v) rows → Listed [] at
  listed_first row at h t e =
      subst (Listed []) (sym e) (
        first_leads (edge_at v) rows row h t,
        sym (gather_first (edge_at v) (edge_below es v prefix) (no_edge es v prefix) rows row h t),
      )

  pub listed_next : (fs gs : List Edge) (at : Option ℕ) (p made : ℕ) (e : Edge) (next : Option ℕ) → at ≡ Some p → Listed fs at → slice_get rows p ≡ Some (EdgeRow made e) → edge_at v (EdgeRow made e) ≡ true
      → gs ≡ kept es prefix made e fs → next ≡ next_place (edge_at v) rows p → Listed gs next
  unfolding edge_below edge_at is_end given with_state
  listed_next fs gs at p made e next q w h t k n =
      let rest : List Edge = filter_map (edge_below es v prefix) (from_spot rows (next_place (edge_at v) rows p)) in
      subst (Listed gs) (sym n) (
        next_leads (edge_at v) rows p,
        ap (λ xs. xs ++ rest) k
            ∙ (go (ltb made prefix) rest
            ∙ (ap (λ s. fs ++ cons_option (cond (s && ltb made prefix) (Some (with_state es e)) None) rest) (sym t)
            ∙ (ap (λ xs. fs ++ xs) (sym (ap (λ o. filter_map (edge_below es v prefix) (from_spot rows o)) q ∙ gather_step (edge_at v) (edge_below es v prefix) (no_edge es v prefix) rows p (EdgeRow made e) h)) ∙ w.1))),
      )
    where
      go : (s : Bool) (rest : List Edge) → cond s (fs ++ with_state es e ∷ []) fs ++ rest ≡ fs ++ cons_option (cond s (Some (with_state es e)) None) rest
      go true rest = append_assoc fs (with_state es e ∷ []) rest
      go false rest = refl

  pub listed_end : (fs : List Edge) (at : Option ℕ) → ((p : ℕ) → at ≡ Some p → ⊥) → Listed fs at → fs ≡ filter_map (edge_below es v prefix) rows
  unfolding from_spot
  listed_end fs None n w = sym (append-nil fs) ∙ w.1
  listed_end fs (Some p) n w = absurd (n p refl)
