-- What a split's component is refused for, and what its plan is.
use Rattle.std.proofs.Common.{◌≡◌, ℕ, ◌<◌, ◌≤◌, List, length, map, Some, None, Result, Ok, Err, refl, sym, ◌∙◌, ap, subst, lt-ltb}
use Rattle.std.specs.Prelude.{IfOk, MatchResult}
use Rattle.std.proofs.lemmas.Bool.{le-ltb}
use Rattle.op_model.specs.declared.base.Dataset.{Dataset}
use Rattle.op_model.specs.declared.base.Base.{Base}
use Rattle.op_model.specs.declared.request.Edit.{Edit}
use Rattle.op_model.specs.declared.request.Edit.TheVariants.{Split}
use Rattle.op_model.specs.declared.entry.Entry.{Entry}
use Rattle.op_model.specs.declared.entry.Plan.{Plan}
use Rattle.op_model.specs.declared.entry.Shown.{Shown}
use Rattle.op_model.specs.declared.reply.Refusal.{Refusal}
use Rattle.op_model.specs.declared.reply.Refusal.TheVariants.{NoMemory, TooLarge}
use Rattle.op_model.specs.Cuts.{IsShown, Shows, part}
use Rattle.op_model.specs.Operations.{change}
use Rattle.op_model.specs.Refusals.{first_of, refuse_cut, refuse_early, refuse_if}
use Rattle.root_masks.specs.Plans.{IsPlan, IsUnplanned}
use Rattle.split_net.specs.Parts.{IsUnshown, glue_refusal}
use Rattle.edit_split.specs.Marks.{IsSplit, off}
use Rattle.edit_split.specs.Components.{IsCutOf, IsPlanOf, IsTooLarge, IsUncut}
use Rattle.edit_split.proofs.Refused.{first_last, first_next, first_some}

module _ (d : Dataset) (b : Base) (log : List Entry) (sources sinks : List ℕ) where
  too_large : 500000 < length (part d b log sources) → refuse_cut d b log (Split sources sinks) ≡ Some (TooLarge (length (part d b log sources)))
  unfolding refuse_cut first_of refuse_if
  too_large l = rw (lt-ltb 500000 (length (part d b log sources)) l) refl

  glue_only : length (part d b log sources) ≤ 500000 → refuse_cut d b log (Split sources sinks) ≡ glue_refusal (part d b log sources) sources sinks
  unfolding refuse_cut first_of refuse_if glue_refusal
  glue_only l = rw (le-ltb 500000 (length (part d b log sources)) l) (sym (first_last _))

  -- a component of too many edges is refused
  pub large_uncut : (r : Refusal) → IsTooLarge (length (part d b log sources)) r → IsUncut d b log (Split sources sinks) r
  large_uncut NoMemory h = tt
  large_uncut r h = too_large h.0 ∙ ap (λ (x : Refusal). Some x) (sym h.1)

  -- and so are marks that glue joins; others have a least cut
  pub cut_or_glued : (answer : Result Shown Refusal) → length (part d b log sources) ≤ 500000
      → IfOk answer (IsShown (part d b log sources) sources sinks) → IfOk answer (λ s. glue_refusal (part d b log sources) sources sinks ≡ None) → IsUnshown (part d b log sources) sources sinks answer
      → MatchResult answer (λ s. (refuse_cut d b log (Split sources sinks) ≡ None) × IsShown (part d b log sources) sources sinks s) (IsUncut d b log (Split sources sinks))
  cut_or_glued (Ok s) l h k u = (glue_only l ∙ k, h)
  cut_or_glued (Err NoMemory) l h k u = tt
  cut_or_glued (Err r) l h k u = glue_only l ∙ u

  -- what the component is refused for is why there is no plan
  pub uncut_unplanned : (r : Refusal) → refuse_early d b log (Split sources sinks) ≡ None → IsUncut d b log (Split sources sinks) r → IsUnplanned d b log (Split sources sinks) r
  uncut_unplanned NoMemory e h = tt
  uncut_unplanned r e h = sym (first_next _ _ _ e (first_some _ _ r h))

  -- what is shown of a split that isn't refused for its marks, or why there is no plan of it
  pub shown_or_unplanned : (answer : Result Shown Refusal) → refuse_early d b log (Split sources sinks) ≡ None
      → MatchResult answer (λ s. (refuse_cut d b log (Split sources sinks) ≡ None) × IsShown (part d b log sources) sources sinks s) (IsUncut d b log (Split sources sinks))
      → MatchResult answer (IsCutOf d b log (Split sources sinks)) (IsUnplanned d b log (Split sources sinks))
  shown_or_unplanned (Ok s) e h = (e, h.0, h.1)
  shown_or_unplanned (Err r) e h = uncut_unplanned r e h

split_planned : (d : Dataset) (b : Base) (log : List Entry) (sources sinks : List ℕ) (s : Shown) (p : Plan) → IsCutOf d b log (Split sources sinks) s → IsPlanOf (Split sources sinks) s p → IsPlan d b log (Split sources sinks) p
unfolding change off
split_planned d b log sources sinks s p k t = (t.0, (k.0, k.1, t.1 ∙ ap (map off) k.2.cut), subst (Shows d b log (Split sources sinks)) (sym t.2) k.2)

-- the plan of a split that cuts its least cut
planned : (d : Dataset) (b : Base) (log : List Entry) (edit : Edit) (s : Shown) (p : Plan) → IsSplit edit → IsCutOf d b log edit s → IsPlanOf edit s p → IsPlan d b log edit p
planned d b log edit s p k c q =
    subst (λ (x : Edit). IsCutOf d b log x s → IsPlanOf x s p → IsPlan d b log x p) (sym k.2) (split_planned d b log k.0 k.1 s p) c q

-- and what is answered where there is no memory for it
pub plan_or_unplanned : (d : Dataset) (b : Base) (log : List Entry) (edit : Edit) (s : Shown) (answer : Result Plan Refusal) → IsSplit edit → IsCutOf d b log edit s
    → MatchResult answer (IsPlanOf edit s) (λ r. r ≡ NoMemory) → MatchResult answer (IsPlan d b log edit) (IsUnplanned d b log edit)
plan_or_unplanned d b log edit s (Ok p) k c h = planned d b log edit s p k c h
plan_or_unplanned d b log edit s (Err r) k c h = subst (IsUnplanned d b log edit) (sym h) tt
