use Rattle.std.proofs.Common.{◌∙◌, sym, subst, arith}
use Rattle.op_model.specs.declared.request.Edit.{Edit}
use Rattle.op_model.specs.Legal.{LegalPlan}
use Rattle.record_rows.specs.Readings.{Image}
use Rattle.root_masks.specs.Plans.{IsUnplanned}
use Rattle.root_masks.proofs.Asked.{unplanned}
use Rattle.undo_redo.specs.Turns.{turn}
use Rattle.undo_redo.proofs.Turning.{turn_there, turn_plan}
use Rattle.undo_redo.proofs.planning.planned.Goals as goal

pub overflow_cast-turn : goal.overflow_cast-turn
overflow_cast-turn g c = let f = c.refusal_of.ensures.fits c.in_default.is in omega (arith, f)

pub changes_of-requires : goal.changes_of-requires
changes_of-requires g c =
    let r = c.requires.image in
    record { entry = (r.0, r.1, r.2, subst (λ w. Image r.0 r.1 r.2 (g.W.Words.words w)) (sym c.refusal_of.ensures.same) r.3, turn_there r.0 r.1 r.2 c.turn_of-turn.result.op c.turn_of-turn.result.back r.3.legal (sym c.in_default.is ∙ c.refusal_of.ensures.is r.0 r.1 r.2 r.3)) }

pub returns-in-Some-clause-is : goal.returns-in-Some-clause-is
returns-in-Some-clause-is g c = λ d b log i.
    subst (λ (x : Edit). IsUnplanned d b log x c.in-Some.refusal) (sym c.turn_of-turn.ensures)
    (unplanned d b log (turn c.turn_of-turn.result.back c.turn_of-turn.result.op) c.in-Some.refusal (sym (c.refusal_of.ensures.is d b log i) ∙ c.in-Some.is))

pub returns-in-Ok-clause-is : goal.returns-in-Ok-clause-is
returns-in-Ok-clause-is g c = λ d b log i.
    let h = sym c.in_default.is ∙ c.refusal_of.ensures.is d b log i in
    let low = turn_there d b log c.turn_of-turn.result.op c.turn_of-turn.result.back i.legal h in
    subst (λ (x : Edit). LegalPlan d b log x c.in-Ok.changed) (sym c.turn_of-turn.ensures)
    (turn_plan d b log c.turn_of-turn.result.op c.turn_of-turn.result.back c.in-Ok.changed h (c.in-Ok.ensures.is d b log (subst (λ w. Image d b log (g.W.Words.words w)) (sym c.refusal_of.ensures.same) i) low))
