use Rattle.std.proofs.Common.{◌∙◌, sym, subst, arith}
use Rattle.op_model.specs.declared.request.Edit.{Edit}
use Rattle.record_rows.specs.Readings.{Image}
use Rattle.root_masks.specs.Plans.{AreLocks}
use Rattle.undo_redo.proofs.Turning.{turn_there, turn_locks}
use Rattle.undo_redo.proofs.planning.locks.Goals as goal

pub overflow_cast-turn : goal.overflow_cast-turn
overflow_cast-turn g c = let f = c.refusal_of.ensures.fits c.in-None.is in omega (arith, f)

pub mask_of-requires : goal.mask_of-requires
mask_of-requires g c =
    let r = c.requires.image in
    record { entry = (r.0, r.1, r.2, subst (λ w. Image r.0 r.1 r.2 (g.W.Words.words w)) (sym c.refusal_of.ensures.same) r.3, turn_there r.0 r.1 r.2 c.turn_of-turn.result.op c.turn_of-turn.result.back r.3.legal (sym c.in-None.is ∙ c.refusal_of.ensures.is r.0 r.1 r.2 r.3)) }

pub returns-in-None-clause-is : goal.returns-in-None-clause-is
returns-in-None-clause-is g c = λ d b log i.
    let h = sym c.in-None.is ∙ c.refusal_of.ensures.is d b log i in
    let low = turn_there d b log c.turn_of-turn.result.op c.turn_of-turn.result.back i.legal h in
    subst (λ (x : Edit). AreLocks d b log x c.mask_of.result) (sym c.turn_of-turn.ensures)
    (turn_locks d b log c.turn_of-turn.result.op c.turn_of-turn.result.back c.mask_of.result h (c.mask_of.ensures.is d b log (subst (λ w. Image d b log (g.W.Words.words w)) (sym c.refusal_of.ensures.same) i) low))
