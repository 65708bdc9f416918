use Rattle.std.proofs.Common.{rules}
use Rattle.std.proofs.lemmas.Result.{err_from_is_err_and}
use Rattle.pcg_base.proofs.Appending.{next_taken, front_taken}
use Rattle.pcg_base.proofs.writing.write_all.Goals as goal

pub loop-at-preserved : goal.loop-at-preserved
loop-at-preserved g c = (search rules, next_taken (g.K.Sink.state c.args.out.now).held (g.K.Sink.state c.loop-at.out).held (g.K.Sink.state c.write.new.self).held c.args.piece.now c.loop-at.at c.in_ok-at.field-0 c.loop-at.invariant.1 (search rules), search rules, search rules)

pub returns-in_err-at-clause-err : goal.returns-in_err-at-clause-err
returns-in_err-at-clause-err g c =
    let p = err_from_is_err_and c.from_residual.result c.from_residual.ensures.1 in
    rw p.1 (front_taken (g.K.Sink.state c.args.out.now).held (g.K.Sink.state c.loop-at.out).held (g.K.Sink.state c.write.new.self).held c.args.piece.now c.loop-at.at c.loop-at.invariant.1 c.in_err-at.ensures.bytes)
