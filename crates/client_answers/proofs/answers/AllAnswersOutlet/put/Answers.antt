use Rattle.std.proofs.Common.{rules, refl}
use Rattle.std.specs.Prelude.{Result, Ok, Err, OnOk, OnErr}
use Rattle.std.specs.Vec.{with_item}
use Rattle.client_answers.specs.declared.answers.AllAnswers.{AllAnswers}
use Rattle.client_answers.specs.Answers.{IsBroken, IsWritten}
use Rattle.client_answers.proofs.Places.{at_client, cause_all}
use Rattle.client_answers.proofs.answers.AllAnswersOutlet.put.Goals as goal

on_ok : {A B T E : Type 0} (r : Result T E) → (A → B) → OnOk r A → OnOk r B
on_ok (Ok v) f h = f h
on_ok (Err e) f h = tt

on_err : {A B T E : Type 0} (r : Result T E) → (A → B) → OnErr r A → OnErr r B
on_err (Ok v) f h = tt
on_err (Err e) f h = f h

pub returns-clause-ok : goal.returns-clause-ok
returns-clause-ok g c =
    let new : AllAnswers g.row.K.Denot = record { list = with_item c.args.self.now.list c.saturating_sub-place.result c.write.new.answers } in
    on_ok c.write.result
    (λ w. at_client (IsWritten g.K.Sink.state) c.args.self.now new c.args.client c.saturating_sub-place.result c.args.reply.now c.index_mut.result.now c.write.new.answers _
    c.saturating_sub-place.ensures (search rules) c.index_mut.ensures.value w refl)
    c.write.ensures.ok

pub returns-clause-err : goal.returns-clause-err
returns-clause-err g c =
    let new : AllAnswers g.row.K.Denot = record { list = with_item c.args.self.now.list c.saturating_sub-place.result c.write.new.answers } in
    on_err c.write.result
    (λ w. at_client (IsBroken g.K.Sink.state) c.args.self.now new c.args.client c.saturating_sub-place.result c.args.reply.now c.index_mut.result.now c.write.new.answers _
    c.saturating_sub-place.ensures (search rules) c.index_mut.ensures.value w refl)
    c.write.ensures.err

pub returns-clause-cause : goal.returns-clause-cause
returns-clause-cause g c =
    cause_all g.K.Sink.state c.args.self.now.list.items c.saturating_sub-place.result c.index_mut.result.now c.write.new.answers _ c.write.result
    (search rules) c.index_mut.ensures.value c.write.ensures.cause
