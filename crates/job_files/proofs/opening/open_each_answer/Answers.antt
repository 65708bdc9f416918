use Rattle.std.proofs.Common.{◌≡◌, ◌<◌, ◌+◌, true, length, refl, ap, arith, rules, subst}
use Rattle.std.specs.List.{AllByRecursion}
use Rattle.std.proofs.lemmas.Option.{slice_get_read}
use Rattle.pcg_base.specs.declared.place.PlaceError.{PlaceError}
use Rattle.std.specs.Prelude.{Err}
use Rattle.job_files.specs.Clients.{AnswersOpen, AreEmpty}
use Rattle.job_files.proofs.Openings.{take_whole}
use Rattle.job_files.proofs.AnswerOpenings.{emptied_none, emptied_next, empties_front}
use Rattle.job_files.proofs.opening.open_each_answer.Goals as goal

pub loop-at-init : goal.loop-at-init
loop-at-init g c = (emptied_none g.P.Out.Sink.state (g.P.Place.state c.args.place.now).opened_out c.args.names.now c.args.answers.now.items (g.P.Place.state c.args.place.now) c.requires.none, c.requires.room, λ n o. o)

pub loop-at-preserved : goal.loop-at-preserved
loop-at-preserved g c =
    let names = c.args.names.now in
    let within : c.loop-at.at < length names = search rules in
    let there = slice_get_read names (length names) c.loop-at.at c.index-names-at.result refl within c.index-names-at.is in
    let room = c.loop-at.invariant.1 in
    let grown = c.put.ensures.capacity in (
      emptied_next g.P.Out.Sink.state (g.P.Place.state c.loop-at.place).opened_out (g.P.Place.state c.open_answer.new.place).opened_out names c.loop-at.at c.loop-at.answers.items c.put.new.list.items (g.P.Place.state c.args.place.now) (g.P.Place.state c.loop-at.place) (g.P.Place.state c.open_answer.new.place) c.index-names-at.result c.in-Ok.client
          c.loop-at.invariant.0 there c.put.ensures.items c.in-Ok.ensures.ok c.in-Ok.ensures.empties c.in-Ok.ensures.ready c.open_answer.ensures.stays_out,
      omega (arith, room, grown),
      λ n o. c.open_answer.ensures.stays_in n (c.loop-at.invariant.2 n o),
    )

pub returns-in-Err-clause-front : goal.returns-in-Err-clause-front
returns-in-Err-clause-front g c =
    let names = c.args.names.now in
    let within : c.loop-at.at < length names = search rules in
    let there = slice_get_read names (length names) c.loop-at.at c.index-names-at.result refl within c.index-names-at.is in
    empties_front g.P.Out.Sink.state (g.P.Place.state c.loop-at.place).opened_out (g.P.Place.state c.open_answer.new.place).opened_out names c.loop-at.at c.loop-at.answers.items (g.P.Place.state c.args.place.now) (g.P.Place.state c.loop-at.place) (g.P.Place.state c.open_answer.new.place) c.index-names-at.result c.in-Err.error (c.loop-at.at + 1) c.fault_of.result
    c.loop-at.invariant.0 there c.in-Err.ensures.unmade c.open_answer.ensures.reads c.open_answer.ensures.left c.open_answer.ensures.later
    (λ is. c.in-Err.ensures.failed (ap (λ (e : PlaceError). Err e) is)) c.open_answer.ensures.stays_out refl c.fault_of.ensures

pub returns-clause-ok : goal.returns-clause-ok
returns-clause-ok g c =
    let names = c.args.names.now in
    let all : c.loop-at.at ≡ length names = search rules in
    subst (λ ns. AreEmpty g.P.Out.Sink.state (g.P.Place.state c.args.place.now).files ns c.loop-at.answers.items) (take_whole names c.loop-at.at all) c.loop-at.invariant.0.empty

pub returns-clause-empties : goal.returns-clause-empties
returns-clause-empties g c =
    let names = c.args.names.now in
    let all : c.loop-at.at ≡ length names = search rules in
    subst (λ ns. AnswersOpen ns (g.P.Place.state c.args.place.now) (g.P.Place.state c.loop-at.place)) (take_whole names c.loop-at.at all) c.loop-at.invariant.0.opens

pub returns-clause-ready : goal.returns-clause-ready
returns-clause-ready g c =
    let names = c.args.names.now in
    let all : c.loop-at.at ≡ length names = search rules in
    subst (λ ns. AllByRecursion (λ n. (g.P.Place.state c.loop-at.place).opened_out n ≡ true) ns) (take_whole names c.loop-at.at all) c.loop-at.invariant.0.ready

pub returns-in-Err-clause-stays : goal.returns-in-Err-clause-stays
returns-in-Err-clause-stays g c = λ n o. c.open_answer.ensures.stays_in n (c.loop-at.invariant.2 n o)
