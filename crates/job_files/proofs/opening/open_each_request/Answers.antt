use Rattle.std.proofs.Common.{◌≡◌, ◌<◌, ◌+◌, true, length, refl, ap, arith, rules, subst}
use Rattle.std.specs.List.{AllByRecursion}
use Rattle.std.proofs.lemmas.Option.{slice_get_read}
use Rattle.pcg_base.specs.declared.place.PlaceError.{PlaceError}
use Rattle.std.specs.Prelude.{Err}
use Rattle.job_files.specs.Clients.{AreOpened}
use Rattle.job_files.proofs.Openings.{take_whole}
use Rattle.job_files.proofs.Openings.{opened_none, opened_next, opens_front}
use Rattle.job_files.proofs.opening.open_each_request.Goals as goal

pub loop-at-init : goal.loop-at-init
loop-at-init g c = (opened_none g.P.In.Source.left g.P.In.Source.faults (g.P.Place.state c.args.place.now).opened_in c.args.names.now c.args.sources.now.items (g.P.Place.state c.args.place.now) c.requires.none, c.requires.room)

pub loop-at-preserved : goal.loop-at-preserved
loop-at-preserved g c =
    let names = c.args.names.now in
    let within : c.loop-at.at < length names = search rules in
    let there = slice_get_read names (length names) c.loop-at.at c.index-names-at.result refl within c.index-names-at.is in
    let room = c.loop-at.invariant.1 in
    let grown = c.put.ensures.capacity in (
      opened_next g.P.In.Source.left g.P.In.Source.faults (g.P.Place.state c.loop-at.place).opened_in (g.P.Place.state c.open_request.new.place).opened_in names c.loop-at.at c.loop-at.sources.items c.put.new.list.items (g.P.Place.state c.args.place.now) (g.P.Place.state c.loop-at.place) (g.P.Place.state c.open_request.new.place) c.index-names-at.result c.in-Ok.source
          c.loop-at.invariant.0 there c.put.ensures.items c.in-Ok.ensures.ok c.in-Ok.ensures.same c.in-Ok.ensures.ready c.open_request.ensures.stays,
      omega (arith, room, grown),
    )

pub returns-in-Err-clause-front : goal.returns-in-Err-clause-front
returns-in-Err-clause-front g c =
    let names = c.args.names.now in
    let within : c.loop-at.at < length names = search rules in
    let there = slice_get_read names (length names) c.loop-at.at c.index-names-at.result refl within c.index-names-at.is in
    opens_front g.P.In.Source.left g.P.In.Source.faults (g.P.Place.state c.loop-at.place).opened_in (g.P.Place.state c.open_request.new.place).opened_in names c.loop-at.at c.loop-at.sources.items (g.P.Place.state c.args.place.now) (g.P.Place.state c.loop-at.place) (g.P.Place.state c.open_request.new.place) c.index-names-at.result c.in-Err.error (c.loop-at.at + 1) c.fault_of.result
    c.loop-at.invariant.0 there c.open_request.ensures.files c.open_request.ensures.writes c.open_request.ensures.later
    (λ is. c.in-Err.ensures.failed (ap (λ (e : PlaceError). Err e) is)) c.open_request.ensures.stays refl c.fault_of.ensures c.open_request.ensures.left

pub returns-clause-ok : goal.returns-clause-ok
returns-clause-ok g c =
    let names = c.args.names.now in
    let all : c.loop-at.at ≡ length names = search rules in
    subst (λ ns. AreOpened g.P.In.Source.left g.P.In.Source.faults (g.P.Place.state c.args.place.now).files ns c.loop-at.sources.items) (take_whole names c.loop-at.at all) c.loop-at.invariant.0.opened

pub returns-clause-ready : goal.returns-clause-ready
returns-clause-ready g c =
    let names = c.args.names.now in
    let all : c.loop-at.at ≡ length names = search rules in
    subst (λ ns. AllByRecursion (λ n. (g.P.Place.state c.loop-at.place).opened_in n ≡ true) ns) (take_whole names c.loop-at.at all) c.loop-at.invariant.0.ready
