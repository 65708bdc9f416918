use Rattle.std.proofs.Common.{◌<◌, ◌^◌, List, length, sym, subst, arith}
use Rattle.client_events.specs.declared.lines.LineText.{LineText}
use Rattle.stream_lines.proofs.ReadSoFar.{Laws, ReadSoFar, Taken, begun, front_more, taken_one}
use Rattle.stream_lines.proofs.reading.read_lines.Goals as goal

pub loop-init : goal.loop-init
loop-init g c =
    let so_far = subst (ReadSoFar g.S.Source.left g.S.Source.faults c.args.session.now c.args.session.now) (sym c.new-lines.ensures.items)
    (begun g.S.Source.left g.S.Source.faults c.args.session.now c.requires.open c.requires.fresh.0 c.requires.fresh.1 c.requires.fresh.2) in
    let none : length c.new-lines.result.items < 2 ^ 32 = subst (λ (ts : List LineText). length ts < 2 ^ 32) (sym c.new-lines.ensures.items) (omega arith) in
    (so_far, none)

pub returns-in-Some-clause-lines : goal.returns-in-Some-clause-lines
returns-in-Some-clause-lines g c =
    let e = c.lines_are_given.ensures in
    let laws : Laws = record { next = e.next; all = e.end; fault = e.fault; long = e.long } in
    subst (Taken g.S.Source.left g.S.Source.faults laws c.args.session.now c.loop.session c.take.new.session c.loop.lines.items c.loop.invariant.0 c.take.new.lines.items) c.in-Some.is
    (taken_one g.S.Source.left g.S.Source.faults laws c.args.session.now c.loop.session c.take.new.session c.loop.lines.items c.loop.invariant.0 c.take.new.lines.items c.in_ok-end.end c.in_ok-end.ensures.taken)

pub loop-preserved : goal.loop-preserved
loop-preserved g c =
    let e = c.lines_are_given.ensures in
    let laws : Laws = record { next = e.next; all = e.end; fault = e.fault; long = e.long } in
    let so_far = subst (Taken g.S.Source.left g.S.Source.faults laws c.args.session.now c.loop.session c.take.new.session c.loop.lines.items c.loop.invariant.0 c.take.new.lines.items) c.in_default.is
    (taken_one g.S.Source.left g.S.Source.faults laws c.args.session.now c.loop.session c.take.new.session c.loop.lines.items c.loop.invariant.0 c.take.new.lines.items c.in_ok-end.end c.in_ok-end.ensures.taken) in
    (so_far, c.take.ensures.few c.loop.invariant.1)

pub returns-in_err-end-clause-front : goal.returns-in_err-end-clause-front
returns-in_err-end-clause-front g c = front_more _ _ _ (c.loop.invariant.0.taken, c.loop.invariant.0.consumed) c.take.ensures.front

pub returns-in-Some-clause-front : goal.returns-in-Some-clause-front
returns-in-Some-clause-front g c = front_more _ _ _ (c.loop.invariant.0.taken, c.loop.invariant.0.consumed) c.take.ensures.front
