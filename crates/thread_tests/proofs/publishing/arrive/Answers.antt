use Rattle.std.proofs.Common.{ap, sym, ◌∙◌}
use Rattle.shared_rows.specs.Known.{Known}
use Rattle.thread_tests.proofs.Writing.{ready}
use Rattle.thread_tests.proofs.publishing.arrive.Goals as goal

pub returns-clause-ready : goal.returns-clause-ready
returns-clause-ready g c = λ one. let b = c.requires.begun in
    ready c.args.pass.now.view c.lock.new.pass.view c.pin.new.pass.view c.take_turn.new.pass.view c.look.new.pass.view b.number b.permits b.view_is c.requires.number c.lock.ensures.held c.pin.ensures.later
    (ap (λ (k : Known). k.view) c.take_turn.ensures) c.look.ensures.later (sym c.look.ensures.length ∙ one)
