use Rattle.session_results.proofs.StartFacts.{clients_few, lines_few, starts}
use Rattle.session_results.proofs.starting.make_core.Goals as goal

pub start-requires-clause-clients : goal.start-requires-clause-clients
start-requires-clause-clients c = clients_few c.args.read.items c.in_ok-lines.lines.items c.in_ok-lines.ensures c.requires.clients

pub start-requires-clause-lines : goal.start-requires-clause-lines
start-requires-clause-lines c = lines_few c.args.read.items c.in_ok-lines.lines.items c.in_ok-lines.ensures c.requires.few

pub returns-clause-is : goal.returns-clause-is
returns-clause-is c = λ b at image room. starts c.args.dataset b at c.in_ok-core.core c.args.read.items c.in_ok-lines.lines.items c.in_ok-lines.ensures (c.in_ok-core.ensures.is b at image room)
