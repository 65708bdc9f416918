use Rattle.desks.proofs.SeatFacts.{edits}
use Rattle.desks.proofs.seat.SeatDesk.edit.Goals as goal

pub returns-clause-edits : goal.returns-clause-edits
returns-clause-edits g c = edits c.args.self.now.pass.view c.edit.new.pass.view c.args.edit c.args.line c.edit.result c.requires.some c.edit.ensures.edits
