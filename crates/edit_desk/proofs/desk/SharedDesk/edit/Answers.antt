use Rattle.std.proofs.Common.{sym, subst}
use Rattle.edit_desk.specs.Desk.{Edits}
use Rattle.edit_desk.proofs.Going.{edits-on, edits-went, went-on}
use Rattle.edit_desk.proofs.TurnFacts.{early-edits}
use Rattle.edit_desk.proofs.desk.SharedDesk.edit.Goals as goal

pub returns-in-Pinned-clause-edits : goal.returns-in-Pinned-clause-edits
returns-in-Pinned-clause-edits g c =
    edits-on c.args.pass.now.view c.pin_all.new.pass.view c.finish.new.pass.view c.args.edit c.args.line c.finish.result c.pin_all.ensures.stays c.finish.ensures.edits

pub returns-in-Refused-clause-edits : goal.returns-in-Refused-clause-edits
returns-in-Refused-clause-edits g c =
    let w = c.pin_all.new.pass.view in
    let settled = c.in-Refused.ensures.settled in
    subst (λ r. Edits c.args.pass.now.view c.args.edit c.args.line r w) (sym c.refusal_reply.ensures)
    (early-edits c.args.pass.now.view w c.args.edit c.args.line c.in-Refused.refusal c.in-Refused.seen c.in-Refused.ensures.stays settled.1 settled.2)

pub returns-in-Pinned-clause-went : goal.returns-in-Pinned-clause-went
returns-in-Pinned-clause-went g c =
    went-on c.args.pass.now.view c.pin_all.new.pass.view c.finish.new.pass.view c.pin_all.ensures.stays.went
    (edits-went c.pin_all.new.pass.view c.finish.new.pass.view c.args.edit c.args.line c.finish.result c.finish.ensures.edits)
