use Rattle.std.proofs.Common.{sym, subst}
use Rattle.shared_rows.specs.Known.{Known}
use Rattle.edit_desk.specs.Desk.{Edits}
use Rattle.edit_desk.proofs.TurnFacts.{unplanned-edits}
use Rattle.edit_desk.proofs.desk.SharedDesk.plan_and_commit.Goals as goal

pub returns-in-Err-clause-edits : goal.returns-in-Err-clause-edits
returns-in-Err-clause-edits g c =
    let v = c.args.pass.now.view in
    let h = unplanned-edits v c.args.edit c.args.line c.in-Err.refusal c.args.seen c.in-Err.ensures.is c.requires.seen in
    subst (λ (k : Known). Edits v c.args.edit c.args.line c.refusal_reply.result k.view) (sym c.plan_at.ensures.same) (subst (λ r. Edits v c.args.edit c.args.line r v) (sym c.refusal_reply.ensures) h)
