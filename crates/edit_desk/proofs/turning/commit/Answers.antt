use Rattle.std.proofs.Common.{sym, subst}
use Rattle.root_masks.specs.Plans.{IsPlan}
use Rattle.op_model.specs.Cuts.{Shows}
use Rattle.shared_rows.specs.Known.{Known}
use Rattle.shared_rows.specs.Plays.{Later, without_turn}
use Rattle.edit_desk.specs.Desk.{Edits}
use Rattle.edit_desk.specs.Pins.{Pinned}
use Rattle.edit_desk.proofs.PinFacts.{pinned-on, pinned-turn, plan-on}
use Rattle.edit_desk.proofs.TurnFacts.{turn-edits}
use Rattle.edit_desk.proofs.turning.commit.Goals as goal

pub append-put-requires-clause-pinned : goal.append-put-requires-clause-pinned
append-put-requires-clause-pinned g c =
    let edit = c.args.plan.edit in
    pinned-on c.take_turn.new.pass.view c.look-seen.new.pass.view edit c.look-seen.ensures.later (subst (λ (k : Known). Pinned edit k.view) (sym c.take_turn.ensures) (pinned-turn c.args.pass.now.view edit c.requires.pinned))

pub append-put-requires-clause-plan : goal.append-put-requires-clause-plan
append-put-requires-clause-plan g c =
    let edit = c.args.plan.edit in
    plan-on c.take_turn.new.pass.view c.look-seen.new.pass.view edit c.look-seen.ensures.later (subst (λ (k : Known). Pinned edit k.view) (sym c.take_turn.ensures) (pinned-turn c.args.pass.now.view edit c.requires.pinned))
    c.args.plan (subst (λ (k : Known). IsPlan k.view.dataset k.view.base k.view.log edit c.args.plan) (sym c.take_turn.ensures) c.requires.plan)

pub returns-clause-edits : goal.returns-clause-edits
returns-clause-edits g c =
    let v = c.args.pass.now.view in
    let edit = c.args.plan.edit in
    let u = c.look-seen.new.pass.view in
    let later = subst (λ (k : Known). Later k.view k.view u) c.take_turn.ensures c.look-seen.ensures.later in
    let pins = subst (λ (k : Known). Pinned edit k.view) (sym c.take_turn.ensures) (pinned-turn v edit c.requires.pinned) in
    let planned = subst (λ (k : Known). IsPlan k.view.dataset k.view.base k.view.log edit c.args.plan) (sym c.take_turn.ensures) c.requires.plan in
    let plan = plan-on c.take_turn.new.pass.view u edit c.look-seen.ensures.later pins c.args.plan planned in
    let shows = subst (λ s. Shows u.dataset u.base u.log edit s) (sym c.shown_of.ensures) plan.2 in
    let h = turn-edits v u c.append-put.new.pass.view edit c.args.line c.append-put.result c.shown_of.result c.look-seen.result later shows c.look-seen.ensures.length c.append-put.ensures.appends in
    subst (λ (k : Known). Edits v edit c.args.line c.reply_of.result k.view) (sym c.give_turn.ensures)
    (subst (λ r. Edits v edit c.args.line r (without_turn c.append-put.new.pass.view)) (sym c.reply_of.ensures) h)
