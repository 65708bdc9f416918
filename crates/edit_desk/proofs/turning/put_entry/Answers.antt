use Rattle.std.proofs.Common.{rules}
use Rattle.edit_desk.proofs.TurnFacts.{remade-adds, remade-put}
use Rattle.edit_desk.proofs.turning.put_entry.Goals as goal

pub publish_edit-seen-requires-clause-adds : goal.publish_edit-seen-requires-clause-adds
publish_edit-seen-requires-clause-adds g c =
    let plan = c.args.plan.now in
    remade-adds c.args.pass.now.view plan.edit plan.changed c.args.stamp c.args.remade c.requires.pinned c.requires.plan.1 c.requires.client (search rules) (search rules) c.requires.remade

pub returns-clause-put : goal.returns-clause-put
returns-clause-put g c =
    let plan = c.args.plan.now in
    remade-put c.args.pass.now.view plan.edit plan.changed c.args.stamp c.args.remade c.requires.pinned c.requires.plan.1 c.requires.client (search rules) (search rules) c.requires.remade
    c.publish_edit-seen.new.pass.view c.publish_edit-seen.result c.publish_edit-seen.ensures.puts c.publish_edit-seen.ensures.length
