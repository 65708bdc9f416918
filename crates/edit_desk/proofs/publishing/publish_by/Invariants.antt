use Rattle.edit_desk.proofs.publishing.publish_by.Given as goal

abbrev pub ghost-publish : goal.ghost-publish
ghost-publish g a = g.entry
