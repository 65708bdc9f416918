use Rattle.thread_tests.proofs.publishing.publish_merge.Given as goal

abbrev pub ghost-publish : goal.ghost-publish
ghost-publish g a = g.entry
