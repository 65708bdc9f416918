use Rattle.thread_tests.specs.Samples.{merge}
use Rattle.thread_tests.proofs.publishing.publish.Given as goal

abbrev pub ghost-publish_merge : goal.ghost-publish_merge
ghost-publish_merge a = merge
