use Rattle.thread_tests.specs.Samples.{told}
use Rattle.thread_tests.proofs.samples.begin.Given as goal

abbrev pub ghost-start : goal.ghost-start
ghost-start a = told
