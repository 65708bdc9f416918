use Rattle.desk_tests.proofs.Passing.{told_of}
use Rattle.desk_tests.proofs.rows.begin.Given as goal

abbrev pub ghost-start_words : goal.ghost-start_words
ghost-start_words a = told_of a.dataset.now a._base.now a.words.words
