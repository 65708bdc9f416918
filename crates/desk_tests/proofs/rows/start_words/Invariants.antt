use Rattle.desk_tests.proofs.rows.start_words.Given as goal

abbrev pub ghost-start : goal.ghost-start
ghost-start g a = g.told
