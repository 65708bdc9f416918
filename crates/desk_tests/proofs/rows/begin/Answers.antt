use Rattle.std.proofs.Common.{refl}
use Rattle.desk_tests.proofs.Passing.{told_opens}
use Rattle.desk_tests.proofs.rows.begin.Goals as goal

pub start_words-requires : goal.start_words-requires
start_words-requires c = ((refl, refl), (told_opens c.args.dataset.now c.in_ok-base.base c.in-Ok.words.words c.in-Ok.ensures.image, c.requires.clients))
