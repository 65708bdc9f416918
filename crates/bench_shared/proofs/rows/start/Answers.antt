use Rattle.std.proofs.Common.{refl}
use Rattle.bench_shared.proofs.Passing.{told_opens}
use Rattle.bench_shared.proofs.rows.start.Goals as goal

pub start_words-requires : goal.start_words-requires
start_words-requires c = ((refl, refl), (told_opens c.args.dataset.now c.args.base.now c.in-Ok.words.words c.in-Ok.ensures.image))
