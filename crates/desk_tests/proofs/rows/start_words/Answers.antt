use Rattle.desk_tests.proofs.Passing.{all_ready}
use Rattle.desk_tests.proofs.rows.start_words.Goals as goal

pub returns : goal.returns
returns g c = let s = c.in-Ok.started in all_ready g.told c.args.dataset.now c.args.clients s.shared s.passes.items c.requires.0.1 c.in-Ok.ensures
