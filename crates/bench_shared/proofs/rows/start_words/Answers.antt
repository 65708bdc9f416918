use Rattle.bench_shared.proofs.Passing.{all_free}
use Rattle.bench_shared.proofs.rows.start_words.Goals as goal

pub returns : goal.returns
returns g c = let s = c.in-Ok.started in all_free g.told 5 s.shared s.passes.items c.in-Ok.ensures
