use Rattle.std.proofs.Common.{arith}
use Rattle.edge_rows.proofs.BaseSearch.{counted, records_few}
use Rattle.entry_lists.proofs.changes.count.Goals as goal

pub overflow_cast-result : goal.overflow_cast-result
overflow_cast-result g c = let (d, b, log, i) = c.requires.image in let n = counted d b log _ i in let m = records_few d b log _ i in let e = c.len.ensures in omega (arith, n, m, e)

pub returns : goal.returns
returns g c = record { is = λ d b log i. let n = counted d b log _ i in let e = c.len.ensures in omega (arith, n, e); few = (let (d, b, log, i) = c.requires.image in let n = counted d b log _ i in let m = records_few d b log _ i in let e = c.len.ensures in omega (arith, n, m, e)) }
