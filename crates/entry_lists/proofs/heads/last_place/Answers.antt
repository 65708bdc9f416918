use Rattle.std.proofs.Common.{arith}
use Rattle.record_rows.proofs.EntryRecords.{more_rows}
use Rattle.edge_rows.proofs.BaseSearch.{counted, records_few}
use Rattle.entry_lists.proofs.heads.last_place.Goals as goal

pub overflow_sub-result : goal.overflow_sub-result
overflow_sub-result g c = let (d, b, log, i) = c.requires.image in let n = counted d b log _ i in let s = more_rows d b log in let e = c.len.ensures in omega (arith, n, s, e)

pub overflow_cast-result : goal.overflow_cast-result
overflow_cast-result g c = let (d, b, log, i) = c.requires.image in let n = counted d b log _ i in let m = records_few d b log _ i in let e = c.len.ensures in omega (arith, n, m, e)

pub returns : goal.returns
returns g c = record { is = λ d b log i. let n = counted d b log _ i in let s = more_rows d b log in let e = c.len.ensures in omega (arith, n, s, e) }
