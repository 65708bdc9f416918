use Rattle.std.proofs.Common.{arith}
use Rattle.record_rows.specs.Rows.{HeaderRow}
use Rattle.record_rows.proofs.ImageFacts.{parent_image, header}
use Rattle.edge_rows.proofs.ChainFacts.{reach}
use Rattle.edge_rows.proofs.BaseSearch.{first_counted, first_within, records_few}
use Rattle.edge_rows.proofs.base_edges.first_place.Goals as goal

pub fixed-word-requires-clause-within : goal.fixed-word-requires-clause-within
fixed-word-requires-clause-within g c = let (d, b, log, i) = c.requires.image in reach d b log _ i 0 (HeaderRow d _ _) (header d b log _ (parent_image d b log _ i))

pub overflow_cast-result : goal.overflow_cast-result
overflow_cast-result g c =
    let (d, b, log, i) = c.requires.image in
    let e = first_counted d b log _ i c.fixed-word.ensures.is in
    let l = first_within d b log _ i in
    let m = records_few d b log _ i in
    omega (arith, e, l, m)

pub returns-clause-is : goal.returns-clause-is
returns-clause-is g c = λ d b log i. first_counted d b log _ i c.fixed-word.ensures.is
