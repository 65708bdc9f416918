use Rattle.std.proofs.Common.{arith}
use Rattle.row_tests.proofs.Emptied.{few_words}
use Rattle.row_tests.proofs.emptying.empty_edges.Goals as goal

pub overflow_cast-place-end : goal.overflow_cast-place-end
overflow_cast-place-end c =
    let t = c.requires.tells in
    let f = few_words t.d t.b t.log _ t.image in
    let n = c.len.ensures in
    omega (arith, f, n)
