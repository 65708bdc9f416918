use Rattle.std.proofs.Common.{◌≡◌, length}
use Rattle.row_tests.specs.Logs.{TellsLog}
use Rattle.row_tests.proofs.emptying.empty_edges.Given as goal

abbrev pub invariant-loop-place : goal.invariant-loop-place
invariant-loop-place l = TellsLog l.w.words × (length l.w.words ≡ length l.fn.w.words)
