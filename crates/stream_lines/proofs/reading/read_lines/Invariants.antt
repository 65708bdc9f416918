use Rattle.std.proofs.Common.{◌<◌, ◌^◌, length}
use Rattle.stream_lines.proofs.ReadSoFar.{ReadSoFar}
use Rattle.stream_lines.proofs.reading.read_lines.Given as goal

abbrev pub invariant-loop : goal.invariant-loop
invariant-loop g l = ReadSoFar g.S.Source.left g.S.Source.faults l.fn.session l.session l.lines.items × (length l.lines.items < 2 ^ 32)
