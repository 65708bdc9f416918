use Rattle.std.proofs.Common.{◌≡◌, take, drop}
use Rattle.request_lines.specs.Lines.{lines_of}
use Rattle.request_lines.proofs.Splitting.{prepending}
use Rattle.request_lines.proofs.lines.split_line.Given as goal

abbrev pub invariant-loop-at : goal.invariant-loop-at
invariant-loop-at l = lines_of l.bytes ≡ prepending (take l.at l.bytes) (lines_of (drop l.at l.bytes))
