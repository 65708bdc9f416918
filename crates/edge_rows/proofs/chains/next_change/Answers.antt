use Rattle.std.proofs.Common.{◌∙◌, arith}
use Rattle.record_rows.specs.Rows.{ChangeRow}
use Rattle.edge_rows.proofs.ChainFacts.{reach, small, next_change_is}
use Rattle.edge_rows.proofs.chains.next_change.Goals as goal

pub pointer-requires-clause-within : goal.pointer-requires-clause-within
pointer-requires-clause-within g c = let (d, b, log, entry, x, i, h) = c.requires.change in reach d b log _ i c.args.change (ChangeRow entry x) h

pub pointer-requires-clause-place : goal.pointer-requires-clause-place
pointer-requires-clause-place g c = let (d, b, log, entry, x, i, h) = c.requires.change in small d b log _ i c.args.change 1 (ChangeRow entry x) h (omega arith)

pub returns-clause-is : goal.returns-clause-is
returns-clause-is g c = λ d b log entry x i h. c.pointer.ensures.is ∙ next_change_is d b log _ i c.args.change entry x h
