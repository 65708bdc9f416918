use Rattle.std.proofs.Common.{◌∙◌, arith}
use Rattle.record_rows.specs.Rows.{EdgeRow}
use Rattle.edge_rows.proofs.ChainFacts.{reach, small, first_change_is}
use Rattle.edge_rows.proofs.chains.first_change.Goals as goal

pub pointer-requires-clause-within : goal.pointer-requires-clause-within
pointer-requires-clause-within g c = let (d, b, log, made, e, i, h) = c.requires.edge in reach d b log _ i c.args.edge (EdgeRow made e) h

pub pointer-requires-clause-place : goal.pointer-requires-clause-place
pointer-requires-clause-place g c = let (d, b, log, made, e, i, h) = c.requires.edge in small d b log _ i c.args.edge 0 (EdgeRow made e) h (omega arith)

pub returns-clause-is : goal.returns-clause-is
returns-clause-is g c = λ d b log made e i h. c.pointer.ensures.is ∙ first_change_is d b log _ i c.args.edge made e h
