use Rattle.std.proofs.Common.{◌∙◌, arith}
use Rattle.record_rows.specs.Rows.{SupervoxelRow}
use Rattle.edge_rows.proofs.ChainFacts.{reach, small, first_edge_is}
use Rattle.edge_rows.proofs.chains.first_edge.Goals as goal

pub pointer-requires-clause-within : goal.pointer-requires-clause-within
pointer-requires-clause-within g c = let (d, b, log, v, i, h) = c.requires.supervoxel in reach d b log _ i c.args.sv (SupervoxelRow v) h

pub pointer-requires-clause-place : goal.pointer-requires-clause-place
pointer-requires-clause-place g c = let (d, b, log, v, i, h) = c.requires.supervoxel in small d b log _ i c.args.sv 0 (SupervoxelRow v) h (omega arith)

pub returns-clause-is : goal.returns-clause-is
returns-clause-is g c = λ d b log v i h. c.pointer.ensures.is ∙ first_edge_is d b log _ i c.args.sv v h
