use Rattle.std.proofs.Common.{◌∙◌, ap, ◌/◌}
use Rattle.record_rows.specs.Rows.{EdgeRow}
use Rattle.edge_rows.proofs.ChainFacts.{reach}
use Rattle.edge_rows.proofs.FieldFacts.{made_is}
use Rattle.edge_rows.proofs.fields.made_by.Goals as goal

pub fixed-requires-clause-within : goal.fixed-requires-clause-within
fixed-requires-clause-within g c = let (d, b, log, made, e, i, h) = c.requires.edge in reach d b log _ i c.args.edge (EdgeRow made e) h

pub returns-clause-is : goal.returns-clause-is
returns-clause-is g c = λ d b log made e i h. ap (λ x. x / 4294967296) c.fixed.ensures.is ∙ made_is d b log _ i c.args.edge made e h
