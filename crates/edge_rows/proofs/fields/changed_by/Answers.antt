use Rattle.std.proofs.Common.{◌∙◌}
use Rattle.record_rows.specs.Rows.{ChangeRow}
use Rattle.edge_rows.proofs.ChainFacts.{reach}
use Rattle.edge_rows.proofs.FieldFacts.{changed_by_is}
use Rattle.edge_rows.proofs.fields.changed_by.Goals as goal

pub fixed-requires-clause-within : goal.fixed-requires-clause-within
fixed-requires-clause-within g c = let (d, b, log, entry, x, i, h) = c.requires.change in reach d b log _ i c.args.change (ChangeRow entry x) h

pub returns-clause-is : goal.returns-clause-is
returns-clause-is g c = λ d b log entry x i h. c.fixed.ensures.is ∙ changed_by_is d b log _ i c.args.change entry x h
