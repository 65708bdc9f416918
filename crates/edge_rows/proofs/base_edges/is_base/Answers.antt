use Rattle.std.proofs.Common.{◌∙◌, ap}
use Rattle.edge_rows.specs.BaseEdges.{base_word}
use Rattle.edge_rows.proofs.ChainFacts.{reach}
use Rattle.edge_rows.proofs.BaseSearch.{word_told}
use Rattle.edge_rows.proofs.base_edges.is_base.Goals as goal

pub fixed-word-requires-clause-within : goal.fixed-word-requires-clause-within
fixed-word-requires-clause-within g c = let (d, b, log, row, i, h) = c.requires.record in reach d b log _ i c.args.spot row h

pub returns-clause-is : goal.returns-clause-is
returns-clause-is g c = λ d b log row i h. c.is_base_word.ensures ∙ (ap base_word c.fixed-word.ensures.is ∙ word_told d b log _ i c.args.spot row h)
