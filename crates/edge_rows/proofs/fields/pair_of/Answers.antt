use Rattle.std.proofs.Common.{◌∙◌, ◌*◌, ◌+◌, ◌≤◌, sym, ap, subst, length}
use Rattle.std.specs.List.{slice_index}
use Rattle.record_rows.specs.Rows.{EdgeRow}
use Rattle.edge_rows.proofs.ChainFacts.{reach, lesser_is}
use Rattle.edge_rows.proofs.FieldFacts.{greater_is}
use Rattle.edge_rows.proofs.fields.pair_of.Goals as goal

pub fixed-a-requires-clause-within : goal.fixed-a-requires-clause-within
fixed-a-requires-clause-within g c = let (d, b, log, made, e, i, h) = c.requires.edge in reach d b log _ i c.args.edge (EdgeRow made e) h

pub fixed-b-requires-clause-within : goal.fixed-b-requires-clause-within
fixed-b-requires-clause-within g c =
    let (d, b, log, made, e, i, h) = c.requires.edge in
    subst (λ w. 8 * c.args.edge + 8 ≤ length (g.W.Words.words w)) (sym c.fixed-a.ensures.same) (reach d b log _ i c.args.edge (EdgeRow made e) h)

pub returns-clause-is : goal.returns-clause-is
returns-clause-is g c = λ d b log made e i h.
    let x = c.fixed-a.ensures.is ∙ lesser_is d b log _ i c.args.edge made e h in
    let y = c.fixed-b.ensures.is ∙ ap (λ w. slice_index (g.W.Words.words w) (8 * c.args.edge + 2)) c.fixed-a.ensures.same ∙ greater_is d b log _ i c.args.edge made e h in
    λ j. record { a = x j; b = y j }
