use Rattle.std.proofs.Common.{◌∙◌, ◌*◌, ◌+◌, ◌<◌, ◌≤◌, arith, sym, ap, subst, length}
use Rattle.std.specs.List.{slice_index}
use Rattle.record_rows.specs.Rows.{EdgeRow}
use Rattle.record_rows.specs.Readings.{place_of}
use Rattle.edge_rows.proofs.ChainFacts.{reach, small, next_lesser, next_greater}
use Rattle.edge_rows.proofs.chains.next_edge.Goals as goal

pub fixed-requires-clause-within : goal.fixed-requires-clause-within
fixed-requires-clause-within g c = let (d, b, log, made, e, i, h) = c.requires.edge in reach d b log _ i c.args.edge (EdgeRow made e) h

pub pointer-requires-clause-within : goal.pointer-requires-clause-within
pointer-requires-clause-within g c =
    let (d, b, log, made, e, i, h) = c.requires.edge in
    subst (λ w. 8 * c.args.edge + 8 ≤ length (g.W.Words.words w)) (sym c.fixed.ensures.same) (reach d b log _ i c.args.edge (EdgeRow made e) h)

pub pointer-requires-clause-place : goal.pointer-requires-clause-place
pointer-requires-clause-place g c =
    let (d, b, log, made, e, i, h) = c.requires.edge in
    subst (λ w. slice_index (g.W.Words.words w) (8 * c.args.edge + 5) < 4294967296) (sym c.fixed.ensures.same) (small d b log _ i c.args.edge 1 (EdgeRow made e) h (omega arith))

pub pointer-requires-else-fixed-sv-clause-within : goal.pointer-requires-else-fixed-sv-clause-within
pointer-requires-else-fixed-sv-clause-within g c =
    let (d, b, log, made, e, i, h) = c.requires.edge in
    subst (λ w. 8 * c.args.edge + 8 ≤ length (g.W.Words.words w)) (sym c.fixed.ensures.same) (reach d b log _ i c.args.edge (EdgeRow made e) h)

pub pointer-requires-else-fixed-sv-clause-place : goal.pointer-requires-else-fixed-sv-clause-place
pointer-requires-else-fixed-sv-clause-place g c =
    let (d, b, log, made, e, i, h) = c.requires.edge in
    subst (λ w. slice_index (g.W.Words.words w) (8 * c.args.edge + 6) < 4294967296) (sym c.fixed.ensures.same) (small d b log _ i c.args.edge 2 (EdgeRow made e) h (omega arith))

pub returns-then-fixed-sv-clause-is : goal.returns-then-fixed-sv-clause-is
returns-then-fixed-sv-clause-is g c = λ d b log made e i h t.
    c.pointer.ensures.is
    ∙ ap (λ w. place_of (slice_index (g.W.Words.words w) (8 * c.args.edge + 5))) c.fixed.ensures.same
    ∙ next_lesser d b log _ i c.args.edge made e c.args.sv h (sym c.fixed.ensures.is ∙ c.if-fixed-sv.true ∙ c.sv.view_is)

pub returns-else-fixed-sv-clause-is : goal.returns-else-fixed-sv-clause-is
returns-else-fixed-sv-clause-is g c = λ d b log made e i h t.
    c.pointer-else-fixed-sv.ensures.is
    ∙ ap (λ w. place_of (slice_index (g.W.Words.words w) (8 * c.args.edge + 6))) c.fixed.ensures.same
    ∙ next_greater d b log _ i c.args.edge made e c.args.sv h t (λ q. c.if-fixed-sv.false (c.fixed.ensures.is ∙ q ∙ sym c.sv.view_is))
