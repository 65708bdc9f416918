use Rattle.std.proofs.Common.{◌∙◌, ◌<◌, sym, subst, arith}
use Rattle.record_rows.specs.Rows.{EdgeRow}
use Rattle.edge_rows.proofs.ChainFacts.{reach}
use Rattle.edge_rows.proofs.FieldFacts.{strength_is, weight_is, strength_small, weight_glue, weight_affinity}
use Rattle.edge_rows.proofs.fields.weight_of.Goals as goal

pub fixed-strength-requires-clause-within : goal.fixed-strength-requires-clause-within
fixed-strength-requires-clause-within g c = let (d, b, log, made, e, i, h) = c.requires.edge in reach d b log _ i c.args.edge (EdgeRow made e) h

pub overflow_cast-result : goal.overflow_cast-result
overflow_cast-result g c =
    let (d, b, log, made, e, i, h) = c.requires.edge in
    let small : c.fixed-strength.result < 4294967296 = subst (λ x. x < 4294967296) (sym (c.fixed-strength.ensures.is ∙ strength_is d b log _ i c.args.edge made e h)) (strength_small e.weight (weight_is d b log _ i c.args.edge made e h)) in
    omega (arith, small)

pub returns-then-strength-eq0-clause-is : goal.returns-then-strength-eq0-clause-is
returns-then-strength-eq0-clause-is g c = λ d b log made e i h.
    weight_glue e.weight (weight_is d b log _ i c.args.edge made e h) (sym (c.fixed-strength.ensures.is ∙ strength_is d b log _ i c.args.edge made e h) ∙ c.if-strength-eq0.true)

pub returns-else-strength-eq0-clause-is : goal.returns-else-strength-eq0-clause-is
returns-else-strength-eq0-clause-is g c = λ d b log made e i h.
    weight_affinity e.weight c.fixed-strength.result (c.fixed-strength.ensures.is ∙ strength_is d b log _ i c.args.edge made e h) c.if-strength-eq0.false
