use Rattle.std.proofs.Common.{◌∙◌, Some, refl, sym, ap, subst}
use Rattle.op_model.specs.Edges.{same_pair}
use Rattle.record_rows.specs.Readings.{Image}
use Rattle.edge_rows.specs.BaseEdges.{base_of}
use Rattle.edge_rows.proofs.BaseSearch.{of_base_row, of_others, of_told}
use Rattle.edge_rows.proofs.base_edges.is_base_of.Goals as goal

pub returns-then-not-is_base-clause-is : goal.returns-then-not-is_base-clause-is
returns-then-not-is_base-clause-is g c = λ d b log row i h. sym (of_others c.args.pair.now row (sym (c.is_base.ensures.is d b log row i h) ∙ c.if-not-is_base.true))

pub pair_of-ends-requires : goal.pair_of-ends-requires
pair_of-ends-requires g c =
    let (d, b, log, row, i, h) = c.requires.record in
    let x = of_base_row row (sym (c.is_base.ensures.is d b log row i h) ∙ c.if-not-is_base.false) in
    record { edge = (d, b, log, 0, x.0, subst (λ w. Image d b log (g.W.Words.words w)) (sym c.is_base.ensures.same) i, h ∙ ap (λ r. Some r) x.1) }

pub returns-clause-is : goal.returns-clause-is
returns-clause-is g c = λ d b log row i h.
    let x = of_base_row row (sym (c.is_base.ensures.is d b log row i h) ∙ c.if-not-is_base.false) in
    let ends = c.pair_of-ends.ensures.is d b log 0 x.0 (subst (λ w. Image d b log (g.W.Words.words w)) (sym c.is_base.ensures.same) i) (h ∙ ap (λ r. Some r) x.1) in
    c.is_same.ensures ∙ (ap (λ q. same_pair q c.args.pair.now) ends ∙ sym (ap (base_of c.args.pair.now) x.1 ∙ of_told c.args.pair.now x.0 _ refl))
