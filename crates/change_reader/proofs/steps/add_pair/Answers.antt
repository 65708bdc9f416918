use Rattle.std.proofs.Common.{◌∙◌, ap, sym, subst}
use Rattle.change_reader.specs.Walks.{IsInner, linked_end}
use Rattle.change_reader.proofs.steps.add_pair.Goals as goal

pub returns-clause-is : goal.returns-clause-is
returns-clause-is g c d b log i ka kb =
    c.in_ok-add_end-2.ensures.is d b log (subst (λ w. IsInner d b log (g.W.Words.words w) c.args.n) (sym c.in_ok-add_end.ensures.same) i) ka
    ∙ ap (linked_end d b log c.args.n c.args.roots.now c.args.changed.pair.a) (c.in_ok-add_end.ensures.is d b log i kb)
