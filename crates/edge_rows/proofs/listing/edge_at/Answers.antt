use Rattle.std.proofs.Common.{sym, subst}
use Rattle.record_rows.specs.Readings.{Image}
use Rattle.edge_rows.specs.AtPrefix.{with_state}
use Rattle.edge_rows.proofs.listing.edge_at.Goals as goal

pub returns-clause-is : goal.returns-clause-is
unfolding with_state
returns-clause-is g c = λ d b log made e i h.
    let j = subst (λ w. Image d b log (g.W.Words.words w)) (sym c.pair_of-pair.ensures.same) i in
    let k = subst (λ w. Image d b log (g.W.Words.words w)) (sym c.weight_of-weight.ensures.same) j in
    let p = c.pair_of-pair.ensures.is d b log made e i h in
    let q = c.weight_of-weight.ensures.is d b log made e j h in
    let r = c.state_at-active.ensures.is d b log made e k h in
    λ x. record { pair = p x; weight = q x; active = r x }
