use Rattle.std.proofs.Common.{◌∙◌, ◌<◌, ◌≤◌, sym, subst}
use Rattle.record_rows.specs.Readings.{Image}
use Rattle.edge_rows.proofs.BaseSearch.{record_at, found_none, found_other, found_some}
use Rattle.edge_rows.proofs.base_edges.base_edge.Goals as goal

pub returns-then-place-count-clause-found : goal.returns-then-place-count-clause-found
returns-then-place-count-clause-found g c = λ d b log i.
    let n = c.count.ensures.is d b log (subst (λ w. Image d b log (g.W.Words.words w)) (sym c.lower-place.ensures.same) i) in
    found_none d b log _ i c.args.pair.now c.lower-place.result (c.lower-place.ensures.is d b log i) (subst (λ k. k ≤ c.lower-place.result) n c.if-place-count.true)

pub is_base_of-requires : goal.is_base_of-requires
is_base_of-requires g c =
    let (d, b, log, i) = c.requires.image in
    let j = subst (λ w. Image d b log (g.W.Words.words w)) (sym c.lower-place.ensures.same) i in
    let r = record_at d b log _ i c.lower-place.result (subst (λ k. c.lower-place.result < k) (c.count.ensures.is d b log j) c.if-place-count.false) in
    record { «record» = (d, b, log, r.0, j, r.1) }

pub returns-then-is_base_of-clause-found : goal.returns-then-is_base_of-clause-found
returns-then-is_base_of-clause-found g c = λ d b log i.
    let j = subst (λ w. Image d b log (g.W.Words.words w)) (sym c.lower-place.ensures.same) i in
    let r = record_at d b log _ i c.lower-place.result (subst (λ k. c.lower-place.result < k) (c.count.ensures.is d b log j) c.if-place-count.false) in
    found_some d b log _ i c.args.pair.now c.lower-place.result r.0 r.1 (sym (c.is_base_of.ensures.is d b log r.0 j r.1) ∙ c.if-is_base_of.true)

pub returns-else-is_base_of-clause-found : goal.returns-else-is_base_of-clause-found
returns-else-is_base_of-clause-found g c = λ d b log i.
    let j = subst (λ w. Image d b log (g.W.Words.words w)) (sym c.lower-place.ensures.same) i in
    let r = record_at d b log _ i c.lower-place.result (subst (λ k. c.lower-place.result < k) (c.count.ensures.is d b log j) c.if-place-count.false) in
    found_other d b log _ i c.args.pair.now c.lower-place.result r.0 (c.lower-place.ensures.is d b log i) r.1 (sym (c.is_base_of.ensures.is d b log r.0 j r.1) ∙ c.if-is_base_of.false)
