use Rattle.std.proofs.Common.{◌∙◌, sym, ap, subst}
use Rattle.record_rows.proofs.FirstRoots.{none_first}
use Rattle.timestamp_reader.specs.Places.{NodeAt, first_from}
use Rattle.timestamp_reader.proofs.first_roots.if_first.Goals as goal

pub returns-then-node-eq0-clause-at : goal.returns-then-node-eq0-clause-at
returns-then-node-eq0-clause-at g c d b log k i n =
    let a = subst (NodeAt d b log k) c.in-Some.is n in
    (a.0, a.1, a.2, a.3, sym (c.node.ensures.is d b log a.1 i a.2).2 ∙ c.if-node-eq0.true)

pub returns-else-node-eq0-clause-rest : goal.returns-else-node-eq0-clause-rest
unfolding first_from
returns-else-node-eq0-clause-rest g c d b log k i n =
    let a = subst (NodeAt d b log k) c.in-Some.is n in
    sym (ap (first_from d b log k) c.in-Some.is ∙ none_first d b i.dataset i.base log i.legal k c.in-Some.spot a.1 a.2 (λ z. c.if-node-eq0.false ((c.node.ensures.is d b log a.1 i a.2).2 ∙ z)))
