use Rattle.std.proofs.Common.{◌≡◌, false, is_some, subst, arith, ◌∙◌, sym}
use Rattle.graph_model.proofs.Walks.{has_decides}
use Rattle.graph_model.proofs.FirstOpen.{find_at, find_none}
use Rattle.graph_model.proofs.ListLemmas.{any_default}
use Rattle.min_cut.specs.Tree.{visit_at}
use Rattle.min_cut.proofs.search.first_visited.Goals as goal

pub returns-clause-none : goal.returns-clause-none
returns-clause-none c v m =
    let (j, k, e) = (has_decides c.args.sinks.now v).0 m in
    subst (λ x. is_some (visit_at c.args.visits.now x) ≡ false) (any_default c.args.sinks.now j 0 v k ∙ e) (c.loop-t.invariant j (omega arith))

pub returns-then-is_some-clause-first : goal.returns-then-is_some-clause-first
returns-then-is_some-clause-first c = sym (find_at (λ t. is_some (visit_at c.args.visits.now t)) c.args.sinks.now c.loop-t.t-index 0 c.loop-t-test.true c.loop-t.invariant (sym c.is_some.ensures ∙ c.if-is_some.true))

pub returns-clause-first : goal.returns-clause-first
returns-clause-first c = sym (find_none (λ t. is_some (visit_at c.args.visits.now t)) c.args.sinks.now 0 (λ k l. c.loop-t.invariant k (omega arith)))
