use Rattle.std.proofs.Common.{rules}
use Rattle.std.proofs.lemmas.List.Sorted.{answers_always}
use Rattle.op_model.specs.declared.base.Edge.{Edge}
use Rattle.op_model.proofs.EdgeOrders.{less_before}
use Rattle.edge_rows.proofs.ordering.ascending.Goals as goal

pub returns-clause-same : goal.returns-clause-same
returns-clause-same c = c.sort_unstable_by_key.ensures.permutation

pub returns-clause-sorted : goal.returns-clause-sorted
returns-clause-sorted c =
    less_before c.sort_unstable_by_key.new.self.items (c.sort_unstable_by_key.ensures.sorted (λ (e : Edge). (e.pair.a, e.pair.b)) (answers_always _ _ _ (λ f a r g h. search rules)))
