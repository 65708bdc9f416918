use Rattle.std.proofs.Common.{ℕ, rules}
use Rattle.std.proofs.lemmas.List.Sorted.{answers_always}
use Rattle.base_rows.specs.declared.lists.BaseEdge.{BaseEdge}
use Rattle.octree_layers.proofs.EdgeOrder.{sorted_edges}
use Rattle.octree_layers.proofs.edging.by_pair.Goals as goal

ends : BaseEdge → ℕ × ℕ
ends x = (x.edge.pair.a, x.edge.pair.b)

pub returns-clause-sorted : goal.returns-clause-sorted
unfolding ends
returns-clause-sorted c =
    sorted_edges c.args.edges.items c.sort_unstable_by_key.new.self.items c.requires.once c.sort_unstable_by_key.ensures.permutation (c.sort_unstable_by_key.ensures.sorted ends (answers_always _ _ _ (λ f a r g h. search rules)))
