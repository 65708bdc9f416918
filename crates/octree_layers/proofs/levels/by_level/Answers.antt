use Rattle.std.proofs.Common.{rules}
use Rattle.std.proofs.lemmas.List.Sorted.{answers_always, IsNonDecreasingBy-from_sort}
use Rattle.octree_layers.specs.declared.levels.PlacedEdge.{PlacedEdge}
use Rattle.octree_layers.proofs.levels.by_level.Goals as goal

pub returns-clause-rising : goal.returns-clause-rising
returns-clause-rising c =
    IsNonDecreasingBy-from_sort (λ (e : PlacedEdge). e.level) c.sort_unstable_by_key.new.self.items
    (c.sort_unstable_by_key.ensures.sorted (λ e. e.level) (answers_always _ _ _ (λ f a r g h. search rules)))
