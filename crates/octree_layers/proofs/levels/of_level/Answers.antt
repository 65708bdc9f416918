use Rattle.std.proofs.Common.{rules, of_calls, ◌≡◌, true, false, List, ltb, leb, take, ◌∙◌, ap, subst}
use Rattle.std.proofs.lemmas.Fn.{always_returns_same}
use Rattle.std.specs.List.Sorted.{IsPartitionedBy, IsPartitionPoint}
use Rattle.octree_layers.specs.declared.levels.PlacedEdge.{PlacedEdge}
use Rattle.octree_layers.proofs.Placing.{of_number}
use Rattle.octree_layers.proofs.levels.of_level.Goals as goal

pub returns : goal.returns
returns c =
    let first = c.partition_point-first.ensures.partitioned (λ (e : PlacedEdge). ltb e.level c.args.level) (always_returns_same _ _ _ (λ a r f k. search (rules, of_calls))) in
    let count = c.partition_point-count.ensures.partitioned (λ (e : PlacedEdge). leb e.level c.args.level) (always_returns_same _ _ _ (λ a r f k. search (rules, of_calls))) in
    let count' = subst (λ (xs : List PlacedEdge). IsPartitionedBy (λ e. leb e.level c.args.level) xs → IsPartitionPoint (λ e. leb e.level c.args.level ≡ true) (λ e. leb e.level c.args.level ≡ false) xs c.partition_point-count.result) c.split_at.ensures.back count in
    c.split_at-2.ensures.front ∙ (ap (take c.partition_point-count.result) c.split_at.ensures.back
    ∙ of_number (λ (e : PlacedEdge). e.level) c.args.level c.args.edges.now c.requires.rising c.partition_point-first.result c.partition_point-count.result first count')
