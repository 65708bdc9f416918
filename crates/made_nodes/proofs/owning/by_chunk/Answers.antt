use Rattle.std.proofs.Common.{rules, refl}
use Rattle.std.proofs.lemmas.List.Sorted.{answers_always, IsNonDecreasingBy-from_sort}
use Rattle.made_nodes.specs.declared.owning.Owner.{Owner}
use Rattle.octree_layers.proofs.Steps.{kept_order}
use Rattle.made_nodes.proofs.owning.by_chunk.Goals as goal

pub returns : goal.returns
returns c = record {
  moved = c.sort_by_key.ensures.permutation;
  same = kept_order (λ (o : Owner). o.chunk) (λ n. record { chunk = n; least = 0 }) (λ n. refl) c.args.owners.items c.sort_by_key.new.self.items (c.sort_by_key.ensures.stable (λ (o : Owner). o.chunk) (answers_always _ _ _ (λ f a r g h. search rules)));
  rising =
      IsNonDecreasingBy-from_sort (λ (o : Owner). o.chunk) c.sort_by_key.new.self.items
      (c.in-Ok.ensures.sorted (λ o. o.chunk) (answers_always _ _ _ (λ f a r g h. search rules)));
}
