use Rattle.std.proofs.Common.{rules, refl}
use Rattle.std.proofs.lemmas.List.Sorted.{answers_always, IsNonDecreasingBy-from_sort}
use Rattle.octree_layers.proofs.Steps.{kept_order}
use Rattle.made_links.specs.declared.finding.Child.{Child}
use Rattle.made_links.proofs.ordering.by_parent.Goals as goal

pub returns : goal.returns
returns c = record {
  moved = c.sort_by_key.ensures.permutation;
  same = kept_order (λ (x : Child). x.parent) (λ n. record { id = n; spot = n; least = n; parent = n }) (λ n. refl) c.args.children.items c.sort_by_key.new.self.items
      (c.sort_by_key.ensures.stable (λ (x : Child). x.parent) (answers_always _ _ _ (λ f a r g h. search rules)));
  rising =
      IsNonDecreasingBy-from_sort (λ (x : Child). x.parent) c.sort_by_key.new.self.items
      (c.in-Ok.ensures.sorted (λ x. x.parent) (answers_always _ _ _ (λ f a r g h. search rules)));
}
