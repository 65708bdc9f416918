use Rattle.std.proofs.Common.{◌++◌, ◌∷◌, [], ℕ, List, sym, ◌∙◌, ap, subst}
use Rattle.std.specs.List.{filter, range_with_len}
use Rattle.std.proofs.lemmas.List.Elements.{filter-append}
use Rattle.octree_layers.proofs.Steps.{range_more}
use Rattle.made_links.specs.Children.{AreBelow, child_at_place, has_parent}
use Rattle.made_links.proofs.finding.children.Goals as goal

pub loop-place-preserved : goal.loop-place-preserved
loop-place-preserved g c =
    let i = c.loop-place.invariant in
    let n : ℕ = c.loop-place.place in
    record {
      same = c.put_child.ensures.same ∙ i.same;
      leasts = c.in_ok-put_child.ensures.leasts
          ∙ (ap (λ (xs : List ℕ). xs ++ child_at_place c.args.below_firsts.now c.args.firsts.now c.args.ranks.now c.loop-place.place) i.leasts
          ∙ sym (ap (filter (has_parent c.args.below_firsts.now c.args.firsts.now c.args.ranks.now)) (range_more c.loop-place.place)
          ∙ filter-append (has_parent c.args.below_firsts.now c.args.firsts.now c.args.ranks.now) (range_with_len 0 c.loop-place.place) (c.loop-place.place ∷ [])));
      parents = c.in_ok-put_child.ensures.parents i.parents;
      are = λ d b log e is high.
          c.in_ok-put_child.ensures.are d b log e
          (subst (λ w. AreBelow d b log e (g.W.Words.words w) c.args.prefix c.args.ids.now c.args.layer c.args.below_firsts.now c.args.below.now) (sym i.same) is)
          high (i.are d b log e is high);
    }
