use Rattle.std.proofs.Common.{◌≡◌, ◌∙◌, ap, map, length, get_or, eqb, arith}
use Rattle.std.specs.List.{filter, range_with_len}
use Rattle.octree_layers.specs.Numbers.{owner, owners}
use Rattle.octree_layers.proofs.Steps.{owners_more}
use Rattle.octree_layers.proofs.numbering.owners.Goals as goal

pub loop-place-preserved : goal.loop-place-preserved
loop-place-preserved c =
    owners_more c.args.dataset.now c.args.base.now c.args.layer c.args.firsts.now c.loop-place.place c.loop-place.list.items c.push_owner.new.list.items c.loop-place.invariant c.in_ok-push_owner.ensures

pub returns : goal.returns
unfolding owners
returns c =
    let e : c.loop-place.place ≡ length c.args.base.now.supervoxels = omega (arith, c.loop-place-test.false, c.loop-place.auto.place-end, c.requires.count) in
    c.loop-place.invariant ∙ ap (λ n. map (owner c.args.dataset.now c.args.base.now c.args.layer) (filter (λ i. eqb (get_or c.args.firsts.now i 0) i) (range_with_len 0 n))) e
