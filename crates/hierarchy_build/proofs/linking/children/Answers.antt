use Rattle.std.proofs.Common.{◌≡◌, length, map, refl, ◌∙◌, ap, arith}
use Rattle.std.specs.List.{range_with_len}
use Rattle.hierarchy_build.specs.Links.{child_link, child_links}
use Rattle.hierarchy_build.proofs.Linked.{range_step}
use Rattle.hierarchy_build.proofs.linking.children.Goals as goal

pub loop-place-preserved : goal.loop-place-preserved
loop-place-preserved c =
    range_step (child_link c.args.first_child c.args.first_parent c.args.leads.now c.args.firsts.now c.args.ranks.now) c.loop-place.place c.loop-place.list.items c.push.new.self.items _
    c.loop-place.invariant c.in-Ok.ensures.items refl

pub returns : goal.returns
unfolding child_links
returns c =
    let e : c.loop-place.place ≡ length c.args.leads.now = omega (arith, c.loop-place-test.false, c.loop-place.auto.place-end) in
    c.loop-place.invariant ∙ ap (λ n. map (child_link c.args.first_child c.args.first_parent c.args.leads.now c.args.firsts.now c.args.ranks.now) (range_with_len 0 n)) e
