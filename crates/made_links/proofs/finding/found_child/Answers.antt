use Rattle.std.proofs.Common.{◌≡◌, ◌-◌, ◌<◌, ℕ, true, length, map, get_or, sym, ◌∙◌, ap, subst, arith}
use Rattle.graph_model.specs.Lists.{has}
use Rattle.record_rows.specs.Chains.{has_id}
use Rattle.record_rows.specs.LogRows.{rows_of}
use Rattle.record_rows.specs.Readings.{HoldsId, ParentImage}
use Rattle.record_rows.specs.Versions.{child_at}
use Rattle.record_rows.specs.Words.{place_from}
use Rattle.record_rows.proofs.ImageFacts.{within}
use Rattle.node_reader.proofs.Climbs.{id_at_told}
use Rattle.entry_parts.specs.declared.made.MadeNode.{MadeNode}
use Rattle.made_nodes.proofs.Steps.{at_default}
use Rattle.made_links.proofs.Below.{as_many, known_at, new_named, node_has, old_named, old_placed}
use Rattle.made_links.proofs.Climb.{id_above}
use Rattle.made_links.proofs.finding.found_child.Goals as goal

pub returns-then-rank-ne0-clause-is : goal.returns-then-rank-ne0-clause-is
returns-then-rank-ne0-clause-is g c d b log e is high =
    let rank : ℕ = get_or c.args.below_ranks.now c.args.place 0 in
    let n = c.if-rank-ne0.true in
    let some : 0 < rank = omega (arith, n) in
    let h = c.requires.ranks.only c.args.place c.requires.place.0 some in
    let t = c.requires.ranks.there c.args.place h in
    let most = t.1 in
    let two = c.requires.below.5 in
    let many = as_many d b log e _ c.args.prefix c.args.ids.now c.args.layer c.args.below_firsts.now c.args.below.now is two high in
    let l : rank - 1 < length c.args.below.now.nodes.items = omega (arith, some, most, many) in
    let m = c.index-node.result.now in
    let same = ap (λ (m : MadeNode). m.id) c.index-node.ensures in
    record {
      named = same ∙ new_named d b log e _ c.args.prefix c.args.ids.now c.args.layer c.args.below_firsts.now c.args.below.now is two high (rank - 1) c.args.place m l t.2;
      new = λ z. subst (λ i. has (map (λ (m : MadeNode). m.id) c.args.below.now.nodes.items) i ≡ true) (sym same) (node_has c.args.below.now.nodes.items (rank - 1) m l);
      kept = λ z. absurd (omega (arith, z));
    }

pub id_of-requires : goal.id_of-requires
id_of-requires g c =
    let r = c.requires.below in
    let is = r.4 in
    let eq = at_default c.args.ids.now c.args.place c.index-ids-place.result c.requires.place.0 c.index-ids-place.is in
    let known = subst (λ v. has r.1.supervoxels v ≡ true) (sym eq) (known_at r.0 r.1 r.2 r.3 _ c.args.prefix c.args.ids.now c.args.layer c.args.below_firsts.now c.args.below.now is r.5 r.6 c.args.place c.requires.place.0) in
    let at = c.record_below-spot.ensures.is r.0 r.1 r.2 is.image known is.prefix_is r.6 in
    record { within = within r.0 r.1 r.2 _ (subst (λ w. ParentImage r.0 r.1 r.2 (g.W.Words.words w)) (sym c.record_below-spot.ensures.same) is.image) c.record_below-spot.result at.0 at.1 }

pub returns-clause-is : goal.returns-clause-is
returns-clause-is g c d b log e is high =
    let two = c.requires.below.5 in
    let place : ℕ = c.args.place in
    let spot : ℕ = c.record_below-spot.result in
    let v : ℕ = get_or c.args.ids.now c.args.place 0 in
    let eq = at_default c.args.ids.now c.args.place c.index-ids-place.result c.requires.place.0 c.index-ids-place.is in
    let hv = known_at d b log e _ c.args.prefix c.args.ids.now c.args.layer c.args.below_firsts.now c.args.below.now is two high c.args.place c.requires.place.0 in
    let known = subst (λ x. has b.supervoxels x ≡ true) (sym eq) hv in
    let at : HoldsId d b log c.record_below-spot.result (child_at d b log c.args.layer (get_or c.args.ids.now c.args.place 0)) =
    subst (λ x. HoldsId d b log c.record_below-spot.result (child_at d b log c.args.layer x)) eq (c.record_below-spot.ensures.is d b log is.image known is.prefix_is high) in
    let image = subst (λ w. ParentImage d b log (g.W.Words.words w)) (sym c.record_below-spot.ensures.same) is.image in
    let id = c.id_of.ensures.is ∙ id_at_told d b log _ image c.record_below-spot.result _ at in
    let none : has c.args.below.now.leasts.items c.args.place ≡ true → ⊥ = λ h. absurd (let t = (c.requires.ranks.there c.args.place h).0 in let f = c.if-rank-ne0.false in omega (arith, t, f)) in
    let first = λ (z : c.args.layer ≡ 2). subst (λ x. place_from (has_id x) 0 (rows_of d b log) ≡ c.record_below-spot.result) eq (c.record_below-spot.ensures.first d b log is.image known z) in
    record {
      named = id ∙ old_named d b log e _ c.args.prefix c.args.ids.now c.args.layer c.args.below_firsts.now c.args.below.now is two high c.args.place c.requires.place.0 c.requires.place.1 none;
      new = λ z. absurd (let a = id_above d b log c.record_below-spot.result _ at in omega (arith, a, z));
      kept = λ z. ap (λ x. place_from (has_id x) 0 (rows_of d b log)) id
          ∙ old_placed d b log e _ c.args.prefix c.args.ids.now c.args.layer c.args.below_firsts.now c.args.below.now is two high (get_or c.args.ids.now c.args.place 0) c.record_below-spot.result hv at first;
    }
