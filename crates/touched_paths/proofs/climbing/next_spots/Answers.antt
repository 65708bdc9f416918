use Rattle.std.proofs.Common.{◌∙◌, refl, sym, subst}
use Rattle.op_model.specs.Labels.{node}
use Rattle.record_rows.specs.Readings.{HoldsId, ParentImage}
use Rattle.touched_paths.proofs.Climbs.{Above, climbed_below, climbed_next, climbed_spot, item_has, whole_log}
use Rattle.touched_paths.proofs.Covering.{covers_all, covers_more, covers_none}
use Rattle.touched_paths.proofs.climbing.next_spots.Goals as goal

pub loop-place-init : goal.loop-place-init
loop-place-init g c = record {
  same = refl;
  stand = λ d b log layer us l k. covers_none (Above d b log layer us) c.args.spots.now c.new-list.result.items c.new-list.ensures.items;
}

pub node_above-above-requires : goal.node_above-above-requires
node_above-above-requires g c =
    let r = c.requires.climbed in
    let below = climbed_spot r.0 r.1 r.2 _ c.args.prefix r.3 r.4 c.args.spots.now r.5 r.6 (g.W.Words.words c.loop-place.w)
    (subst (λ w. ParentImage r.0 r.1 r.2 (g.W.Words.words w)) (sym c.loop-place.invariant.same) r.6.image)
    c.index-spots-place.result (item_has c.args.spots.now c.loop-place.place c.index-spots-place.result c.loop-place-test.true c.index-spots-place.is) in
    record { below = (r.0, r.1, r.2, r.3, below.0, below.1) }

pub loop-place-preserved : goal.loop-place-preserved
loop-place-preserved g c =
    let inv = c.loop-place.invariant in
    record {
      same = c.node_above-above.ensures.same ∙ inv.same;
      stand = λ d b log layer us l k.
          covers_more (Above d b log layer us) c.args.spots.now c.loop-place.list.items c.put_spot.new.list.items c.loop-place.place c.index-spots-place.result c.node_above-above.result
          c.loop-place-test.true c.index-spots-place.is
          (λ u h at.
          subst (λ now. HoldsId d b log c.node_above-above.result (node d b now layer u)) (whole_log d b log c.args.prefix k.whole)
          (c.node_above-above.ensures.is d b log layer u
          (climbed_below d b log _ c.args.prefix layer us c.args.spots.now l k (g.W.Words.words c.loop-place.w) (subst (λ w. ParentImage d b log (g.W.Words.words w)) (sym inv.same) k.image) c.index-spots-place.result u h at)))
          c.in_ok-put_spot.ensures (inv.stand d b log layer us l k);
    }

pub returns-clause-ascending : goal.returns-clause-ascending
returns-clause-ascending g c = c.ascending_spots.ensures.ascending

pub returns-clause-is : goal.returns-clause-is
returns-clause-is g c d b log layer us l k =
    climbed_next d b log _ c.args.prefix layer us c.args.spots.now l k c.loop-place.list.items c.ascending_spots.result.items c.ascending_spots.ensures.same
    (covers_all (Above d b log layer us) c.args.spots.now c.loop-place.list.items c.loop-place.place c.loop-place-test.false (c.loop-place.invariant.stand d b log layer us l k))
