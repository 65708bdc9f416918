use Rattle.std.proofs.Common.{◌∙◌, refl, sym, subst}
use Rattle.record_rows.specs.Readings.{HoldsSupervoxel, ParentImage}
use Rattle.touched_paths.proofs.Climbs.{item_has}
use Rattle.touched_paths.proofs.Covering.{covers_all, covers_more, covers_none}
use Rattle.touched_paths.proofs.climbing.spots_of.Goals as goal

pub loop-place-init : goal.loop-place-init
loop-place-init g c = record {
  same = refl;
  stand = λ d b log i k. covers_none (λ p u. HoldsSupervoxel d b log p u) c.args.ids.now c.new-list.result.items c.new-list.ensures.items;
}

pub supervoxel_of-spot-requires : goal.supervoxel_of-spot-requires
supervoxel_of-spot-requires g c =
    let r = c.requires.known in
    record {
      known = (
        r.0,
        r.1,
        r.2,
        subst (λ w. ParentImage r.0 r.1 r.2 (g.W.Words.words w)) (sym c.loop-place.invariant.same) r.3,
        r.4 c.index-ids-place.result (item_has c.args.ids.now c.loop-place.place c.index-ids-place.result c.loop-place-test.true c.index-ids-place.is),
      );
    }

pub loop-place-preserved : goal.loop-place-preserved
loop-place-preserved g c =
    let inv = c.loop-place.invariant in
    record {
      same = c.supervoxel_of-spot.ensures.same ∙ inv.same;
      stand = λ d b log i k.
          covers_more (λ p u. HoldsSupervoxel d b log p u) c.args.ids.now c.loop-place.list.items c.put_spot.new.list.items c.loop-place.place c.index-ids-place.result c.supervoxel_of-spot.result
          c.loop-place-test.true c.index-ids-place.is
          (c.supervoxel_of-spot.ensures.is d b log (subst (λ w. ParentImage d b log (g.W.Words.words w)) (sym inv.same) i)
          (k c.index-ids-place.result (item_has c.args.ids.now c.loop-place.place c.index-ids-place.result c.loop-place-test.true c.index-ids-place.is)))
          c.in_ok-put_spot.ensures (inv.stand d b log i k);
    }

pub returns-clause-is : goal.returns-clause-is
returns-clause-is g c d b log i k =
    covers_all (λ p u. HoldsSupervoxel d b log p u) c.args.ids.now c.loop-place.list.items c.loop-place.place c.loop-place-test.false (c.loop-place.invariant.stand d b log i k)
