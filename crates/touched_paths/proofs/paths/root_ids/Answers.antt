use Rattle.std.proofs.Common.{◌∙◌, refl, sym, subst}
use Rattle.record_rows.specs.Rows.{NodeRow}
use Rattle.record_rows.specs.Readings.{ParentImage}
use Rattle.record_rows.proofs.ImageFacts.{within}
use Rattle.node_reader.proofs.Climbs.{id_at_told}
use Rattle.touched_paths.proofs.Climbs.{item_has}
use Rattle.touched_paths.proofs.Covering.{covers_all, covers_more, covers_none}
use Rattle.touched_paths.proofs.Passing.{Named, roots_are}
use Rattle.touched_paths.proofs.paths.root_ids.Goals as goal

pub loop-place-init : goal.loop-place-init
loop-place-init g c = record {
  same = refl;
  named = λ d b log us i are. covers_none (Named d b log) c.args.tops.now c.new-list.result.items c.new-list.ensures.items;
}

pub id_of-requires : goal.id_of-requires
id_of-requires g c =
    let r = c.requires.tops in
    let t = r.5.stand.given c.index-tops-place.result (item_has c.args.tops.now c.loop-place.place c.index-tops-place.result c.loop-place-test.true c.index-tops-place.is) in
    record {
      within = within r.0 r.1 r.2 _ (subst (λ w. ParentImage r.0 r.1 r.2 (g.W.Words.words w)) (sym c.loop-place.invariant.same) r.4) c.index-tops-place.result (NodeRow t.2.0) t.2.1;
    }

pub loop-place-preserved : goal.loop-place-preserved
loop-place-preserved g c =
    let inv = c.loop-place.invariant in
    record {
      same = c.id_of.ensures.same ∙ inv.same;
      named = λ d b log us i are.
          covers_more (Named d b log) c.args.tops.now c.loop-place.list.items c.put_id.new.list.items c.loop-place.place c.index-tops-place.result c.id_of.result c.loop-place-test.true c.index-tops-place.is
          (λ x at. c.id_of.ensures.is ∙ id_at_told d b log _ (subst (λ w. ParentImage d b log (g.W.Words.words w)) (sym inv.same) i) c.index-tops-place.result x at)
          c.in_ok-put_id.ensures (inv.named d b log us i are);
    }

pub returns-clause-is : goal.returns-clause-is
returns-clause-is g c d b log us i are =
    roots_are d b log (g.W.Words.words c.args.w.now) i us c.args.tops.now c.loop-place.list.items c.ascending_ids.result.items are
    (covers_all (Named d b log) c.args.tops.now c.loop-place.list.items c.loop-place.place c.loop-place-test.false (c.loop-place.invariant.named d b log us i are))
    c.ascending_ids.ensures.ascending c.ascending_ids.ensures.same
