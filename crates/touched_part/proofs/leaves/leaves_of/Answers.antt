use Rattle.std.proofs.Common.{◌∙◌, refl, sym, subst}
use Rattle.std.proofs.lemmas.List.{take_all}
use Rattle.record_rows.specs.Readings.{ParentImage}
use Rattle.touched_paths.proofs.Climbs.{item_has}
use Rattle.touched_part.proofs.Gathering.{AreLeaves, leaves_more, leaves_none, touched_are}
use Rattle.touched_part.proofs.leaves.leaves_of.Goals as goal

pub loop-place-init : goal.loop-place-init
loop-place-init g c = record {
  same = refl;
  leaves = λ d b log us i are. leaves_none d b log c.args.tops.now c.new-list.result.items c.new-list.ensures.items;
}

pub leaves-requires : goal.leaves-requires
leaves-requires g c =
    let r = c.requires.tops in
    let t = r.6.stand.given c.index-tops-place.result (item_has c.args.tops.now c.loop-place.place c.index-tops-place.result c.loop-place-test.true c.index-tops-place.is) in
    record { node = (r.0, r.1, r.2, t.2.0, subst (λ w. ParentImage r.0 r.1 r.2 (g.W.Words.words w)) (sym c.loop-place.invariant.same) r.4, t.2.1) }

pub loop-place-preserved : goal.loop-place-preserved
loop-place-preserved g c =
    let inv = c.loop-place.invariant in
    record {
      same = c.in_ok-own.ensures.same ∙ inv.same;
      leaves = λ d b log us i are.
          let t = are.stand.given c.index-tops-place.result (item_has c.args.tops.now c.loop-place.place c.index-tops-place.result c.loop-place-test.true c.index-tops-place.is) in
          leaves_more d b log c.args.tops.now c.loop-place.list.items c.put_ids.new.list.items c.as_slice.result.now c.loop-place.place c.index-tops-place.result t.2.0
          c.loop-place-test.true c.index-tops-place.is t.2.1
          (c.as_slice.ensures.value ∙ (c.own.view_is ∙ c.in_ok-own.ensures.is d b log t.2.0 (subst (λ w. ParentImage d b log (g.W.Words.words w)) (sym inv.same) i) t.2.1))
          c.in_ok-put_ids.ensures (inv.leaves d b log us i are);
    }

pub returns-clause-ascending : goal.returns-clause-ascending
returns-clause-ascending g c = c.ascending_ids.ensures.ascending

pub returns-clause-are : goal.returns-clause-are
returns-clause-are g c d b log us i known are =
    touched_are d b log (g.W.Words.words c.args.w.now) i us c.args.tops.now c.loop-place.list.items c.ascending_ids.result.items known are
    (subst (λ ps. AreLeaves d b log ps c.loop-place.list.items) (take_all c.loop-place.place c.args.tops.now c.loop-place-test.false) (c.loop-place.invariant.leaves d b log us i are))
    c.ascending_ids.ensures.same
