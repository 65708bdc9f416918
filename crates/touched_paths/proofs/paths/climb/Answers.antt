use Rattle.std.proofs.Common.{◌≡◌, ◌+◌, ◌++◌, ◌∙◌, ℕ, sym, ap, subst, arith, IsTrue}
use Rattle.op_model.specs.declared.base.Dataset.{Dataset}
use Rattle.op_model.specs.declared.base.Base.{Base}
use Rattle.graph_model.specs.Lists.{has}
use Rattle.op_model.specs.Chunks.{layers, top}
use Rattle.record_rows.specs.Readings.{ParentImage}
use Rattle.record_rows.proofs.PrefixNodes.{layer_has}
use Rattle.touched_paths.specs.Climbing.{ArePassed, IsClimbed}
use Rattle.touched_paths.proofs.Passing.{climbed_first, passed_more, passed_none, tops_are}
use Rattle.touched_paths.proofs.paths.climb.Goals as goal

pub length-prefix-requires : goal.length-prefix-requires
length-prefix-requires g c = let r = c.requires.known in record { image = (r.0, r.1, r.2, r.3) }

pub top_of-top-requires : goal.top_of-top-requires
top_of-top-requires g c =
    let r = c.requires.known in
    record { image = (r.0, r.1, r.2, subst (λ w. ParentImage r.0 r.1 r.2 (g.W.Words.words w)) (sym c.length-prefix.ensures.same) r.3) }

pub spots_of-requires : goal.spots_of-requires
spots_of-requires g c =
    let r = c.requires.known in
    record { known = (r.0, r.1, r.2, subst (λ w. ParentImage r.0 r.1 r.2 (g.W.Words.words w)) (sym (c.top_of-top.ensures.same ∙ c.length-prefix.ensures.same)) r.3, r.4) }

pub loop-layer-init : goal.loop-layer-init
loop-layer-init g c =
    let w = g.W.Words.words c.args.w.now in
    record {
      same = c.in_ok-spots.ensures.same ∙ (c.top_of-top.ensures.same ∙ c.length-prefix.ensures.same);
      low = omega arith;
      high = (let r = c.top_of-top.ensures.range.0 in omega arith);
      ascending = λ l. absurd (omega arith);
      climbed = λ d b log i k.
          climbed_first d b log w c.length-prefix.result c.args.ids.now c.in_ok-spots.spots.items i (c.length-prefix.ensures.is d b log i) k
          (c.in_ok-spots.ensures.is d b log (subst (λ x. ParentImage d b log (g.W.Words.words x)) (sym (c.top_of-top.ensures.same ∙ c.length-prefix.ensures.same)) i) k);
      passed = λ d b log i k. passed_none d b log w i c.args.ids.now c.args.places.now.items c.requires.empty;
    }

pub next_spots-requires : goal.next_spots-requires
next_spots-requires g c =
    let r = c.requires.known in
    let inv = c.loop-layer.invariant in
    let t : c.top_of-top.result ≡ top r.0 = c.top_of-top.ensures.is r.0 r.1 r.2 (subst (λ w. ParentImage r.0 r.1 r.2 (g.W.Words.words w)) (sym c.length-prefix.ensures.same) r.3) in
    let l = c.loop-layer-test.true in
    record {
      climbed = (
        r.0,
        r.1,
        r.2,
        c.loop-layer.layer,
        c.args.ids.now,
        layer_has r.0 c.loop-layer.layer inv.low (omega (arith, t, l)),
        subst (λ xs. IsClimbed r.0 r.1 r.2 (g.W.Words.words c.loop-layer.w) c.length-prefix.result c.loop-layer.layer c.args.ids.now xs) (sym c.deref.ensures.value)
            (subst (λ w. IsClimbed r.0 r.1 r.2 (g.W.Words.words w) c.length-prefix.result c.loop-layer.layer c.args.ids.now c.loop-layer.spots.items) (sym inv.same) (inv.climbed r.0 r.1 r.2 r.3 r.4)),
      );
    }

pub loop-layer-preserved : goal.loop-layer-preserved
loop-layer-preserved g c =
    let inv = c.loop-layer.invariant in
    let l = c.loop-layer-test.true in
    let q = inv.low in
    let here : (d : Dataset) (b : Base) (log : _) → ParentImage d b log (g.W.Words.words c.args.w.now) → IsTrue (has (layers d) c.loop-layer.layer) =
    λ d b log i.
    let t : c.top_of-top.result ≡ top d = c.top_of-top.ensures.is d b log (subst (λ w. ParentImage d b log (g.W.Words.words w)) (sym c.length-prefix.ensures.same) i) in
    layer_has d c.loop-layer.layer inv.low (omega (arith, t, l)) in
    let next : (d : Dataset) (b : Base) (log : _) → ParentImage d b log (g.W.Words.words c.args.w.now) → ((u : ℕ) → IsTrue (has c.args.ids.now u) → IsTrue (has b.supervoxels u))
    → IsClimbed d b log (g.W.Words.words c.args.w.now) c.length-prefix.result (c.loop-layer.layer + 1) c.args.ids.now c.in_ok-next.next.items =
    λ d b log i k.
    subst (λ w. IsClimbed d b log (g.W.Words.words w) c.length-prefix.result (c.loop-layer.layer + 1) c.args.ids.now c.in_ok-next.next.items) inv.same
    (c.in_ok-next.ensures.is d b log c.loop-layer.layer c.args.ids.now (here d b log i)
    (subst (λ xs. IsClimbed d b log (g.W.Words.words c.loop-layer.w) c.length-prefix.result c.loop-layer.layer c.args.ids.now xs) (sym c.deref.ensures.value)
    (subst (λ w. IsClimbed d b log (g.W.Words.words w) c.length-prefix.result c.loop-layer.layer c.args.ids.now c.loop-layer.spots.items) (sym inv.same) (inv.climbed d b log i k)))) in
    record {
      same = c.in_ok-next.ensures.same ∙ inv.same;
      low = omega arith;
      high = omega arith;
      ascending = λ m. c.in_ok-next.ensures.ascending;
      climbed = next;
      passed = λ d b log i k.
          passed_more d b log (g.W.Words.words c.args.w.now) i c.length-prefix.result c.loop-layer.layer c.args.ids.now c.loop-layer.places.items c.in_ok-next.next.items c.put_spots.new.list.items
          (here d b log i) (next d b log i k) c.in_ok-next.ensures.ascending (c.in_ok-put_spots.ensures ∙ ap (λ xs. c.loop-layer.places.items ++ xs) c.deref-in-loop-layer.ensures.value) (inv.passed d b log i k);
    }

pub returns-clause-tops : goal.returns-clause-tops
returns-clause-tops g c d b log i k =
    let inv = c.loop-layer.invariant in
    let t : c.top_of-top.result ≡ top d = c.top_of-top.ensures.is d b log (subst (λ w. ParentImage d b log (g.W.Words.words w)) (sym c.length-prefix.ensures.same) i) in
    let f = c.loop-layer-test.false in
    let h = inv.high in
    let r = c.top_of-top.ensures.range.0 in
    tops_are d b log (g.W.Words.words c.args.w.now) i c.length-prefix.result c.loop-layer.layer c.args.ids.now c.loop-layer.spots.items (omega (arith, t, f, h)) (inv.climbed d b log i k) (inv.ascending (omega (arith, f, h, r)))

pub returns-clause-passed : goal.returns-clause-passed
returns-clause-passed g c d b log i k =
    let inv = c.loop-layer.invariant in
    let t : c.top_of-top.result ≡ top d = c.top_of-top.ensures.is d b log (subst (λ w. ParentImage d b log (g.W.Words.words w)) (sym c.length-prefix.ensures.same) i) in
    let f = c.loop-layer-test.false in
    let h = inv.high in
    let e : c.loop-layer.layer ≡ top d + 1 = omega (arith, t, f, h) in
    subst (λ n. ArePassed d b log n c.args.ids.now c.loop-layer.places.items) e (inv.passed d b log i k)
