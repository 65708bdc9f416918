use Rattle.std.proofs.Common.{◌∙◌, ◌+◌, ◌-◌, ◌/◌, sym, subst, arith}
use Rattle.record_rows.specs.Readings.{Image}
use Rattle.edge_rows.proofs.BaseSearch.{first_within, record_at, parts_first, parts_more, parts_less, parts_met, Parts}
use Rattle.edge_rows.proofs.base_edges.lower.Goals as goal

pub loop-low-init : goal.loop-low-init
loop-low-init g c =
    let same = c.first_place-low.ensures.same in
    let (d0, b0, log0, i0) = c.requires.image in
    let l0 = c.first_place-low.ensures.is d0 b0 log0 i0 in
    let h0 = c.count-high.ensures.is d0 b0 log0 (subst (λ w. Image d0 b0 log0 (g.W.Words.words w)) (sym same) i0) in
    let n0 = first_within d0 b0 log0 _ i0 in
    record {
      same = same;
      order = omega (arith, l0, h0, n0);
      parts = λ d b log i.
          let l = c.first_place-low.ensures.is d b log i in
          let h = c.count-high.ensures.is d b log (subst (λ w. Image d b log (g.W.Words.words w)) (sym same) i) in
          subst (λ x. Parts d b log _ i c.args.pair.now x c.count-high.result) (sym l) (subst (Parts d b log _ i c.args.pair.now _) (sym h) (parts_first d b log _ i c.args.pair.now));
    }

pub is_base_before-requires : goal.is_base_before-requires
is_base_before-requires g c =
    let (d, b, log, i) = c.requires.image in
    let inv = c.loop-low.invariant in
    let p = inv.parts d b log i in
    let m = p.1 in
    let t = c.loop-low-test.true in
    let r = record_at d b log _ i (c.loop-low.low + (c.loop-low.high - c.loop-low.low) / 2) (omega arith) in
    record { «record» = (d, b, log, r.0, subst (λ w. Image d b log (g.W.Words.words w)) (sym inv.same) i, r.1) }

pub loop-low-preserved-then-is_base_before : goal.loop-low-preserved-then-is_base_before
loop-low-preserved-then-is_base_before g c =
    let inv = c.loop-low.invariant in
    let t = c.loop-low-test.true in
    record {
      same = c.is_base_before.ensures.same ∙ inv.same;
      order = omega arith;
      parts = λ d b log i.
          let p = inv.parts d b log i in
          let m = p.1 in
          let r = record_at d b log _ i (c.loop-low.low + (c.loop-low.high - c.loop-low.low) / 2) (omega arith) in
          let e = c.is_base_before.ensures.is d b log r.0 (subst (λ w. Image d b log (g.W.Words.words w)) (sym inv.same) i) r.1 in
          parts_more d b log _ i c.args.pair.now c.loop-low.low c.loop-low.high (c.loop-low.low + (c.loop-low.high - c.loop-low.low) / 2) r.0 p (omega arith) (omega arith) r.1 (sym e ∙ c.if-is_base_before.true);
    }

pub loop-low-preserved : goal.loop-low-preserved
loop-low-preserved g c =
    let inv = c.loop-low.invariant in
    let t = c.loop-low-test.true in
    record {
      same = c.is_base_before.ensures.same ∙ inv.same;
      order = omega arith;
      parts = λ d b log i.
          let p = inv.parts d b log i in
          let m = p.1 in
          let r = record_at d b log _ i (c.loop-low.low + (c.loop-low.high - c.loop-low.low) / 2) (omega arith) in
          let e = c.is_base_before.ensures.is d b log r.0 (subst (λ w. Image d b log (g.W.Words.words w)) (sym inv.same) i) r.1 in
          parts_less d b log _ i c.args.pair.now c.loop-low.low c.loop-low.high (c.loop-low.low + (c.loop-low.high - c.loop-low.low) / 2) r.0 p (omega arith) (omega arith) r.1 (sym e ∙ c.if-is_base_before.false);
    }

pub returns-clause-is : goal.returns-clause-is
returns-clause-is g c = λ d b log i. parts_met d b log _ i c.args.pair.now c.loop-low.low c.loop-low.high (c.loop-low.invariant.parts d b log i) c.loop-low.invariant.order c.loop-low-test.false
