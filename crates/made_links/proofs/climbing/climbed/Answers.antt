use Rattle.std.proofs.Common.{◌≡◌, ◌∙◌, sym, subst, arith}
use Rattle.op_model.specs.Transcript.{log_at}
use Rattle.record_rows.specs.Readings.{HoldsId, ParentImage}
use Rattle.record_rows.specs.Versions.{child_at}
use Rattle.node_reader.proofs.Climbs.{next_at}
use Rattle.made_links.proofs.Climb.{climb_from, log_all, lowest_at}
use Rattle.made_links.proofs.climbing.climbed.Goals as goal

pub loop-above-init : goal.loop-above-init
loop-above-init g c = record {
  same = c.lowest-spot.ensures.same;
  low = omega arith;
  at = λ d b log image known e high. lowest_at d b log (log_at d b log c.args.prefix) c.lowest-spot.result c.args.sv (c.lowest-spot.ensures.is d b log image known);
  first = λ d b log image known two. c.lowest-spot.ensures.first d b log image known;
}

pub node_above-spot-requires : goal.node_above-spot-requires
node_above-spot-requires g c =
    let r = c.requires.known in
    let i = c.loop-above.invariant in
    let image = subst (λ w. ParentImage r.0 r.1 r.2 (g.W.Words.words w)) (sym i.same) r.3 in
    let l = c.loop-above-test.true in
    let high = r.7 in
    record {
      below = (
        r.0,
        r.1,
        r.2,
        c.loop-above.above,
        c.args.sv,
        climb_from r.0 r.1 r.2 _ image c.args.sv r.4 c.args.prefix c.loop-above.above c.loop-above.spot r.5 i.low (omega (arith, l, high)) (i.at r.0 r.1 r.2 r.3 r.4 r.5 r.7),
      );
    }

pub loop-above-preserved : goal.loop-above-preserved
loop-above-preserved g c =
    let i = c.loop-above.invariant in
    let l = c.loop-above-test.true in
    record {
      same = c.node_above-spot.ensures.same ∙ i.same;
      low = (let q = i.low in omega (arith, q));
      at = λ d b log image known e high.
          next_at d b log (log_at d b log c.args.prefix) c.node_above-spot.result c.loop-above.above c.args.sv i.low
          (c.node_above-spot.ensures.is d b log c.loop-above.above c.args.sv
          (climb_from d b log _ (subst (λ w. ParentImage d b log (g.W.Words.words w)) (sym i.same) image) c.args.sv known c.args.prefix c.loop-above.above c.loop-above.spot e i.low (omega (arith, l, high)) (i.at d b log image known e high)));
      first = λ d b log image known two. absurd (let q = i.low in omega (arith, q, two));
    }

pub returns-clause-is : goal.returns-clause-is
returns-clause-is g c d b log image known e high =
    let i = c.loop-above.invariant in
    let f = c.loop-above-test.false in
    let m = c.loop-above.auto.above-end in
    let two = c.requires.known.6 in
    let end : c.loop-above.above ≡ c.args.layer = omega (arith, f, m, two) in
    subst (λ at. HoldsId d b log c.loop-above.spot (child_at d b at c.args.layer c.args.sv)) (log_all d b log c.args.prefix e)
    (subst (λ k. HoldsId d b log c.loop-above.spot (child_at d b (log_at d b log c.args.prefix) k c.args.sv)) end (i.at d b log image known e high))

pub returns-clause-first : goal.returns-clause-first
returns-clause-first g c d b log image known two =
    let i = c.loop-above.invariant in
    let f = c.loop-above-test.false in
    let m = c.loop-above.auto.above-end in
    let q = i.low in
    i.first d b log image known (omega (arith, f, m, two, q))
