use Rattle.std.proofs.Common.{◌≡◌, ◌<◌, ◌≤◌, ◌∙◌, ap, sym, arith, length, map}
use Rattle.std.proofs.lemmas.List.{length-map}
use Rattle.flow_net.specs.Net.{wire_of}
use Rattle.flow_net.specs.Marks.{turned}
use Rattle.flow_net.proofs.Reached.{swept_none, swept_spread, swept_same, swept_done, turned_below}
use Rattle.flow_net.proofs.joined.sweep.Goals as goal
use Rattle.flow_net.proofs.joined.sweep.Goals.{then-spread_over, else-spread_over}

pub loop-step-init : goal.loop-step-init
loop-step-init c = swept_none _ _ _ _

pub loop-step-preserved : goal.loop-step-preserved
loop-step-preserved c =
    let m = length (map wire_of c.args.links.now) in
    let e : m ≡ length c.args.links.now = length-map c.args.links.now wire_of in
    let k = c.turned_at-k.result in
    let is : k ≡ turned m c.args.backwards c.loop-step.step = c.turned_at-k.ensures ∙ ap (λ n. turned n c.args.backwards c.loop-step.step) (sym e) in
    let below = turned_below m c.args.backwards c.loop-step.step (omega (arith, e, c.loop-step-test.true)) in
    let at : k < m = omega (arith, is, below) in
    elim c.if-spread_over.branch [
      | then-spread_over w ↦
          let s = c.spread_over.ensures.more w.if-spread_over.true in
          rw w.changed-is (swept_spread _ _ _ _ _ _ _ _ k c.loop-step.invariant at s.out_of_cut c.spread_over.auto.seen s.spreads)
      | else-spread_over w ↦
          let s = c.spread_over.ensures.same w.if-spread_over.false in
          rw (w.changed-is, s.same) (swept_same _ _ _ _ _ _ _ k c.loop-step.invariant is s.why)
    ]

pub returns : goal.returns
returns c =
    let e : length (map wire_of c.args.links.now) ≤ c.loop-step.step = rw length-map (omega arith) in
    let i = c.loop-step.invariant in
    record {
      swept = swept_done _ _ _ _ _ _ _ i e;
      grows = i.grown;
      kept = i.kept;
      sound = i.sound;
    }
