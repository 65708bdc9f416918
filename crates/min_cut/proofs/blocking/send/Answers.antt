use Rattle.std.proofs.Common.{◌≡◌, ℕ, ◌-◌, ◌≤◌, map, length, sym, ◌∙◌, subst, arith, le_refl}
use Rattle.std.proofs.lemmas.List.{length-map}
use Rattle.flow_net.specs.Net.{wire_of}
use Rattle.min_cut.specs.Tree.{Pushed, PushedOver}
use Rattle.min_cut.specs.Steps.{Climbs, step_at}
use Rattle.min_cut.proofs.Climbing.{climbs_back, pushed_from}
use Rattle.min_cut.proofs.Pushing.{pushed_none, push_step}
use Rattle.min_cut.proofs.blocking.send.Goals as goal

pub loop-left-init : goal.loop-left-init
loop-left-init c =
    let (level, climbs) = c.requires.walk in
    record {
      walk = (level, climbs, pushed_none (map wire_of c.args.links.now) level c.args.amounts.now c.args.width c.args.sent c.args.found.sink c.requires.fits);
      len = c.requires.amounts;
      short = le_refl c.args.found.depth;
      low = c.requires.depth;
    }

pub push_over-at-requires-clause-at : goal.push_over-at-requires-clause-at
push_over-at-requires-clause-at c =
    let (level, climbs, p) = c.loop-left.invariant.walk in
    let ws = map wire_of c.args.links.now in
    let b = climbs_back ws c.args.amounts.now level c.args.steps.now c.args.found.source c.loop-left.left c.loop-left.at c.loop-left-test.true climbs in
    rw length-map at b.0.carries.below

pub push_over-at-requires-clause-small : goal.push_over-at-requires-clause-small
push_over-at-requires-clause-small c =
    let (level, climbs, p) = c.loop-left.invariant.walk in
    let ws = map wire_of c.args.links.now in
    let b = climbs_back ws c.args.amounts.now level c.args.steps.now c.args.found.source c.loop-left.left c.loop-left.at c.loop-left-test.true climbs in
    let s = p.fits.small (step_at c.args.steps.now (c.loop-left.left - 1)).link b.0.carries.below in
    let m = c.requires.most in
    let n = c.requires.bound in
    (omega arith, omega arith)

pub loop-left-preserved : goal.loop-left-preserved
loop-left-preserved c =
    let (level, climbs, p) = c.loop-left.invariant.walk in
    let ws = map wire_of c.args.links.now in
    let old = c.args.amounts.now in
    let new = c.loop-left.amounts in
    let newer = c.push_over-at.new.amounts in
    let left = c.loop-left.left - 1 in
    let step = step_at c.args.steps.now left in
    let b = climbs_back ws old level c.args.steps.now c.args.found.source c.loop-left.left c.loop-left.at c.loop-left-test.true climbs in
    let e = pushed_from ws old new newer step.link step.from c.loop-left.at step.room c.args.width c.push_over-at.result b.0.carries c.push_over-at.ensures in
    let o = subst (λ v. PushedOver ws new newer step.link c.loop-left.at c.args.width v) e c.push_over-at.ensures in
    let same : length new ≡ length ws = rw length-map c.loop-left.invariant.len in
    let t = c.loop-left-test.true in
    let s = c.loop-left.invariant.short in
    let l = c.loop-left.invariant.low in
    let u = b.0.up in
    let q = push_step ws level old new c.args.width c.args.sent c.loop-left.at c.args.found.sink p c.requires.fits same step.link step.from step.room newer b.0.carries
    (c.requires.width left (omega arith)) (omega arith) o in
    record {
      walk = (
        level,
        subst (λ v. Climbs ws old level c.args.steps.now c.args.found.source left v) (sym e) b.1,
        subst (λ v. Pushed ws level old newer c.args.width c.args.sent v c.args.found.sink) (sym e) q,
      );
      len = c.push_over-at.auto.amounts ∙ c.loop-left.invariant.len;
      short = omega arith;
      low = omega arith;
    }

zero_of : (n : ℕ) → n ≤ 0 → n ≡ 0
zero_of n l = omega arith

pub returns : goal.returns
returns c =
    let (level, climbs, p) = c.loop-left.invariant.walk in
    let ws = map wire_of c.args.links.now in
    let z = subst (λ n. Climbs ws c.args.amounts.now level c.args.steps.now c.args.found.source n c.loop-left.at) (zero_of c.loop-left.left c.loop-left-test.false) climbs in
    let q = subst (λ v. Pushed ws level c.args.amounts.now c.loop-left.amounts c.args.width c.args.sent v c.args.found.sink) z.0 p in
    record { moves = q.moves; fits = q.fits }
