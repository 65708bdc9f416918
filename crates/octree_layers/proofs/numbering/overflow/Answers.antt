use Rattle.std.proofs.Common.{◌+◌, cond, drop, Some, sym, ◌∙◌, ap, arith}
use Rattle.std.proofs.lemmas.Bool.{le-leb, leb-true, false_from_ne_true}
use Rattle.octree_layers.specs.Numbers.{overflow}
use Rattle.octree_layers.proofs.Steps.{over_more, over_end}
use Rattle.octree_layers.proofs.numbering.overflow.Goals as goal

pub returns-then-label-limit : goal.returns-then-label-limit
returns-then-label-limit c =
    let o = c.owner-item.result in
    let n = c.number_behind-label.result in
    let more = over_more c.args.limit c.loop-owner.last c.loop-owner.label c.args.owners.now c.loop-owner.owner-index o n c.loop-owner-test.true c.owner-item.is c.number_behind-label.ensures in
    sym (ap (λ k. cond k (Some o.chunk) (overflow c.args.limit o.chunk n (drop (c.loop-owner.owner-index + 1) c.args.owners.now))) (le-leb c.args.limit n c.if-label-limit.true))
    ∙ (sym more ∙ c.loop-owner.invariant.0)

pub loop-owner-preserved : goal.loop-owner-preserved
loop-owner-preserved c =
    let o = c.owner-item.result in
    let n = c.number_behind-label.result in
    let more = over_more c.args.limit c.loop-owner.last c.loop-owner.label c.args.owners.now c.loop-owner.owner-index o n c.loop-owner-test.true c.owner-item.is c.number_behind-label.ensures in (
      sym (ap (λ k. cond k (Some o.chunk) (overflow c.args.limit o.chunk n (drop (c.loop-owner.owner-index + 1) c.args.owners.now))) (false_from_ne_true _ (λ k. let l = leb-true c.args.limit n k in let m = c.if-label-limit.false in omega arith)))
          ∙ (sym more ∙ c.loop-owner.invariant.0),
      c.if-label-limit.false,
    )

pub returns : goal.returns
returns c = sym (over_end c.args.limit c.loop-owner.last c.loop-owner.label c.args.owners.now c.loop-owner.owner-index c.loop-owner-test.false) ∙ c.loop-owner.invariant.0
