use Rattle.std.proofs.Common.{◌≡◌, ◌-◌, suc, ◌∙◌, subst, arith}
use Rattle.components.proofs.Chained.{last_below, other_below}
use Rattle.components.specs.Spreading.{AreTaken}
use Rattle.components.proofs.Traversal.{taking_none, taking_more, taken}
use Rattle.components.proofs.spread.take_pairs.Goals as goal

pub loop-at-init : goal.loop-at-init
loop-at-init c = taking_none c.args.n c.args.pairs.now c.args.root c.args.u c.args.labels.now c.args.waiting.now.items c.last_of-at.result
    c.requires.spread c.requires.own (c.last_of-at.ensures ∙ c.requires.lasts.last c.args.u c.requires.at)

pub loop-at-smaller : goal.loop-at-smaller
loop-at-smaller c = omega (arith, last_below c.args.pairs.now c.args.u (c.loop-at.at - 1), c.next_of-at.ensures, c.loop-at-test.true)

pub loop-at-preserved : goal.loop-at-preserved
loop-at-preserved c =
    let k = c.loop-at.at - 1 in
    let e : c.loop-at.at ≡ suc k = omega (arith, c.loop-at-test.true) in
    taking_more c.args.n c.args.pairs.now c.args.root c.args.u c.args.labels.now c.args.waiting.now.items c.loop-at.labels c.loop-at.waiting.items
    c.visit.new.labels c.visit.new.waiting.items c.loop-at.at k c.other_of-v.result c.next_of-at.result c.requires.root c.requires.at
    (let z = c.loop-at.invariant.small in let b = other_below c.args.n c.args.pairs.now k c.args.u c.requires.below (omega arith) in omega (arith, b, c.other_of-v.ensures)) e
    c.loop-at.invariant c.other_of-v.ensures c.in_ok-visit.ensures c.next_of-at.ensures

pub returns-clause-spread : goal.returns-clause-spread
returns-clause-spread c =
    let i = c.loop-at.invariant in
    taken c.args.n c.args.pairs.now c.args.root c.args.u c.loop-at.labels c.loop-at.waiting.items i.spread i.own
    (subst (λ j. AreTaken c.args.pairs.now c.args.root c.args.u j c.loop-at.labels) c.loop-at-test.false i.taken)
