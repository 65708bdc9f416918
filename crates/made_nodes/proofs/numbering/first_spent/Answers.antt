use Rattle.std.proofs.Common.{◌+◌, ◌-◌, cond, Some, drop, sym, ◌∙◌, ap, arith}
use Rattle.std.proofs.lemmas.Bool.{le-leb, leb-true, false_from_ne_true}
use Rattle.made_nodes.specs.Numbers.{first_spent}
use Rattle.made_nodes.proofs.Steps.{spent_more, spent_end}
use Rattle.made_nodes.proofs.numbering.first_spent.Goals as goal

pub returns-then-number-limit : goal.returns-then-number-limit
returns-then-number-limit c =
    let m = c.node-item.result in
    let more = spent_more c.args.limit c.args.nodes.now c.loop-node.node-index m c.loop-node-test.true c.node-item.is in
    sym (ap (λ k. cond k (Some m.chunk) (first_spent c.args.limit (drop (c.loop-node.node-index + 1) c.args.nodes.now))) (le-leb c.args.limit (m.id - m.chunk) (let t = c.if-number-limit.true in let n = c.number_of-number.ensures in omega (arith, t, n))))
    ∙ (sym more ∙ c.loop-node.invariant)

pub loop-node-preserved : goal.loop-node-preserved
loop-node-preserved c =
    let m = c.node-item.result in
    let more = spent_more c.args.limit c.args.nodes.now c.loop-node.node-index m c.loop-node-test.true c.node-item.is in
    sym (ap (λ k. cond k (Some m.chunk) (first_spent c.args.limit (drop (c.loop-node.node-index + 1) c.args.nodes.now)))
    (false_from_ne_true _ (λ k. let l = leb-true c.args.limit (m.id - m.chunk) k in let f = c.if-number-limit.false in let n = c.number_of-number.ensures in omega (arith, l, f, n))))
    ∙ (sym more ∙ c.loop-node.invariant)

pub returns : goal.returns
returns c = sym (spent_end c.args.limit c.args.nodes.now c.loop-node.node-index c.loop-node-test.false) ∙ c.loop-node.invariant
