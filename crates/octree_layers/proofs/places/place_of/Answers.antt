use Rattle.std.proofs.Common.{ℕ, ◌+◌, ◌-◌, ◌/◌, ◌<◌, ◌≤◌, length, get_or, sym, ◌∙◌, ap, subst, arith}
use Rattle.graph_model.proofs.ListLemmas.{any_default}
use Rattle.octree_layers.proofs.Placing.{place_at, middle_less, middle_more, cmp_less, cmp_more}
use Rattle.octree_layers.proofs.places.place_of.Goals as goal

pub loop-low-init : goal.loop-low-init
loop-low-init c = (omega arith, (let p = (place_at c.args.ids.now c.args.id c.requires.known).0 in omega arith), omega arith)

pub loop-low-preserved-then-lt : goal.loop-low-preserved-then-lt
loop-low-preserved-then-lt c =
    let i = c.loop-low.invariant in
    let t = c.loop-low-test.true in
    let m : ℕ = c.loop-low.low + (c.loop-low.high - c.loop-low.low) / 2 in
    let l : m < length c.args.ids.now = omega (arith, i.2, t) in
    (middle_less c.args.ids.now c.args.id m c.requires.ascending c.requires.known l (subst (λ x. x < c.args.id) (c.index-ids-middle.is ∙ any_default c.args.ids.now m c.index-ids-middle.result 0 l) (cmp_less c.index-ids-middle.result c.args.id c.lt.result c.lt.ensures c.if-lt.true)), i.1, i.2)

pub loop-low-preserved : goal.loop-low-preserved
loop-low-preserved c =
    let i = c.loop-low.invariant in
    let t = c.loop-low-test.true in
    let m : ℕ = c.loop-low.low + (c.loop-low.high - c.loop-low.low) / 2 in
    let l : m < length c.args.ids.now = omega (arith, i.2, t) in
    (i.0, middle_more c.args.ids.now c.args.id m c.requires.ascending c.requires.known (subst (λ x. c.args.id ≤ x) (c.index-ids-middle.is ∙ any_default c.args.ids.now m c.index-ids-middle.result 0 l) (cmp_more c.index-ids-middle.result c.args.id c.lt.result c.lt.ensures c.if-lt.false)), omega (arith, i.2, t))

pub returns-clause-is : goal.returns-clause-is
returns-clause-is c = omega (arith, c.loop-low.invariant, c.loop-low-test.false)

pub returns-clause-within : goal.returns-clause-within
returns-clause-within c = subst (λ n. n < length c.args.ids.now) (sym (returns-clause-is c)) (place_at c.args.ids.now c.args.id c.requires.known).0

pub returns-clause-there : goal.returns-clause-there
returns-clause-there c = ap (λ n. get_or c.args.ids.now n 0) (returns-clause-is c) ∙ (place_at c.args.ids.now c.args.id c.requires.known).1
