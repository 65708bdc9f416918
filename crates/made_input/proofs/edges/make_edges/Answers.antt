use Rattle.std.proofs.Common.{◌≡◌, ap, sym, arith, subst}
use Rattle.made_input.specs.Edges.{edges_below}
use Rattle.made_input.proofs.Steps.{few_made, next_edges}
use Rattle.made_input.proofs.edges.make_edges.Goals as goal

pub loop-k-init : goal.loop-k-init
unfolding edges_below
loop-k-init c = sym (ap (λ xs. (xs, c.args.wish.now.number)) c.new-list.ensures.items)

pub loop-k-preserved : goal.loop-k-preserved
loop-k-preserved c =
    next_edges c.args.wish.now c.loop-k.k (c.loop-k.list.items, c.loop-k.state) (c.with_inner.new.edges.items, c.in_ok-state.state) (c.with_outer.new.edges.items, c.in_ok-state-2.state)
    c.loop-k.invariant c.in_ok-state.ensures c.in_ok-state-2.ensures

pub returns-clause-few : goal.returns-clause-few
returns-clause-few c =
    let w = c.args.wish.now in
    let all : c.loop-k.k ≡ w.size = omega (arith, c.loop-k.auto.k-end, c.loop-k-test.false) in
    few_made w c.requires c.loop-k.list.items c.loop-k.state (subst (λ n. edges_below w n ≡ (c.loop-k.list.items, c.loop-k.state)) all c.loop-k.invariant)
