use Rattle.std.proofs.Common.{rules, arith, ◌<◌, ◌∙◌, ap, sym, subst, ◌++◌, ◌∷◌, [], map, take, take_all, append_assoc, append-nil, length}
use Rattle.record_rows.specs.Rows.{NodeRow}
use Rattle.entry_rows.specs.States.{Noding}
use Rattle.entry_rows.proofs.NodeSteps.{fresh_more, nodes_take, got, got_node}
use Rattle.entry_rows.proofs.nodes.put_nodes.Goals as goal

pub loop-node-init : goal.loop-node-init
loop-node-init c = (
  λ chunks old more ns st made. subst (λ rows. Noding chunks old rows c.args.growth.now c.args.tails.now.items) (sym (append-nil more)) st,
  omega arith,
  search rules,
)

pub put_node-requires-clause-state : goal.put_node-requires-clause-state
put_node-requires-clause-state c =
    let (chunks, old, more, ns, st, made) = c.requires.state in
    let l : c.loop-node.node-index < length ns = (let e = made.count in let k = c.loop-node-test.true in omega arith) in
    let n = got ns c.loop-node.node-index l in
    (chunks, old, _, n.0, c.loop-node.invariant.0 chunks old more ns st made, (made.each c.loop-node.node-index c.node-item.result n.0 (got_node c.args.nodes.now c.loop-node.node-index c.node-item.result c.loop-node-test.true c.node-item.is) n.1).0)

pub loop-node-preserved : goal.loop-node-preserved
loop-node-preserved c =
    let i = c.loop-node.invariant in
    let p = c.in_ok-put_node.ensures in
    let l = i.1 in
    let m = p.length in (
      λ chunks old more ns st made.
          let k : c.loop-node.node-index < length ns = (let e = made.count in let t = c.loop-node-test.true in omega arith) in
          let n = got ns c.loop-node.node-index k in
          let is = made.each c.loop-node.node-index c.node-item.result n.0 (got_node c.args.nodes.now c.loop-node.node-index c.node-item.result c.loop-node-test.true c.node-item.is) n.1 in
          subst (λ rows. Noding chunks old rows c.put_node.new.growth c.put_node.new.tails.items)
          (append_assoc more (map NodeRow (take c.loop-node.node-index ns)) (NodeRow n.0 ∷ []) ∙ ap (λ rows. more ++ rows) (sym (nodes_take ns c.loop-node.node-index n.0 n.1)))
          (p.state chunks old _ n.0 (i.0 chunks old more ns st made) is.0 (fresh_more old more n.0 (take c.loop-node.node-index ns) is.1)),
      omega (arith, l, m),
      p.tail ∙ i.2,
    )

pub returns-clause-state : goal.returns-clause-state
returns-clause-state c chunks old more ns st made =
    subst (λ xs. Noding chunks old (more ++ map NodeRow xs) c.loop-node.growth c.loop-node.tails.items)
    (take_all c.loop-node.node-index ns (let e = made.count in let f = c.loop-node-test.false in omega arith))
    (c.loop-node.invariant.0 chunks old more ns st made)
