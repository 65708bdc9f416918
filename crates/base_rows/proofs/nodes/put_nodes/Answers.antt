use Rattle.std.proofs.Common.{arith, ◌++◌, ◌∷◌, [], length, map, take, sym, ◌∙◌, ap, subst, append_assoc, append-nil}
use Rattle.record_rows.specs.Rows.{NodeRow}
use Rattle.record_rows.specs.Words.{words_of}
use Rattle.base_rows.specs.BaseRows.{edged_rows, noded_rows}
use Rattle.base_rows.specs.States.{tails_from, Noding}
use Rattle.base_rows.proofs.Passing.{take_whole}
use Rattle.base_rows.proofs.NodeSteps.{node_there, noding_begins}
use Rattle.base_rows.proofs.nodes.put_nodes.Goals as goal

pub loop-node-init : goal.loop-node-init
loop-node-init c = (
  λ d ids edges ns f w are. subst (λ rows. Noding c.args.chunks.now rows c.args.w.now.words c.put_tails.new.list.items) (sym (append-nil (edged_rows d ids c.args.chunks.now edges)))
      (subst (Noding c.args.chunks.now (edged_rows d ids c.args.chunks.now edges) c.args.w.now.words)
      (sym (c.in_ok-put_tails.ensures ∙ (ap (λ ts. ts ++ tails_from c.args.first 4 (length c.args.chunks.now)) c.new-tails.ensures.items ∙ ap (λ k. tails_from k 4 (length c.args.chunks.now)) f)))
      (noding_begins d ids c.args.chunks.now edges c.args.w.now.words w c.requires.once)),
  omega arith,
  omega arith,
)

pub put_node-requires-clause-state : goal.put_node-requires-clause-state
put_node-requires-clause-state c =
    let (d, ids, edges, ns, f, w, are) = c.requires.edged in
    let (n, is, more) = node_there c.args.chunks.now c.args.nodes.now ns c.loop-node.node-index c.node-item.result are c.loop-node-test.true c.node-item.is in
    (c.args.chunks.now, edged_rows d ids c.args.chunks.now edges ++ map NodeRow (take c.loop-node.node-index ns), n, c.loop-node.invariant.0 d ids edges ns f w are, is)

pub loop-node-preserved : goal.loop-node-preserved
loop-node-preserved c =
    let i = c.loop-node.invariant in
    let p = c.put_node.ensures in
    let l = i.1 in
    let r = i.2 in
    let m = p.length in
    let s = p.room in (
      λ d ids edges ns f w are.
          let there = node_there c.args.chunks.now c.args.nodes.now ns c.loop-node.node-index c.node-item.result are c.loop-node-test.true c.node-item.is in
          let before = edged_rows d ids c.args.chunks.now edges in
          subst (λ rows. Noding c.args.chunks.now rows c.put_node.new.w.words c.put_node.new.tails.items)
          (append_assoc before (map NodeRow (take c.loop-node.node-index ns)) (NodeRow there.0 ∷ []) ∙ ap (λ rows. before ++ rows) (sym there.2))
          (p.state c.args.chunks.now (before ++ map NodeRow (take c.loop-node.node-index ns)) there.0 (i.0 d ids edges ns f w are) there.1),
      omega (arith, l, m),
      omega (arith, r, s),
    )

pub returns-clause-words : goal.returns-clause-words
unfolding noded_rows
returns-clause-words c d ids edges ns f w are =
    let st = c.loop-node.invariant.0 d ids edges ns f w are in
    let n = are.count in
    let t = c.loop-node-test.false in
    st.rows_are.stand ∙ ap (λ xs. words_of (edged_rows d ids c.args.chunks.now edges ++ map NodeRow xs)) (take_whole ns c.loop-node.node-index (omega (arith, n, t)))
