use Rattle.std.proofs.Common.{rules, ◌≡◌, get_or}
use Rattle.record_rows.specs.Chains.{retires}
use Rattle.row_append.specs.Ends.{NodesIn}
use Rattle.row_append.proofs.Leaving.{unlogged, unlogged_row}
use Rattle.base_rows.proofs.NodeSteps.{node_more, no_links}
use Rattle.base_rows.proofs.TailLists.{end_given, end_within}
use Rattle.base_rows.proofs.nodes.put_node.Goals as goal

pub push_node-spot-requires-clause-nodes : goal.push_node-spot-requires-clause-nodes
push_node-spot-requires-clause-nodes c =
    let (chunks, rows, n, st, p) = c.requires.state in
    end_within NodesIn chunks rows c.args.w.now.words c.args.tails.now.items c.args.node.now.chunk c.index.result.now st.tails_are st.rows_are.stand p.chunk (search rules)

pub returns-clause-state : goal.returns-clause-state
returns-clause-state c chunks rows n st p =
    let e = c.push_node-spot.ensures in
    let first : c.index.result.now ≡ get_or c.args.tails.now.items c.args.node.now.chunk c.index.result.now = search rules in
    let none = no_links n.id rows st.unlinked in
    node_more chunks rows c.args.w.now.words c.push_node-spot.new.w.words c.args.tails.now.items c.args.node.now n c.push_node-spot.result st p (e.place rows st.rows_are.stand)
    (e.words rows n st.rows_are.headed st.rows_are.stand p.id p.least p.made
    (end_given NodesIn chunks rows c.args.tails.now.items c.args.node.now.chunk n.chunk c.index.result.now st.tails_are p.chunk p.chunk_is first) none.0 none.1
    (unlogged rows st.rows_are.unlogged (retires n) (λ r m. (unlogged_row r m).1.1.1.0 n)))
