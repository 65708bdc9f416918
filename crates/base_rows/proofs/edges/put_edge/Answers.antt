use Rattle.std.proofs.Common.{rules, ◌≡◌, get_or}
use Rattle.record_rows.specs.Chains.{change_of}
use Rattle.row_append.specs.Ends.{EdgesOf}
use Rattle.row_append.proofs.Leaving.{unlogged, unlogged_row}
use Rattle.base_rows.proofs.EdgeSteps.{edge_more}
use Rattle.base_rows.proofs.TailLists.{end_given, end_within}
use Rattle.base_rows.proofs.edges.put_edge.Goals as goal

pub push_edge-spot-requires-clause-lesser : goal.push_edge-spot-requires-clause-lesser
push_edge-spot-requires-clause-lesser c =
    let (ids, rows, st, p) = c.requires.state in
    end_within EdgesOf ids rows c.args.w.now.words c.args.tails.now.items c.args.edge.now.lesser c.index.result.now st.tails_are st.rows_are.stand p.lesser (search rules)

pub push_edge-spot-requires-clause-greater : goal.push_edge-spot-requires-clause-greater
push_edge-spot-requires-clause-greater c =
    let (ids, rows, st, p) = c.requires.state in
    end_within EdgesOf ids rows c.args.w.now.words c.args.tails.now.items c.args.edge.now.greater c.index-2.result.now st.tails_are st.rows_are.stand p.greater (search rules)

pub returns-clause-state : goal.returns-clause-state
returns-clause-state c ids rows st p =
    let e = c.push_edge-spot.ensures in
    let pair = c.args.edge.now.edge.pair in
    let first : c.index.result.now ≡ get_or c.args.tails.now.items c.args.edge.now.lesser c.index.result.now = search rules in
    let second : c.index-2.result.now ≡ get_or c.args.tails.now.items c.args.edge.now.greater c.index-2.result.now = search rules in
    edge_more ids rows c.args.w.now.words c.push_edge-spot.new.w.words c.args.tails.now.items c.args.edge.now c.push_edge-spot.result st p (e.place rows st.rows_are.stand)
    (e.words rows st.rows_are.headed st.rows_are.stand
    (end_given EdgesOf ids rows c.args.tails.now.items c.args.edge.now.lesser pair.a c.index.result.now st.tails_are p.lesser p.lesser_is first)
    (end_given EdgesOf ids rows c.args.tails.now.items c.args.edge.now.greater pair.b c.index-2.result.now st.tails_are p.greater p.greater_is second)
    (unlogged rows st.rows_are.unlogged (change_of pair) (λ r n. (unlogged_row r n).1.1.1.1 pair)))
