use Rattle.std.proofs.Common.{rules, ◌≡◌, ◌∙◌, ◌+◌, ◌++◌, [], ap, sym, refl, codes, get_or, false}
use Rattle.made_input.specs.Rows.{record_text, table_text}
use Rattle.made_input.specs.Texts.{edge_fields}
use Rattle.made_input.specs.declared.edges.MadeEdge.{MadeEdge}
use Rattle.made_input.proofs.Lines.{edges_upto, first_edge, next_edge}
use Rattle.request_lines.proofs.Putting.{puts_both, puts_same}
use Rattle.made_files.proofs.Fronts.{front_edges}
use Rattle.made_files.proofs.Written.{on_err}
use Rattle.made_files.proofs.tables.put_edges.Goals as goal

pub loop-edge-init : goal.loop-edge-init
loop-edge-init g c = puts_same (sym (first_edge c.args.wish.now c.args.edges.now [] (codes "a,b,affinity,active\n") refl refl)) c.put.ensures

pub loop-edge-preserved : goal.loop-edge-preserved
loop-edge-preserved g c =
    let w = c.args.wish.now in
    let i = c.loop-edge.edge-index in
    let d : MadeEdge = record { a = 0; b = 0; affinity = 0; active = false } in
    let piece : c.as_slice.result.now ≡ record_text (edge_fields w (get_or c.args.edges.now i d)) = search rules in
    puts_both (table_text (edges_upto w c.args.edges.now (i + 1))) (next_edge w c.args.edges.now i d c.loop-edge-test.true ∙ ap (λ t. table_text (edges_upto w c.args.edges.now i) ++ t) (sym piece))
    c.loop-edge.invariant c.put-in-loop-edge.ensures

pub returns-in_err-put_edge-clause-front : goal.returns-in_err-put_edge-clause-front
returns-in_err-put_edge-clause-front g c =
    let front = front_edges c.args.wish.now c.args.edges.now c.loop-edge.edge-index in
    on_err c.from_residual.result (table_text (edges_upto c.args.wish.now c.args.edges.now c.loop-edge.edge-index), front.0, front.1, c.loop-edge.invariant)
