use Rattle.std.proofs.Common.{rules, ◌∙◌, ◌++◌, ap, sym, get_or, false}
use Rattle.made_input.specs.Rows.{record_text}
use Rattle.made_input.specs.Texts.{edge_fields}
use Rattle.made_input.specs.declared.edges.MadeEdge.{MadeEdge}
use Rattle.made_input.proofs.Lines.{first_edge, next_edge}
use Rattle.made_input.proofs.texts.edge_table.Goals as goal

pub loop-edge-init : goal.loop-edge-init
loop-edge-init c = first_edge c.args.wish.now c.args.edges.now c.new-text.result.items c.put.new.text.items c.new-text.ensures.items (search rules)

pub loop-edge-preserved : goal.loop-edge-preserved
loop-edge-preserved c =
    let w = c.args.wish.now in
    let d : MadeEdge = record { a = 0; b = 0; affinity = 0; active = false } in
    c.in_ok-put_edge.ensures ∙ ap (λ t. t ++ record_text (edge_fields w (get_or c.args.edges.now c.loop-edge.edge-index d))) c.loop-edge.invariant
    ∙ sym (next_edge w c.args.edges.now c.loop-edge.edge-index d c.loop-edge-test.true)
