use Rattle.std.proofs.Common.{rules, ◌≡◌, ◌∙◌, ap, sym, subst, List, ◌∷◌, map, length}
use Rattle.std.specs.List.{All}
use Rattle.made_input.specs.Edges.{IsMade, Made}
use Rattle.made_input.specs.Rows.{table_text}
use Rattle.made_input.specs.Texts.{edge_fields, edge_header, edge_rows, input_of}
use Rattle.made_input.specs.declared.edges.MadeEdge.{MadeEdge}
use Rattle.made_input.proofs.Plain.{all_made}
use Rattle.made_input.proofs.streams.make_tables.Goals as goal

pub edge_table-requires-clause-made : goal.edge_table-requires-clause-made
edge_table-requires-clause-made c =
    let w = c.args.wish.now in
    let edges = c.in_ok-edges.edges in
    subst (λ (es : List MadeEdge). All (IsMade w) es) (sym c.as_slice.ensures.value) (all_made w edges.list.items edges.state c.in_ok-edges.ensures.edges)

pub returns : goal.returns
unfolding input_of edge_rows
returns c =
    let w = c.args.wish.now in
    let same = ap (λ (m : Made). m.0) c.in_ok-edges.ensures.edges in
    let table = c.in_ok-table.ensures ∙ ap (λ (es : List MadeEdge). table_text (edge_header ∷ map (edge_fields w) es)) (c.as_slice.ensures.value ∙ sym same) in
    let count : c.len.result ≡ length c.in_ok-edges.edges.list.items = search rules in
    let counted = count ∙ sym (ap (λ (es : List MadeEdge). length es) same) in
    λ i. record { supervoxels = c.in_ok-supervoxels.ensures i; edges = table i; streams = c.in_ok-streams.ensures i; edge_count = counted i }
