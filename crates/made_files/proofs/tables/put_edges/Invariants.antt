use Rattle.made_input.specs.Rows.{table_text}
use Rattle.made_input.proofs.Lines.{edges_upto}
use Rattle.request_lines.specs.Sent.{Puts}
use Rattle.made_files.proofs.tables.put_edges.Given as goal

abbrev pub invariant-loop-edge : goal.invariant-loop-edge
invariant-loop-edge g l =
    Puts (g.K.Sink.state l.fn.out) (g.K.Sink.state l.out) l.fn.page l.page (table_text (edges_upto l.wish l.edges l.edge-index))
