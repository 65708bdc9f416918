use Rattle.made_input.specs.Rows.{table_text}
use Rattle.made_input.proofs.Lines.{rows_below}
use Rattle.request_lines.specs.Sent.{Puts}
use Rattle.made_files.proofs.tables.put_supervoxels.Given as goal

abbrev pub invariant-loop-k : goal.invariant-loop-k
invariant-loop-k g l =
    Puts (g.K.Sink.state l.fn.out) (g.K.Sink.state l.out) l.fn.page l.page (table_text (rows_below l.wish l.k))
