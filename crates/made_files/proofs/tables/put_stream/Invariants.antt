use Rattle.std.proofs.Common.{◌≡◌}
use Rattle.made_input.specs.Texts.{stream_of}
use Rattle.request_lines.specs.Sent.{Puts}
use Rattle.made_files.proofs.tables.put_stream.Given as goal

abbrev pub invariant-loop-j : goal.invariant-loop-j
invariant-loop-j g l =
    Puts (g.K.Sink.state l.fn.out) (g.K.Sink.state l.out) l.fn.page l.page (stream_of l.wish l.from l.j).0
    × (l.state ≡ (stream_of l.wish l.from l.j).1)
