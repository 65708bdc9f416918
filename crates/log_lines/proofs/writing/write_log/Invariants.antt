use Rattle.std.proofs.Common.{◌≡◌, length}
use Rattle.record_rows.proofs.WalkLemmas.{steps_left}
use Rattle.log_lines.proofs.Walk.{AllWritten}
use Rattle.log_lines.proofs.writing.write_log.Given as goal

abbrev pub invariant-loop-next : goal.invariant-loop-next
invariant-loop-next g l = record {
  same : l.w ≡ l.fn.w;
  still : (g.K.Sink.state l.out).faults ≡ (g.K.Sink.state l.fn.out).faults;
  written : AllWritten (g.W.Words.words l.fn.w) l.next l.roots (g.K.Sink.state l.fn.out).held (g.K.Sink.state l.out).held;
}

abbrev pub decreases-loop-next : goal.decreases-loop-next
decreases-loop-next g l = steps_left (length (g.W.Words.words l.fn.w)) l.next
