use Rattle.std.proofs.Common.{◌≡◌, ◌≤◌, ◌-◌, take, length}
use Rattle.std.specs.Io.KnownBytes.{Appends}
use Rattle.pcg_base.proofs.writing.write_all.Given as goal

abbrev pub invariant-loop-at : goal.invariant-loop-at
invariant-loop-at g l = (l.at ≤ length l.piece) × Appends (g.K.Sink.state l.fn.out).held (g.K.Sink.state l.out).held (take l.at l.piece)
    × ((g.K.Sink.state l.out).faults ≡ (g.K.Sink.state l.fn.out).faults)
    × ((g.K.Sink.state l.out).flushed ≡ (g.K.Sink.state l.fn.out).flushed)

abbrev pub decreases-loop-at : goal.decreases-loop-at
decreases-loop-at g l = length l.initial.piece - l.at
