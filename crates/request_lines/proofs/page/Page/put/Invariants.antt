use Rattle.std.proofs.Common.{length, ◌-◌, ◌≤◌, take}
use Rattle.request_lines.specs.Sent.{Puts}
use Rattle.request_lines.proofs.page.Page.put.Given as goal

abbrev pub invariant-loop-at : goal.invariant-loop-at
invariant-loop-at g l = (l.at ≤ length l.piece) × Puts (g.K.Sink.state l.fn.out) (g.K.Sink.state l.out) l.fn.self l.self (take l.at l.piece)

abbrev pub decreases-loop-at : goal.decreases-loop-at
decreases-loop-at g l = length l.piece - l.at
