use Rattle.std.proofs.Common.{◌≡◌, ◌≤◌, length}
use Rattle.std.specs.Io.KnownBytes.{Consumes}
use Rattle.pcg_base.proofs.reading.read_stream.Given as goal

abbrev pub invariant-loop-turn : goal.invariant-loop-turn
invariant-loop-turn g l = Consumes (g.S.Source.left l.fn.from) (g.S.Source.left l.from) l.bytes.items
    × (length l.bytes.items ≤ l.limit)
    × (l.turn ≤ length l.bytes.items)
    × (g.S.Source.faults l.from ≡ g.S.Source.faults l.fn.from)
