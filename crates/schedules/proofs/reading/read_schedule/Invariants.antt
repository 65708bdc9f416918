use Rattle.std.proofs.Common.{◌≡◌, ◌+◌, ◌≤◌, length}
use Rattle.schedules.specs.Schedules.{clients_from, schedule_of}
use Rattle.schedules.specs.Words.{words_of}
use Rattle.schedules.proofs.NumberLemmas.{onto}
use Rattle.schedules.proofs.reading.read_schedule.Given as goal

abbrev pub invariant-loop-first : goal.invariant-loop-first
invariant-loop-first l =
    (schedule_of l.clients l.text ≡ onto l.numbers.items (clients_from l.clients (l.word + 1) (words_of l.rest))) × (l.word + length l.rest ≤ length l.text)

abbrev pub decreases-loop-first : goal.decreases-loop-first
decreases-loop-first l = length l.rest
