use Rattle.std.proofs.Common.{◌≡◌, ℕ, ◌<◌, false, get_or}
use Rattle.min_cut.specs.Queue.{marked}
use Rattle.min_cut.proofs.breadth.past_sinks.Given as goal

abbrev pub invariant-loop-i : goal.invariant-loop-i
invariant-loop-i l = (j : ℕ) → j < l.i → marked l.is_sink (get_or l.queue j 0) ≡ false
