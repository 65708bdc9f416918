use Rattle.std.proofs.Common.{◌≡◌, ◌≤◌, ◌-◌}
use Rattle.row_words.proofs.Halving.{Lesser, Greater}
use Rattle.row_words.proofs.searching.find_sorted.Given as goal

abbrev pub invariant-loop-low : goal.invariant-loop-low
invariant-loop-low g l = (l.w ≡ l.fn.w) × (l.low ≤ l.high) × (l.high ≤ l.count) × Lesser (g.W.Words.words l.fn.w) l.fn.first l.low l.id × Greater (g.W.Words.words l.fn.w) l.fn.first l.count l.high l.id

abbrev pub decreases-loop-low : goal.decreases-loop-low
decreases-loop-low g l = l.high - l.low
