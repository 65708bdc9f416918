use Rattle.std.proofs.Common.{◌≡◌, ◌≤◌, ◌*◌, sum_by, take}
use Rattle.session_results.proofs.counting.refused_count.Given as goal

abbrev pub invariant-loop-each : goal.invariant-loop-each
invariant-loop-each g l = (l.count ≡ sum_by (λ x. x.refused) (take l.each-index l.answers)) × (l.count ≤ l.each-index * 4294967295)
