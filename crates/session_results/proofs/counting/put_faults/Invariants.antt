use Rattle.std.proofs.Common.{◌≡◌, ◌≤◌, ◌+◌, ◌++◌, drop, length, vec_capacity}
use Rattle.session_results.specs.Begun.{faults_told}
use Rattle.session_results.proofs.counting.put_faults.Given as goal

abbrev pub invariant-loop-k : goal.invariant-loop-k
invariant-loop-k g l =
    (l.faults.items ++ faults_told (l.k + 1) (drop l.k l.answers) (drop l.k l.ends) ≡ faults_told 1 l.answers l.ends)
    × (length l.faults.items ≤ l.k) × (vec_capacity l.faults ≡ vec_capacity l.fn.faults)
