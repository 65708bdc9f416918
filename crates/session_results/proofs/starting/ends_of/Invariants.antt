use Rattle.std.proofs.Common.{◌≡◌, map, take}
use Rattle.session_results.proofs.starting.ends_of.Given as goal

abbrev pub invariant-loop-each : goal.invariant-loop-each
invariant-loop-each l = l.ends.items ≡ map (λ r. r.end) (take l.each-index l.read)
