use Rattle.std.proofs.Common.{◌≡◌, ◌++◌}
use Rattle.entry_rows.specs.Listed.{places_from}
use Rattle.entry_rows.proofs.owners.put_places.Given as goal

abbrev pub invariant-loop-k : goal.invariant-loop-k
invariant-loop-k l = l.list.items ≡ l.fn.list.items ++ places_from l.from l.k
