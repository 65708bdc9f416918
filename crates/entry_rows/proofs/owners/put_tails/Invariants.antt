use Rattle.std.proofs.Common.{◌≡◌, ◌++◌}
use Rattle.base_rows.specs.States.{tails_from}
use Rattle.entry_rows.proofs.owners.put_tails.Given as goal

abbrev pub invariant-loop-k : goal.invariant-loop-k
invariant-loop-k l = l.list.items ≡ l.fn.list.items ++ tails_from l.from l.word l.k
