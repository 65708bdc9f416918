use Rattle.edit_desk.specs.Desk.{IsReady}
use Rattle.desk_tests.proofs.reading.read_all.Given as goal

abbrev pub invariant-loop : goal.invariant-loop
invariant-loop l = IsReady l.desk.shared.now l.desk.dataset.now l.pass
