use Rattle.edit_desk.specs.Desk.{IsReady}
use Rattle.desk_tests.proofs.reading.edit_all.Given as goal

abbrev pub invariant-loop-entries : goal.invariant-loop-entries
invariant-loop-entries g l = IsReady l.desk.shared.now l.desk.dataset.now l.pass
