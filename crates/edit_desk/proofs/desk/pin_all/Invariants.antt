use Rattle.std.proofs.Common.{◌≡◌, [], false}
use Rattle.edit_desk.specs.Desk.{Stays}
use Rattle.edit_desk.proofs.desk.pin_all.Given as goal

abbrev pub invariant-loop : goal.invariant-loop
invariant-loop g l = (l.pass.table ≡ l.initial.pass.table) × (l.pass.view.held ≡ []) × (l.pass.view.turn ≡ false) × (l.pass.view.draft ≡ []) × Stays l.initial.pass.view l.pass.view
