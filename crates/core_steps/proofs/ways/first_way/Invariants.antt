use Rattle.std.proofs.Common.{◌≡◌, ◌<◌, ℕ, Some}
use Rattle.std.specs.Prelude.{slice_get}
use Rattle.client_events.specs.declared.clients.Client.{Client}
use Rattle.core_steps.specs.Ways.{Stays}
use Rattle.core_steps.proofs.ways.first_way.Given as goal

abbrev pub invariant-loop-place : goal.invariant-loop-place
invariant-loop-place l = (k : ℕ) (me : Client) → k < l.place → slice_get l.clients k ≡ Some me → Stays l.table me
