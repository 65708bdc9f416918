use Rattle.std.proofs.Common.{◌≡◌}
use Rattle.united_layers.proofs.guessing.child_guesses.Given as goal

abbrev pub invariant-loop-place : goal.invariant-loop-place
invariant-loop-place g l = l.w ≡ l.fn.w
