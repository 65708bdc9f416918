use Rattle.std.proofs.Common.{◌≡◌, length}
use Rattle.std.specs.List.{AllByRecursion}
use Rattle.client_answers.specs.Written.{IsFresh}
use Rattle.trials.proofs.playing.no_answers.Given as goal

abbrev pub invariant-loop-made : goal.invariant-loop-made
invariant-loop-made l = (length l.list.items ≡ l.made) × AllByRecursion IsFresh l.list.items
