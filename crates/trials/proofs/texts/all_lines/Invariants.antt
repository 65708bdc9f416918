use Rattle.std.proofs.Common.{map}
use Rattle.trials.specs.Starts.{AreWhole}
use Rattle.trials.proofs.texts.all_lines.Given as goal

abbrev pub invariant-loop-bytes : goal.invariant-loop-bytes
invariant-loop-bytes l = AreWhole (map (λ v. v.items) l.yielded) l.list.items
