use Rattle.std.proofs.Common.{◌-◌, length}
use Rattle.std.specs.Prelude.{vec_capacity}
use Rattle.pcg_base.proofs.vec_words.keep_hint.Given as goal

abbrev pub decreases-loop-hints : goal.decreases-loop-hints
decreases-loop-hints l = vec_capacity l.hints - length l.hints.items
