use Rattle.std.proofs.Common.{◌≡◌, drop}
use Rattle.op_model.specs.declared.reply.Refusal.TheVariants.{BothSides}
use Rattle.graph_model.specs.Lists.{has}
use Rattle.op_model.specs.Refusals.{refuse_first}
use Rattle.edit_split.proofs.refusing.on_both_sides.Given as goal

abbrev pub invariant-loop-at : goal.invariant-loop-at
invariant-loop-at l = refuse_first BothSides (λ v. has l.sinks v) l.sources ≡ refuse_first BothSides (λ v. has l.sinks v) (drop l.at l.sources)
