use Rattle.rehearsal.proofs.Prints.{never_zero}
use Rattle.std.proofs.Common.{◌∙◌, sym}
use Rattle.rehearsal.proofs.printing.end_with.Goals as goal

pub returns-else-is_ok-clause-flushed : goal.returns-else-is_ok-clause-flushed
returns-else-is_ok-clause-flushed g c = λ e. never_zero c.args.summary.now.status (sym c.at_fault.ensures ∙ e)
