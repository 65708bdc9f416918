use Rattle.job_files.proofs.KeptOut.{are_kept_out}
use Rattle.job_files.proofs.laws.sinks_are_kept.Goals as goal

pub returns : goal.returns
returns c = are_kept_out
