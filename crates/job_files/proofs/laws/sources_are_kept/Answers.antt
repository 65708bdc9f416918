use Rattle.job_files.proofs.KeptIn.{are_kept_in}
use Rattle.job_files.proofs.laws.sources_are_kept.Goals as goal

pub returns : goal.returns
returns c = are_kept_in
