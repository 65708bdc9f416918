use Rattle.job_files.proofs.Emptying.{empties_others}
use Rattle.job_files.proofs.laws.answers_are_emptied.Goals as goal

pub returns : goal.returns
returns c = λ files files' names e. empties_others files files' names e
