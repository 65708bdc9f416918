use Rattle.root_masks.proofs.Lasting.{locks_last, plans_stay}
use Rattle.root_masks.proofs.laws.answers_last.Goals as goal

pub returns-clause-locks : goal.returns-clause-locks
returns-clause-locks c = locks_last

pub returns-clause-plans : goal.returns-clause-plans
returns-clause-plans c = plans_stay
