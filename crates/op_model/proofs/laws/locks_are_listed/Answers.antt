use Rattle.op_model.proofs.LockLemmas.{locks_listed}
use Rattle.op_model.proofs.laws.locks_are_listed.Goals as goal

pub returns : goal.returns
returns c = locks_listed
