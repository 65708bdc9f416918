use Rattle.op_model.proofs.RetiresLemmas.{retires}
use Rattle.op_model.proofs.laws.retires_touched.Goals as goal

pub returns : goal.returns
returns c = retires
