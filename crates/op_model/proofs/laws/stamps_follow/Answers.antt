use Rattle.op_model.proofs.StampLemmas.{stamps}
use Rattle.op_model.proofs.laws.stamps_follow.Goals as goal

pub returns : goal.returns
returns c = stamps
