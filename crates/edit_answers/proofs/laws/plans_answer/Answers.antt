use Rattle.edit_answers.proofs.Answering.{plans_are}
use Rattle.edit_answers.proofs.laws.plans_answer.Goals as goal

pub returns : goal.returns
returns c = plans_are
