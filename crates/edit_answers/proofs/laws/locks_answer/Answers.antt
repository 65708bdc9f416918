use Rattle.edit_answers.proofs.Answering.{locks_are}
use Rattle.edit_answers.proofs.laws.locks_answer.Goals as goal

pub returns : goal.returns
returns c = locks_are
