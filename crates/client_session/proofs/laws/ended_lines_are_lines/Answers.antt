use Rattle.client_session.proofs.Givings.{front_ended, none_ended}
use Rattle.client_session.proofs.laws.ended_lines_are_lines.Goals as goal

pub returns-clause-none : goal.returns-clause-none
returns-clause-none c = λ rest none. none_ended rest none

pub returns-clause-front : goal.returns-clause-front
returns-clause-front c = λ front rest none. front_ended front rest none
