use Rattle.node_ids.proofs.DigitLemmas.{spelled, read_back}
use Rattle.node_ids.proofs.laws.digits_are_one_spelling.Goals as goal

pub returns : goal.returns
returns c = record { one = spelled; read = read_back }
