use Rattle.op_model.proofs.ReversedLemmas.{reverses}
use Rattle.op_model.proofs.laws.transcripts_reverse.Goals as goal

pub returns : goal.returns
returns c = reverses
