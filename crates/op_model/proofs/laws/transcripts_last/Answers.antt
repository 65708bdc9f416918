use Rattle.op_model.proofs.ReversedLemmas.{transcript_lasts}
use Rattle.op_model.proofs.laws.transcripts_last.Goals as goal

pub returns : goal.returns
returns c = transcript_lasts
