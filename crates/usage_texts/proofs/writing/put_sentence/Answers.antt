use Rattle.usage_texts.proofs.Some.{both_some, some_then}
use Rattle.usage_texts.proofs.writing.put_sentence.Goals as goal

pub returns : goal.returns
returns g c = some_then _ (both_some (_, c.put.ensures) c.put_parts.ensures) c.put-2.ensures
