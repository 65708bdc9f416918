use Rattle.entry_rows.proofs.LogFacts.{log_lists_tell}
use Rattle.entry_rows.proofs.laws.log_lists_tell.Goals as goal

pub returns : goal.returns
returns c = log_lists_tell
