use Rattle.flow_laws.proofs.Showing.{edit_shown}
use Rattle.flow_laws.proofs.laws.edits_are_shown.Goals as goal

pub returns : goal.returns
returns c = edit_shown
