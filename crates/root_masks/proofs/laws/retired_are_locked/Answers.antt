use Rattle.root_masks.proofs.Lasting.{retired_locked}
use Rattle.root_masks.proofs.laws.retired_are_locked.Goals as goal

pub returns : goal.returns
returns c = retired_locked
