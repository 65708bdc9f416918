use Rattle.histories.proofs.EachLog.{live_roots_are_counted}
use Rattle.histories.proofs.laws.live_roots_are_counted.Goals as goal

pub returns : goal.returns
returns c = live_roots_are_counted
