use Rattle.flow_laws.proofs.Greatest.{exists}
use Rattle.flow_laws.proofs.laws.flows_exist.Goals as goal

pub returns : goal.returns
returns c = exists
