use Rattle.flow_net.proofs.Nets.{net_is_tested}
use Rattle.flow_net.proofs.net.is_net.Goals as goal

pub returns : goal.returns
returns c = net_is_tested c.args.n c.args.links.now c.passes.result c.passes.ensures
