use Rattle.std.proofs.Common.{sym, ◌∙◌, map, length}
use Rattle.flow_net.specs.Net.{wire_of}
use Rattle.flow_net.specs.Tests.{fits}
use Rattle.flow_net.proofs.Nets.{each_not}
use Rattle.flow_net.proofs.net.all_fit.Goals as goal

pub returns-then-not-is_fit : goal.returns-then-not-is_fit
returns-then-not-is_fit c =
    sym (each_not (fits c.args.n (map wire_of c.args.links.now)) c.loop-k.k (length c.args.links.now) (sym c.is_fit.ensures ∙ c.if-not-is_fit.true) c.loop-k-test.true)
