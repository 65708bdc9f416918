use Rattle.std.proofs.Common.{◌≡◌, true, map}
use Rattle.graph_model.specs.Cuts.{each_below}
use Rattle.flow_net.specs.Net.{wire_of}
use Rattle.flow_net.specs.Tests.{follows}
use Rattle.flow_net.proofs.net.all_follow.Given as goal

abbrev pub invariant-loop-k : goal.invariant-loop-k
invariant-loop-k l = each_below (follows (map wire_of l.links)) l.k ≡ true
