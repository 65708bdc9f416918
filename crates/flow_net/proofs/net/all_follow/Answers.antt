use Rattle.std.proofs.Common.{sym, ◌∙◌, map, length}
use Rattle.flow_net.specs.Net.{wire_of}
use Rattle.flow_net.specs.Tests.{follows}
use Rattle.flow_net.proofs.Nets.{each_not}
use Rattle.flow_net.proofs.net.all_follow.Goals as goal

pub returns-then-not-is_following : goal.returns-then-not-is_following
returns-then-not-is_following c =
    sym (each_not (follows (map wire_of c.args.links.now)) c.loop-k.k (length c.args.links.now) (sym c.is_following.ensures ∙ c.if-not-is_following.true) c.loop-k-test.true)
