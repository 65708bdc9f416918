use Rattle.std.proofs.Common.{sym, ◌∙◌, map, length}
use Rattle.flow_net.specs.Net.{wire_of}
use Rattle.flow_net.specs.Tests.{is_new}
use Rattle.flow_net.proofs.Nets.{each_not}
use Rattle.flow_net.proofs.net.all_new.Goals as goal

pub returns-then-not-is_new_at : goal.returns-then-not-is_new_at
returns-then-not-is_new_at c =
    sym (each_not (is_new (map wire_of c.args.links.now)) c.loop-k.k (length c.args.links.now) (sym c.is_new_at.ensures ∙ c.if-not-is_new_at.true) c.loop-k-test.true)
