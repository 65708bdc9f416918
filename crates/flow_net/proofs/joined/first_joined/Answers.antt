use Rattle.std.proofs.Common.{sym, ◌∙◌, map}
use Rattle.flow_net.specs.Net.{wire_of}
use Rattle.graph_model.specs.Lists.{has}
use Rattle.flow_net.proofs.Reached.{no_sink}
use Rattle.flow_net.proofs.joined.first_joined.Goals as goal

pub returns-in-None : goal.returns-in-None
returns-in-None c = sym (no_sink (map wire_of c.args.links.now) (has c.args.cut.now) c.args.sources.now c.args.sinks.now c.reach.new.seen c.reach.ensures
    (λ k d l. rw c.reach.auto.seen (c.requires.sinks k d l)) (sym c.first_marked.ensures ∙ c.in-None.is))
