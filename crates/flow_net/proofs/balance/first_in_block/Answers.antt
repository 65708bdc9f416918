use Rattle.std.proofs.Common.{◌∙◌, map, length, arith}
use Rattle.std.proofs.lemmas.List.{length-map}
use Rattle.flow_net.specs.Net.{wire_of}
use Rattle.flow_net.proofs.Adding.{same_differs}
use Rattle.flow_net.proofs.balance.first_in_block.Goals as goal

pub returns : goal.returns
returns c = c.first_different.ensures ∙ same_differs (map wire_of c.args.links.now) c.args.sources.now c.args.sinks.now c.args.amounts.now
    c.add_links.new.into c.add_links.new.out (length c.args.links.now) c.args.first c.args.count (length-map c.args.links.now wire_of)
    (omega (arith, c.requires.into, c.add_links.auto.into)) (omega (arith, c.requires.out, c.add_links.auto.out)) c.add_links.ensures.into c.add_links.ensures.out
