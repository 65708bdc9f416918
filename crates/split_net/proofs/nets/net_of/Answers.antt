use Rattle.std.proofs.Common.{◌≡◌, length, subst, sym}
use Rattle.graph_model.specs.Wires.{renamed}
use Rattle.flow_net.specs.Net.{NetView, wires}
use Rattle.op_model.specs.Cuts.{links_of}
use Rattle.split_net.specs.Parts.{id_at}
use Rattle.split_net.proofs.Renaming.{is_net, net_named, count_same}
use Rattle.split_net.proofs.nets.net_of.Goals as goal

pub new-requires : goal.new-requires
new-requires c = is_net c.args.leaves.now c.args.part.now c.in_ok-links.links.items c.requires.part c.in_ok-links.ensures.named c.in_ok-links.ensures.below

pub returns-clause-named : goal.returns-clause-named
returns-clause-named c =
    subst (λ (n : NetView). renamed (id_at c.args.leaves.now) (wires n) ≡ links_of c.args.part.now) (sym c.new.ensures)
    (net_named c.args.leaves.now c.args.part.now c.in_ok-links.links.items c.requires.part c.in_ok-links.ensures.named c.in_ok-links.ensures.below)

pub returns-clause-count : goal.returns-clause-count
returns-clause-count c =
    subst (λ (n : NetView). length n.links ≡ length c.args.part.now) (sym c.new.ensures)
    (count_same c.args.leaves.now c.args.part.now c.in_ok-links.links.items c.requires.part c.in_ok-links.ensures.named c.in_ok-links.ensures.below)
