use Rattle.united_layers.proofs.Layered.{firsts_lowest}
use Rattle.united_layers.proofs.layering.first_layer.Goals as goal

pub returns : goal.returns
returns c d b log e words ends joints all is gathered =
    c.lowest.ensures.are d b log e c.args.ids.now all (firsts_lowest d b log e words c.args.ids.now ends joints is c.in_ok-firsts.firsts.items c.in_ok-firsts.ensures) gathered
