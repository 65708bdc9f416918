use Rattle.std.proofs.Common.{◌∷◌}
use Rattle.entry_layers.proofs.layering.first_layer.Goals as goal

pub returns-clause-are : goal.returns-clause-are
returns-clause-are c b log e words ends all is gathered =
    c.lowest.ensures.are c.args.dataset.now b log e c.args.part.now.supervoxels all (c.in_ok-firsts.ensures.are b (e ∷ log) is.image.base is.part_is) gathered
