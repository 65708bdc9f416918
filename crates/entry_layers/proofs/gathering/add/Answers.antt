use Rattle.std.proofs.Common.{rules}
use Rattle.entry_layers.proofs.LayerSteps.{gathered}
use Rattle.entry_layers.proofs.gathering.add.Goals as goal

pub returns-clause-gathered : goal.returns-clause-gathered
returns-clause-gathered c d b log e n below is s made spent count linked known =
    gathered d b log e n c.args.layer c.args.all.now _ c.args.nodes.now below c.args.links.now c.args.spent s is made spent count linked known
    (search rules) (search rules) c.first_spent-all.ensures.told (λ o. (c.first_spent-all.ensures.none o).0)
