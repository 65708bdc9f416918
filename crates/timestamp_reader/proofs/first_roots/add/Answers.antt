use Rattle.std.proofs.Common.{◌++◌, [], ◌∷◌, ◌∙◌, ap}
use Rattle.timestamp_reader.proofs.first_roots.add.Goals as goal

pub returns-in-Ok-clause-is : goal.returns-in-Ok-clause-is
returns-in-Ok-clause-is g c d b log n i h = c.in-Ok.ensures.items ∙ ap (λ x. c.args.list.now.items ++ x ∷ []) (c.node.ensures.is d b log n i h).0
