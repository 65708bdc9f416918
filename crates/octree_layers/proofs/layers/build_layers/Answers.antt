use Rattle.octree_layers.specs.Numbers.{OfSpent}
use Rattle.octree_layers.proofs.layers.build_layers.Goals as goal

pub returns-in_default-clause-spent : goal.returns-in_default-clause-spent
unfolding OfSpent
returns-in_default-clause-spent c = tt

pub returns-in_default-places-clause-spent : goal.returns-in_default-places-clause-spent
unfolding OfSpent
returns-in_default-places-clause-spent c = tt
