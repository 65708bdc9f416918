use Rattle.std.proofs.Common.{refl}
use Rattle.std.proofs.lemmas.Bool.{lt-ltb, le-ltb}
use Rattle.base_rows.specs.States.{owner_place}
use Rattle.base_rows.proofs.links.owner_place.Goals as goal

pub returns-then-place-supervoxels : goal.returns-then-place-supervoxels
unfolding owner_place
returns-then-place-supervoxels c = rw (lt-ltb c.args.place c.args.supervoxels c.if-place-supervoxels.true) refl

pub returns-else-place-supervoxels : goal.returns-else-place-supervoxels
unfolding owner_place
returns-else-place-supervoxels c = rw (le-ltb c.args.place c.args.supervoxels c.if-place-supervoxels.false) refl
