use Rattle.std.proofs.Common.{◌≡◌, ◌∙◌, true, sym, ap₂, subst}
use Rattle.chunk_geometry.specs.declared.Cell.{Cell}
use Rattle.chunk_geometry.specs.Grids.{in_grid}
use Rattle.chunk_geometry.specs.Levels.{level as level_of}
use Rattle.layer_laws.specs.Levels.{level}
use Rattle.layer_laws.proofs.LevelLemmas.{in_cell}
use Rattle.united_layers.proofs.reading.pair_joint.Goals as goal

pub level-requires-clause-a : goal.level-requires-clause-a
level-requires-clause-a c = let d = c.args.dataset.now in subst (λ (p : Cell). in_grid d.grid p ≡ true) (sym c.cell.ensures) (in_cell d c.args.change.now.pair.a c.requires.ends.0)

pub level-requires-clause-b : goal.level-requires-clause-b
level-requires-clause-b c = let d = c.args.dataset.now in subst (λ (p : Cell). in_grid d.grid p ≡ true) (sym c.cell-2.ensures) (in_cell d c.args.change.now.pair.b c.requires.ends.1)

pub returns : goal.returns
unfolding level
returns c = λ i. record { layer = (c.level.ensures.is ∙ ap₂ level_of c.cell.ensures c.cell-2.ensures) i; a = c.args.change.now.pair.a; b = c.args.change.now.pair.b }
