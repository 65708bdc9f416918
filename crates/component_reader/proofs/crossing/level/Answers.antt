use Rattle.std.proofs.Common.{◌≡◌, ◌∙◌, true, sym, subst, ap₂}
use Rattle.chunk_geometry.specs.declared.Cell.{Cell}
use Rattle.chunk_geometry.specs.Grids.{in_grid}
use Rattle.chunk_geometry.specs.Levels.{level as level_of}
use Rattle.layer_laws.specs.Levels.{level}
use Rattle.layer_laws.proofs.LevelLemmas.{in_cell}
use Rattle.component_reader.proofs.crossing.level.Goals as goal

pub level-requires-clause-a : goal.level-requires-clause-a
level-requires-clause-a c = subst (λ (p : Cell). in_grid c.args.dataset.now.grid p ≡ true) (sym c.cell.ensures) (in_cell c.args.dataset.now c.args.u c.requires.u)

pub level-requires-clause-b : goal.level-requires-clause-b
level-requires-clause-b c = subst (λ (p : Cell). in_grid c.args.dataset.now.grid p ≡ true) (sym c.cell-2.ensures) (in_cell c.args.dataset.now c.args.v c.requires.v)

pub returns : goal.returns
unfolding level
returns c = c.level.ensures.is ∙ ap₂ level_of c.cell.ensures c.cell-2.ensures
