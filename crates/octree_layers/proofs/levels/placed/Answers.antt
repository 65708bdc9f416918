use Rattle.std.proofs.Common.{◌≡◌, true, sym, subst}
use Rattle.chunk_geometry.specs.declared.Cell.{Cell}
use Rattle.chunk_geometry.specs.Grids.{in_grid}
use Rattle.op_model.specs.Valid.{IsSupervoxel}
use Rattle.op_model.proofs.LegalLemmas.{all_has}
use Rattle.layer_laws.proofs.LevelLemmas.{in_cell}
use Rattle.octree_layers.proofs.Placing.{greater_known, lesser_known, placed_is}
use Rattle.octree_layers.proofs.levels.placed.Goals as goal

pub level-requires-clause-a : goal.level-requires-clause-a
level-requires-clause-a c =
    let d = c.args.dataset.now in
    let vs = c.args.base.now.supervoxels in
    let v = c.args.end.now.edge.pair.a in
    subst (λ (p : Cell). in_grid d.grid p ≡ true) (sym c.cell.ensures) (in_cell d v (all_has (IsSupervoxel d) vs v c.requires.base.supervoxels (lesser_known vs c.args.end.now c.requires.placed)))

pub level-requires-clause-b : goal.level-requires-clause-b
level-requires-clause-b c =
    let d = c.args.dataset.now in
    let vs = c.args.base.now.supervoxels in
    let v = c.args.end.now.edge.pair.b in
    subst (λ (p : Cell). in_grid d.grid p ≡ true) (sym c.cell-2.ensures) (in_cell d v (all_has (IsSupervoxel d) vs v c.requires.base.supervoxels (greater_known vs c.args.end.now c.requires.placed)))

pub returns : goal.returns
returns c =
    placed_is c.args.dataset.now c.args.base.now c.args.end.now c.level.result c.cell.result c.cell-2.result
    c.requires.base.ascending c.requires.placed c.level.ensures.is c.cell.ensures c.cell-2.ensures
