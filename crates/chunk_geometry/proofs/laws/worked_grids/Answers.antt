use Rattle.std.proofs.Common.{refl}
use Rattle.chunk_geometry.specs.Chunks.{chunk_at, top_from, top_layer}
use Rattle.chunk_geometry.specs.Grids.{grid_of}
use Rattle.chunk_geometry.specs.Levels.{level}
use Rattle.chunk_geometry.proofs.laws.worked_grids.Goals as goal

pub returns : goal.returns
unfolding chunk_at top_from top_layer grid_of level
returns c = record {
  empty = refl;
  wide = refl;
  widest = refl;
  top_of_one = refl;
  top_of_two = refl;
  top_of_most = refl;
  base = refl;
  second = refl;
  third = refl;
  same = refl;
  next = refl;
  middle = refl;
}
