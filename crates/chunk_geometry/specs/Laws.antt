-- Inner: no clause of `run` is made of it.
-- Laws over chunks.
use Rattle.std.specs.Prelude.{◌≡◌, ◌≤◌, true}
use Rattle.chunk_geometry.specs.Cells.{Cells}
use Rattle.chunk_geometry.specs.declared.Cell.{Cell}
use Rattle.chunk_geometry.specs.Chunks.{chunk_at, top_layer, widest}
use Rattle.chunk_geometry.specs.Grids.{in_grid}

-- the top layer's only chunk is the first
abbrev pub TopHasOneChunk : Type 0
TopHasOneChunk = (g : Cells) (base : Cell) → widest g ≤ 65536 → in_grid g base ≡ true → chunk_at (top_layer g) base ≡ record { x = 0; y = 0; z = 0 }
