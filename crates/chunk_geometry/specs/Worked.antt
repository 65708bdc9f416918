-- Examples: no clause of `run` is made of them.
-- Worked grids.
use Rattle.std.specs.Prelude.{◌≡◌, ℕ, Ok, Err}
use Rattle.chunk_geometry.specs.Cells.{Cells}
use Rattle.chunk_geometry.specs.declared.Cell.{Cell}
use Rattle.chunk_geometry.specs.Chunks.{chunk_at, top_layer}
use Rattle.chunk_geometry.specs.Grids.{grid_of}
use Rattle.chunk_geometry.specs.Levels.{level}

abbrev pub grid : ℕ → ℕ → ℕ → Cells
grid x y z = record { x = x; y = y; z = z }

abbrev pub cell : ℕ → ℕ → ℕ → Cell
cell x y z = record { x = x; y = y; z = z }

pub record WorkedGrids : Type 0 where
  pub empty : grid_of 0 1 1 ≡ Err (record { axis = 0; value = 0 })
  pub wide : grid_of 1 65537 0 ≡ Err (record { axis = 1; value = 65537 })
  pub widest : grid_of 1 1 65536 ≡ Ok (grid 1 1 65536)
  pub top_of_one : top_layer (grid 1 1 1) ≡ 2
  pub top_of_two : top_layer (grid 2 1 1) ≡ 3
  pub top_of_most : top_layer (grid 65536 1 1) ≡ 18
  pub base : chunk_at 1 (cell 5 6 7) ≡ cell 5 6 7
  pub second : chunk_at 2 (cell 5 6 7) ≡ cell 5 6 7
  pub third : chunk_at 3 (cell 5 6 7) ≡ cell 2 3 3
  pub same : level (cell 5 6 7) (cell 5 6 7) ≡ 2
  pub next : level (cell 5 6 7) (cell 4 7 7) ≡ 3
  pub middle : level (cell 3 0 0) (cell 4 0 0) ≡ 5
