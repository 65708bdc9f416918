-- The grid of base chunks.
use Rattle.std.specs.Prelude.{ℕ, Bool, ◌&&◌, nat_le, nat_lt, if◌then◌else◌, Result, Ok, Err}
use Rattle.chunk_geometry.specs.Cells.{Cells}
use Rattle.chunk_geometry.specs.declared.Cell.{Cell}
use Rattle.chunk_geometry.specs.declared.grid.GridError.{GridError}

-- so many base chunks may lie along an axis
abbrev pub fits_axis : ℕ → Bool
fits_axis n = nat_le 1 n && nat_le n 65536

-- the grid of these numbers, or the first axis whose number doesn't fit
unfoldable pub grid_of : ℕ → ℕ → ℕ → Result Cells GridError
grid_of nx ny nz =
    if fits_axis nx
    then (if fits_axis ny
    then (if fits_axis nz then Ok (record { x = nx; y = ny; z = nz }) else Err (record { axis = 2; value = nz }))
    else Err (record { axis = 1; value = ny }))
    else Err (record { axis = 0; value = nx })

-- a base chunk lies in the grid
abbrev pub in_grid : Cells → Cell → Bool
in_grid g c = nat_lt c.x g.x && nat_lt c.y g.y && nat_lt c.z g.z
