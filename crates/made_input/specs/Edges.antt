-- The supervoxels and edges that are made from a number.
use Rattle.std.specs.Prelude.{ℕ, zero, suc, ◌+◌, ◌-◌, ◌*◌, ◌/◌, ◌%◌, ◌^◌, ◌≤◌, ◌<◌, Bool, not, ◌&&◌, ◌==◌, nat_le, nat_lt, if◌then◌else◌, List, [], ◌∷◌, ◌++◌}
use Rattle.chunk_geometry.specs.Cells.{Cells}
use Rattle.node_ids.specs.Ids.{IsLayout, id_of}
use Rattle.node_ids.specs.declared.Parts.{Parts}
use Rattle.made_input.specs.Draws.{next, shown}
use Rattle.made_input.specs.declared.edges.MadeEdge.{MadeEdge}
use Rattle.made_input.specs.declared.wish.Wish.{Wish}

-- how many base chunks there are
abbrev pub chunks : Wish → ℕ
chunks w = w.grid.x * w.grid.y * w.grid.z

-- A wish that can be met. Its ids can name the grid's coordinates, and the grid has room for the supervoxels.
pub record IsWish (w : Wish) : Type 0 where
  pub layout : IsLayout w.layout
  pub x : (1 ≤ w.grid.x) × (w.grid.x ≤ 2 ^ w.layout.bits)
  pub y : (1 ≤ w.grid.y) × (w.grid.y ≤ 2 ^ w.layout.bits)
  pub z : (1 ≤ w.grid.z) × (w.grid.z ≤ 2 ^ w.layout.bits)
  pub size : (1 ≤ w.size) × (w.size ≤ 1000000) × (w.size ≤ chunks w * (2 ^ (56 - 3 * w.layout.bits) - 1))
  pub requests : w.requests ≤ 100000
  pub clients : (1 ≤ w.clients) × (w.clients ≤ 64)

-- the base chunk with a number: the numbers run along x first, then y, then z
abbrev pub cell_of : Wish → ℕ → Cells
cell_of w n = record { x = n % w.grid.x; y = n / w.grid.x % w.grid.y; z = n / (w.grid.x * w.grid.y) }

-- the layer, chunk and segment of the supervoxel with a number: each chunk in turn gets one more
unfoldable pub parts : Wish → ℕ → Parts
parts w k =
    let cell = cell_of w (k % chunks w) in
    record { layer = 1; x = cell.x; y = cell.y; z = cell.z; segment = k / chunks w + 1 }

-- the id of the supervoxel with a number
abbrev pub supervoxel : Wish → ℕ → ℕ
supervoxel w k = id_of w.layout (parts w k)

-- the edges so far, and the state
abbrev pub Made : Type 0
Made = List MadeEdge × ℕ

-- an edge from the last supervoxel of the same chunk, if there is one: seven in eight are active
unfoldable pub with_inner : Wish → ℕ → Made → Made
with_inner w k made =
    if nat_le (chunks w) k then (
      made.0 ++ record { a = k - chunks w; b = k; affinity = 1 + shown 100 (next made.1); active = not (shown 8 (next (next made.1)) == 0) } ∷ [],
      next (next made.1),
    ) else made

-- the supervoxel has a neighbour in the next chunk along x
abbrev pub has_neighbour : Wish → ℕ → Bool
has_neighbour w k = nat_lt ((k % chunks w) % w.grid.x + 1) w.grid.x && nat_lt (k + 1) w.size

-- an edge to that neighbour, for one in four: half of them are active
unfoldable pub with_outer : Wish → ℕ → Made → Made
with_outer w k made =
    if has_neighbour w k then (
    if shown 4 (next made.1) == 0 then (
      made.0 ++ record { a = k; b = k + 1; affinity = 1 + shown 100 (next (next made.1)); active = shown 2 (next (next (next made.1))) == 0 } ∷ [],
      next (next (next made.1)),
    ) else (made.0, next made.1)
    ) else made

-- the edges of the supervoxels with numbers below k, in their order, and the state behind them
unfoldable pub edges_below : Wish → ℕ → Made
edges_below w zero = ([], w.number)
edges_below w (suc k) = with_outer w k (with_inner w k (edges_below w k))

-- an edge between two of the supervoxels, with an affinity from 1 to 100
abbrev pub IsMade : Wish → MadeEdge → Type 0
IsMade w e = (e.a < w.size) × (e.b < w.size) × (1 ≤ e.affinity) × (e.affinity ≤ 100)
