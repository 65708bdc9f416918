-- Inner: no clause of `run` is made of it.
-- The level of two base chunks: the least layer from the second on whose chunk holds both.
use Rattle.std.specs.Prelude.{ℕ, Bool, ◌==◌, ◌&&◌}
use Rattle.chunk_geometry.specs.declared.Cell.{Cell}
use Rattle.chunk_geometry.specs.Chunks.{chunk_at, first_from}

-- one place
abbrev pub same_cell : Cell → Cell → Bool
same_cell a b = a.x == b.x && (a.y == b.y && a.z == b.z)

-- no grid has a layer above the 18th
unfoldable pub level : Cell → Cell → ℕ
level a b = first_from (λ layer. same_cell (chunk_at layer a) (chunk_at layer b)) 2 16
