-- Inner: no clause of `run` is made of it.
-- The active edges among supervoxels.
use Rattle.std.specs.Prelude.{◌≡◌, ℕ, ◌<◌, Bool, ◌&&◌, List}
use Rattle.std.specs.List.{filter}
use Rattle.op_model.specs.declared.base.Edge.{Edge}
use Rattle.graph_model.specs.Lists.{has}
use Rattle.component_reader.specs.declared.among.AmongError.{AmongError}
use Rattle.component_reader.specs.declared.among.AmongError.TheVariants as error

-- whether an edge is active and leads from one of the first supervoxels, as its lesser end, to one of the others
unfoldable pub leads : List ℕ → List ℕ → Edge → Bool
leads from to e = (e.active && has from e.pair.a) && has to e.pair.b

-- the active edges both of whose ends are among these supervoxels, in the order of the edges
unfoldable pub active_among : List Edge → List ℕ → List Edge
active_among edges vs = filter (leads vs vs) edges

-- there are so many edges, more than were allowed
abbrev pub IsLarge : ℕ → ℕ → AmongError → Type 0
IsLarge count most (error.TooMany edges) = (edges ≡ count) × (most < edges)
IsLarge count most error.NoMemory = Unit {0}
