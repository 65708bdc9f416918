-- Inner: no clause of `run` is made of it.
-- The chunks that the nodes of layers lie in, and the nodes with the places of their chunks.
use Rattle.std.specs.Prelude.{ℕ, ◌+◌, ◌-◌, ◌==◌, if◌then◌else◌, List, [], ◌∷◌, ◌++◌, length, map}
use Rattle.std.specs.List.{flat_map}
use Rattle.base_rows.specs.declared.lists.BaseNode.{BaseNode}
use Rattle.layer_laws.specs.Building.{at}
use Rattle.octree_layers.specs.declared.numbering.Made.{Made}
use Rattle.octree_layers.specs.declared.layers.Layer.{Layer}

-- the numbers that differ from the one before them, behind a last one
unfoldable pub fresh : ℕ → List ℕ → List ℕ
fresh last [] = []
fresh last (c ∷ cs) = if c == last then fresh c cs else c ∷ fresh c cs

-- how many of them there are up to this one
abbrev pub count_behind : ℕ → ℕ → ℕ → ℕ
count_behind last count c = if c == last then count else count + 1

-- the chunks of nodes, which stand by them, behind the last one
abbrev pub chunks_behind : ℕ → List Made → List ℕ
chunks_behind last ms = fresh last (map (λ m. m.chunk) ms)

-- the chunks of the nodes of all these layers
abbrev pub all_chunks : List Layer → List ℕ
all_chunks ls = flat_map (λ l. chunks_behind 0 l.made.items) ls

-- a node of the last of so many chunks
abbrev pub base_node : List ℕ → ℕ → Made → BaseNode
base_node ids count m = record { id = m.id; least = at ids m.least; chunk = count - 1 }

-- nodes, which stand by their chunks, behind so many chunks up to the last one
unfoldable pub nodes_behind : List ℕ → ℕ → ℕ → List Made → List BaseNode
nodes_behind ids last count [] = []
nodes_behind ids last count (m ∷ ms) =
    base_node ids (count_behind last count m.chunk) m ∷ nodes_behind ids m.chunk (count_behind last count m.chunk) ms

-- the nodes of all these layers, behind so many chunks of those below
unfoldable pub all_behind : List ℕ → ℕ → List Layer → List BaseNode
all_behind ids count [] = []
all_behind ids count (l ∷ ls) = nodes_behind ids 0 count l.made.items ++ all_behind ids (count + length (chunks_behind 0 l.made.items)) ls
