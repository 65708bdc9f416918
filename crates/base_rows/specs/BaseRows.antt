-- Inner: no clause of `run` is made of it.
-- The records of a base and its first entry, by kinds, in the order of their places.
use Rattle.std.specs.Prelude.{ℕ, List, [], ◌∷◌, ◌++◌, length, map}
use Rattle.op_model.specs.declared.base.Dataset.{Dataset}
use Rattle.op_model.specs.declared.entry.Entry.{Entry}
use Rattle.record_rows.specs.Rows.{Row, HeaderRow, SupervoxelRow, ChunkRow, NodeRow, LinkRow, EdgeRow, EntryRow, Node}
use Rattle.base_rows.specs.declared.lists.BaseEdge.{BaseEdge}
use Rattle.base_rows.specs.declared.lists.BaseLink.{BaseLink}
use Rattle.base_rows.specs.Lists.{link_of}

-- the header, the supervoxels and the chunks
unfoldable pub owner_rows : Dataset → List ℕ → List ℕ → List Row
owner_rows d ids chunks = HeaderRow d (length ids) (length chunks) ∷ map SupervoxelRow ids ++ map ChunkRow chunks

-- with the edges behind them
unfoldable pub edged_rows : Dataset → List ℕ → List ℕ → List BaseEdge → List Row
edged_rows d ids chunks edges = owner_rows d ids chunks ++ map (λ x. EdgeRow 0 x.edge) edges

-- and the nodes
unfoldable pub noded_rows : Dataset → List ℕ → List ℕ → List BaseEdge → List Node → List Row
noded_rows d ids chunks edges nodes = edged_rows d ids chunks edges ++ map NodeRow nodes

-- the ids of nodes
abbrev pub ids_of : List Node → List ℕ
ids_of nodes = map (λ n. n.id) nodes

-- and the links
unfoldable pub linked_rows : Dataset → List ℕ → List ℕ → List BaseEdge → List Node → List BaseLink → List Row
linked_rows d ids chunks edges nodes links =
    noded_rows d ids chunks edges nodes ++ map (λ x. LinkRow (link_of (ids ++ ids_of nodes) (ids_of nodes) x)) links

-- and the first entry: all of them
unfoldable pub all_rows : Dataset → List ℕ → List ℕ → List BaseEdge → List Node → List BaseLink → Entry → List Row
all_rows d ids chunks edges nodes links e = linked_rows d ids chunks edges nodes links ++ EntryRow e ∷ []
