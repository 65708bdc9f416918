-- The texts of what is made: two tables, and a request stream for each client.
use Rattle.std.specs.Prelude.{ℕ, zero, suc, ◌+◌, ◌%◌, nat_lt, ◌==◌, if◌then◌else◌, List, [], ◌∷◌, ◌++◌, length, map, codes, decimal}
use Rattle.made_input.specs.Draws.{next, shown}
use Rattle.made_input.specs.Edges.{chunks, edges_below, supervoxel}
use Rattle.made_input.specs.declared.edges.MadeEdge.{MadeEdge}
use Rattle.made_input.specs.Rows.{table_text}
use Rattle.made_input.specs.declared.streams.MadeInput.{MadeInput}
use Rattle.made_input.specs.declared.wish.Wish.{Wish}

abbrev pub Text : Type 0
Text = List ℕ

-- the digits of a supervoxel's id
abbrev pub id_text : Wish → ℕ → Text
id_text w k = decimal (supervoxel w k)

-- the numbers below k, ascending
unfoldable pub numbers_below : ℕ → List ℕ
numbers_below zero = []
numbers_below (suc k) = numbers_below k ++ k ∷ []

-- the header and the records of the supervoxel table
unfoldable pub supervoxel_rows : Wish → List (List Text)
supervoxel_rows w = (codes "supervoxel" ∷ []) ∷ map (λ k. id_text w k ∷ []) (numbers_below w.size)

-- the fields of an edge's record
unfoldable pub edge_fields : Wish → MadeEdge → List Text
edge_fields w e = id_text w e.a ∷ id_text w e.b ∷ decimal e.affinity ∷ (if e.active then codes "1" else codes "0") ∷ []

-- the header of the edge table
abbrev pub edge_header : List Text
edge_header = codes "a" ∷ codes "b" ∷ codes "affinity" ∷ codes "active" ∷ []

-- the header and the records of the edge table
unfoldable pub edge_rows : Wish → List (List Text)
edge_rows w = edge_header ∷ map (edge_fields w) (edges_below w w.size).0

-- the request for the root of a supervoxel
abbrev pub root_line : Wish → ℕ → Text
root_line w u = codes "{\"do\":\"root\",\"sv\":\"" ++ (id_text w u ++ codes "\"}\n")

-- the request for its path
abbrev pub path_line : Wish → ℕ → Text
path_line w u = codes "{\"do\":\"path\",\"sv\":\"" ++ (id_text w u ++ codes "\"}\n")

-- a merge of two supervoxels
abbrev pub merge_line : Wish → ℕ → ℕ → Text
merge_line w u v = codes "{\"a\":\"" ++ (id_text w u ++ (codes "\",\"b\":\"" ++ (id_text w v ++ codes "\",\"do\":\"merge\"}\n")))

-- a split of a supervoxel from the next one in its chunk, or from one of the first where it is the last
abbrev pub split_line : Wish → ℕ → Text
split_line w u = codes "{\"do\":\"split\",\"sinks\":[\"" ++ (id_text w ((u + chunks w) % w.size) ++ (codes "\"],\"sources\":[\"" ++ (id_text w u ++ codes "\"]}\n")))

-- an undo of an operation
abbrev pub undo_line : ℕ → Text
undo_line op = codes "{\"do\":\"undo\",\"op\":" ++ (decimal op ++ codes "}\n")

-- line j by its kind, of which there are ten, and the state behind it
abbrev pub by_kind : Wish → ℕ → ℕ → ℕ → Text × ℕ
by_kind w j d s =
    if nat_lt d 4 then (root_line w (shown w.size (next s)), next s)
    else (if d == 4 then (path_line w (shown w.size (next s)), next s)
    else (if nat_lt d 8 then (merge_line w (shown w.size (next s)) (shown w.size (next (next s))), next (next s))
    else (if d == 8 then (split_line w (shown w.size (next s)), next s)
    else (undo_line (1 + shown (j + 1) (next s)), next s))))

-- line j of a stream, from 1 on, and the state behind it
unfoldable pub line_of : Wish → ℕ → ℕ → Text × ℕ
line_of w j s = by_kind w j (shown 10 (next s)) (next s)

-- the first j lines of a stream that begins at this state, and the state behind them
unfoldable pub stream_of : Wish → ℕ → ℕ → Text × ℕ
stream_of w s zero = ([], s)
stream_of w s (suc j) =
    let before = stream_of w s j in
    let line = line_of w (j + 1) before.1 in
    (before.0 ++ line.0, line.1)

-- the streams of the first clients, and the state behind them
unfoldable pub streams_of : Wish → ℕ → List Text × ℕ
streams_of w zero = ([], (edges_below w w.size).1)
streams_of w (suc i) =
    let before = streams_of w i in
    let stream = stream_of w before.1 w.requests in
    (before.0 ++ stream.0 ∷ [], stream.1)

-- all that is made
pub record Input : Type 0 where
  pub supervoxels : Text
  pub edges : Text
  pub streams : List Text
  pub edge_count : ℕ

unfoldable pub input_of : Wish → Input
input_of w = record {
  supervoxels = table_text (supervoxel_rows w);
  edges = table_text (edge_rows w);
  streams = (streams_of w w.clients).0;
  edge_count = length (edges_below w w.size).0;
}

-- what was made, as the definition has it
abbrev pub said : MadeInput → Input
said m = record { supervoxels = m.supervoxels.items; edges = m.edges.items; streams = map (λ v. v.items) m.streams.items; edge_count = m.edge_count }
