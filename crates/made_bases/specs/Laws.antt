-- What the made tables spell.
use Rattle.std.specs.Prelude.{◌≡◌, [], map, Ok}
use Rattle.made_input.specs.Edges.{IsWish, edges_below, supervoxel}
use Rattle.made_input.specs.Rows.{table_text}
use Rattle.op_model.specs.Edges.{pair_of, put_edges}
use Rattle.op_model.specs.Operations.{ascending}
use Rattle.op_model.specs.declared.base.Base.{Base}
use Rattle.table_ingest.specs.Bases.{Spells}
use Rattle.made_input.specs.Texts.{edge_rows, numbers_below, supervoxel_rows}
use Rattle.made_input.specs.declared.wish.Wish.{Wish}
use Rattle.made_input.specs.declared.edges.MadeEdge.{MadeEdge}
use Rattle.op_model.specs.declared.base.Dataset.{Dataset}
use Rattle.op_model.specs.declared.base.Edge.{Edge}
use Rattle.op_model.specs.declared.base.Weight.TheVariants.{Affinity}
use Rattle.table_ingest.specs.Supervoxels.{ids_of}

-- a made edge, between ids
abbrev pub as_edge : Wish → MadeEdge → Edge
as_edge w e = record { pair = pair_of (supervoxel w e.a) (supervoxel w e.b); weight = Affinity e.affinity; active = e.active }

-- the records of the made supervoxel table mean the supervoxels, in their order
abbrev pub SupervoxelsAreRead : Type 0
SupervoxelsAreRead = (w : Wish) (d : Dataset) → IsWish w → d.layout ≡ w.layout → d.grid ≡ w.grid
    → ids_of d (supervoxel_rows w) ≡ Ok (map (λ k. supervoxel w k) (numbers_below w.size))

-- the made base: its supervoxels and edges, ascending
abbrev pub base_made : Wish → Base
base_made w = record { supervoxels = ascending (map (λ k. supervoxel w k) (numbers_below w.size)); edges = put_edges (map (as_edge w) (edges_below w w.size).0) [] }

-- the made tables spell that base
abbrev pub TablesAreRead : Type 0
TablesAreRead = (w : Wish) (d : Dataset) → IsWish w → d.layout ≡ w.layout → d.grid ≡ w.grid → Spells d (table_text (supervoxel_rows w)) (table_text (edge_rows w)) (base_made w)
