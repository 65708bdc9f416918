-- Inner: no clause of `run` is made of it.
-- What holds of all that is made, and the first draw.
use Rattle.std.specs.Prelude.{◌≡◌}
use Rattle.made_input.specs.Draws.{next, shown}
use Rattle.made_input.specs.Edges.{IsWish}
use Rattle.made_input.specs.Rows.{Are, table_text}
use Rattle.made_input.specs.Texts.{edge_rows, supervoxel_rows}
use Rattle.made_input.specs.declared.wish.Wish.{Wish}

-- each table's text has the records that it was made of, as `csv` reads it
abbrev pub TablesHaveRows : Type 0
TablesHaveRows = (w : Wish) → IsWish w → Are (table_text (supervoxel_rows w)) (supervoxel_rows w) × Are (table_text (edge_rows w)) (edge_rows w)

-- the first state and draw from the number 1
abbrev pub FirstDraw : Type 0
FirstDraw = (next 1 ≡ 7806831264735756412) × (shown 100 (next 1) ≡ 74)
