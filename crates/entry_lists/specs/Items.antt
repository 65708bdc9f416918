-- Inner: no clause of `run` is made of it.
-- The ids of a request as items.
use Rattle.std.specs.Prelude.{ℕ, List, [], ◌∷◌}
use Rattle.op_model.specs.declared.request.AskedPair.{AskedPair}
use Rattle.entry_rows.specs.declared.items.EntryItem.{EntryItem}

-- the ends of a pair
unfoldable pub pair_items : AskedPair → List EntryItem
pair_items p = record { id = p.a; side = 1 } ∷ record { id = p.b; side = 2 } ∷ []

-- an id of one side
abbrev pub side_item : ℕ → ℕ → EntryItem
side_item side v = record { id = v; side = side }
