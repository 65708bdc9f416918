-- Inner: no clause of `run` is made of it.
-- Masks of locks.
use Rattle.std.specs.Prelude.{◌≡◌, ℕ, ◌/◌, ◌%◌, ◌^◌, Bool, ◌==◌, List, map}
use Rattle.node_ids.specs.Ids.{LayoutForm}
use Rattle.graph_model.specs.Lists.{has}
use Rattle.op_model.specs.Locks.{lock_of}

-- whether the mask has the lock of this number
unfoldable pub has_bit : ℕ → ℕ → Bool
has_bit mask l = (mask / 2 ^ l) % 2 == 1

-- the mask has the locks of these roots, and no other
abbrev pub HasLocks : LayoutForm → List ℕ → ℕ → Type 0
HasLocks layout roots mask = (l : ℕ) → has_bit mask l ≡ has (map (lock_of layout) roots) l
