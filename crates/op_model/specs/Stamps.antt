-- The timestamps of entries.
use Rattle.std.specs.Prelude.{ℕ, ◌+◌, ◌-◌, ◌^◌, min, max, List}
use Rattle.op_model.specs.declared.entry.Entry.{Entry}
use Rattle.op_model.specs.Refusals.{last_at}

-- the timestamp of the next entry, where the clock answers this: no timestamp is above 2^62 - 1, and each is above the last one
unfoldable pub stamp : List Entry → ℕ → ℕ
stamp log clock = max (min clock (2 ^ 62 - 1)) (last_at log + 1)
