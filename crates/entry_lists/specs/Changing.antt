-- Inner: no clause of `run` is made of it.
-- What holds while the changes of an entry are listed.
use Rattle.std.specs.Prelude.{◌≡◌, ℕ, ◌+◌, ◌<◌, ◌⊎◌, true, false, List, length, take, Some}
use Rattle.std.specs.List.{list_any, slice_get}
use Rattle.op_model.specs.declared.base.Dataset.{Dataset}
use Rattle.op_model.specs.declared.base.Base.{Base}
use Rattle.op_model.specs.declared.entry.Changed.{Changed}
use Rattle.op_model.specs.declared.entry.Entry.{Entry}
use Rattle.op_model.specs.Edges.{same_pair}
use Rattle.op_model.specs.Labels.{edges}
use Rattle.record_rows.specs.LogRows.{rows_of, unknown}
use Rattle.entry_rows.specs.declared.changes.EntryChange.{EntryChange}
use Rattle.entry_rows.specs.Changes.{IsAtChange}

-- a change of a pair that is an edge of the log, at its places there; or of another pair, whose edge is to stand at this place
abbrev pub IsChange : Dataset → Base → List Entry → ℕ → EntryChange → Type 0
IsChange d b log next x =
    ((list_any (λ f. same_pair f.pair x.changed.pair) (edges d b log) ≡ true) × (x.edge < length (rows_of d b log)) × IsAtChange (rows_of d b log) x)
    ⊎ ((list_any (λ f. same_pair f.pair x.changed.pair) (edges d b log) ≡ false) × (x.edge ≡ next) × (x.last ≡ record { spot = next; word = 4 }))

-- these are changes, and behind them this is the place of the next new edge
pub record AreChanging (d : Dataset) (b : Base) (log : List Entry) (cs : List Changed) (next : ℕ) (xs : List EntryChange) : Type 0 where
  pub place : next ≡ length (rows_of d b log) + length (unknown d b log cs)
  pub each : (i : ℕ) (x : EntryChange) → slice_get xs i ≡ Some x → IsChange d b log (length (rows_of d b log) + length (unknown d b log (take i cs))) x
