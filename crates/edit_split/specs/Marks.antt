-- Inner: no clause of `run` is made of it.
-- Splits, and what their marks are refused for.
use Rattle.std.specs.Prelude.{◌≡◌, ℕ, false, not, ◌||◌, ◌==◌, nat_lt, List, [], ◌∷◌, length, Option}
use Rattle.op_model.specs.declared.base.Dataset.{Dataset}
use Rattle.op_model.specs.declared.base.Base.{Base}
use Rattle.op_model.specs.declared.base.Pair.{Pair}
use Rattle.op_model.specs.declared.entry.Changed.{Changed}
use Rattle.op_model.specs.declared.request.Edit.{Edit}
use Rattle.op_model.specs.declared.request.Edit.TheVariants.{Split}
use Rattle.op_model.specs.declared.entry.Entry.{Entry}
use Rattle.op_model.specs.declared.reply.Refusal.{Refusal}
use Rattle.op_model.specs.declared.reply.Refusal.TheVariants.{NoMarks, TooManyMarks, BothSides, DifferentRoots}
use Rattle.graph_model.specs.Lists.{has}
use Rattle.op_model.specs.Labels.{root}
use Rattle.op_model.specs.Refusals.{first_of, refuse_first, refuse_if}

-- the edit is a split
abbrev pub IsSplit : Edit → Type 0
IsSplit edit = (sources : List ℕ) × (sinks : List ℕ) × (edit ≡ Split sources sinks)

-- what lists of marks are refused for, whatever supervoxels they name
unfoldable pub refuse_lists : List ℕ → List ℕ → Option Refusal
refuse_lists sources sinks =
    first_of (refuse_if (length sources == 0 || length sinks == 0) NoMarks
    ∷ refuse_if (nat_lt 64 (length sources)) (TooManyMarks (length sources))
    ∷ refuse_if (nat_lt 64 (length sinks)) (TooManyMarks (length sinks))
    ∷ refuse_first BothSides (λ v. has sinks v) sources ∷ [])

-- the refusal of the first of these marks that doesn't lie in this root
unfoldable pub refuse_other : Dataset → Base → List Entry → ℕ → List ℕ → Option Refusal
refuse_other d b log first marks = refuse_first (λ v. DifferentRoots first (root d b log v)) (λ v. not (root d b log v == first)) marks

-- a pair that is inactive from now on
unfoldable pub off : Pair → Changed
off p = record { pair = p; active = false }
