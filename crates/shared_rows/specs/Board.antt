-- Inner: no clause of `run` is made of it.
-- The words of the table, taken apart.
use Rattle.std.specs.Prelude.{ℕ, zero, suc, ◌+◌, Bool, true, false, ◌==◌, if◌then◌else◌, List, [], ◌∷◌, ◌++◌, Option, Some, None}
use Rattle.op_model.specs.declared.entry.Entry.{Entry}

-- the published tail, the number of the pass with the turn or 0, how many passes have a number, for each lock the number of the pass that holds it or 0, the words of the record rows; and beside them the log that these stand for
pub record Board : Type 0 where
  pub tail : ℕ
  pub turn : ℕ
  pub count : ℕ
  pub locks : List ℕ
  pub rows : List ℕ
  pub log : List Entry

abbrev pub words_of : Board → List ℕ
words_of b = b.tail ∷ b.turn ∷ b.count ∷ (b.locks ++ b.rows)

-- the last value that a draft stored at the row word k; a draft has its newest store first
abbrev pub stored_at : ℕ → List (ℕ × ℕ) → Option ℕ
stored_at k [] = None
stored_at k (x ∷ xs) = if k == x.0 then Some x.1 else stored_at k xs

-- the sum of f over a list
abbrev pub total : {A : Type 0} → (A → ℕ) → List A → ℕ
total f [] = 0
total f (x ∷ xs) = f x + total f xs

abbrev pub weight : Bool → ℕ
weight true = 1
weight false = 0

-- 1 for a number of a pass, 0 for none
abbrev pub once : ℕ → ℕ
once zero = 0
once (suc n) = 1
