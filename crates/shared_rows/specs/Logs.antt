-- Inner: no clause of `run` is made of it.
-- Logs that grow. A log has its newest entry first, so a log seen earlier is the end of it.
use Rattle.std.specs.Prelude.{◌≡◌, ◌==◌, ℕ, ◌≤◌, List, [], ◌∷◌, ◌++◌}
use Rattle.std.specs.List.{filter}
use Rattle.op_model.specs.declared.entry.Entry.{Entry}

-- the log before its newest entries is the one seen
pub record Extends (log seen : List Entry) : Type 0 where
  pub newer : List Entry
  pub is : log ≡ newer ++ seen

-- the entries of a client, newest first
abbrev pub entries_by : ℕ → List Entry → List Entry
entries_by n log = filter (λ e. e.client == n) log

-- each entry but the first one has a client, whose number is at most n
abbrev pub ClientsTo : ℕ → List Entry → Type 0
ClientsTo n [] = Unit {0}
ClientsTo n (e ∷ []) = Unit {0}
ClientsTo n (e ∷ f ∷ log) = (1 ≤ e.client) × (e.client ≤ n) × ClientsTo n (f ∷ log)
