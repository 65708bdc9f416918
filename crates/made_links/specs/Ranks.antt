-- Inner: no clause of `run` is made of it.
-- Where the places of a list stand in it.
use Rattle.std.specs.Prelude.{◌≡◌, ℕ, ◌-◌, ◌≤◌, ◌<◌, IsTrue, List, length}
use Rattle.graph_model.specs.Lists.{has}
use Rattle.layer_laws.specs.Building.{at}

-- for each of so many places where it stands in the list, counted from 1, and 0 for one that isn't in it
pub record AreRanks (places : ℕ) (leasts ranks : List ℕ) : Type 0 where
  pub count : length ranks ≡ places
  pub there : (i : ℕ) → IsTrue (has leasts i) → (0 < at ranks i) × (at ranks i ≤ length leasts) × (at leasts (at ranks i - 1) ≡ i)
  pub only : (i : ℕ) → i < places → 0 < at ranks i → IsTrue (has leasts i)
