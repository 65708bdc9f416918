-- Inner: no clause of `run` is made of it.
-- A flow and what it has sent.
use Rattle.std.specs.Prelude.{◌≡◌, ℕ, ◌+◌, ◌<◌, Bool, true, false, List, ℤ}
use Rattle.graph_model.specs.Wires.{Wire}
use Rattle.graph_model.specs.Lists.{has}
use Rattle.graph_model.specs.Cuts.{Separates, is_affinity}
use Rattle.graph_model.specs.Flows.{leaving, entering, into, out_of}
use Rattle.min_cut.specs.Tree.{AllFit}

-- no mark is on both sides, and no walk of glue joins a source to a sink
pub record Apart (ws : List Wire) (sources : List ℕ) (sink : ℕ → Bool) : Type 0 where
  pub sinks : List ℕ
  pub marks : (v : ℕ) → sink v ≡ has sinks v
  pub sides : (v : ℕ) → has sources v ≡ true → sink v ≡ false
  pub separable : Separates ws sources sinks (is_affinity ws)

-- amounts that fit and balance, of that value
pub record Flowing (n : ℕ) (ws : List Wire) (sources : List ℕ) (sink : ℕ → Bool) (fs : List ℤ) (sent : ℕ) : Type 0 where
  pub fit : AllFit ws fs sent
  pub balanced : (v : ℕ) → v < n → has sources v ≡ false → sink v ≡ false → into ws fs v ≡ out_of ws fs v
  pub value : leaving ws fs (has sources) ≡ entering ws fs (has sources) + sent
