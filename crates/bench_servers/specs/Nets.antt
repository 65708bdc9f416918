-- Inner: no clause of `run` is made of it.
-- Nets and marks of which a least cut may be asked.
use Rattle.std.specs.Prelude.{◌≡◌, ℕ, ◌<◌, ◌≤◌, List, length, true, false}
use Rattle.std.specs.List.{All}
use Rattle.graph_model.specs.Lists.{has}
use Rattle.flow_net.specs.Net.{NetView}

-- few links, and marks on both sides that are vertices, none on both
pub record IsAsked (net : NetView) (from to : List ℕ) : Type 0 where
  pub few : length net.links ≤ 500000
  pub sources : All (λ s. s < net.size) from
  pub sinks : All (λ t. t < net.size) to
  pub some : 0 < length from
  pub others : 0 < length to
  pub sides : (v : ℕ) → has from v ≡ true → has to v ≡ false
