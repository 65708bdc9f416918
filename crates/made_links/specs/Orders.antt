-- Inner: no clause of `run` is made of it.
-- Children in order, and their links.
use Rattle.std.specs.Prelude.{◌≡◌, ℕ, ◌-◌, ◌==◌, List, map}
use Rattle.std.specs.List.{filter}
use Rattle.std.specs.List.Sorted.{IsPermutation, IsNonDecreasingBy}
use Rattle.layer_laws.specs.Building.{at}
use Rattle.entry_parts.specs.declared.made.MadeLink.{MadeLink}
use Rattle.entry_parts.specs.declared.made.MadeNode.{MadeNode}
use Rattle.made_links.specs.declared.finding.Child.{Child}

-- the same children by an ascending key, those of one key as they stood
pub record AreSorted (key : Child → ℕ) (old new : List Child) : Type 0 where
  pub moved : IsPermutation old new
  pub same : (k : ℕ) → filter (λ c. key c == k) new ≡ filter (λ c. key c == k) old
  pub rising : IsNonDecreasingBy key new

-- the link of a child to its parent among these nodes
abbrev pub link_of : List MadeNode → Child → MadeLink
link_of nodes c = record { child = c.id; parent = at (map (λ m. m.id) nodes) (c.parent - 1); child_at = c.spot }
