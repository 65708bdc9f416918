-- Inner: no clause of `run` is made of it.
-- What contracts see of a net, and what makes a list of links one.
use Rattle.std.specs.Prelude.{◌≡◌, ℕ, zero, suc, ◌<◌, Bool, cond, List, map, length, ◌≢◌, ◌⊎◌, is_some, slice_index}
use Rattle.std.specs.declared.option.Option.{Option}
use Rattle.std.specs.declared.option.Option.TheVariants.{None, Some}
use Rattle.flow_net.specs.declared.Link.{Link}
use Rattle.graph_model.specs.Wires.{Wire, wire}

-- a net: the number of its vertices, and its links
pub record NetView : Type 0 where
  pub size : ℕ
  pub links : List Link

-- a link as the definitions of graphs see it
abbrev pub wire_of : Link → Wire
wire_of l = record { a = l.a; b = l.b; room = l.room }

-- the links of a net, seen so
abbrev pub wires : NetView → List Wire
wires net = map wire_of net.links

-- the two join one pair of vertices
abbrev pub SamePair : Wire → Wire → Type 0
SamePair v w = ((v.a ≡ w.a) × (v.b ≡ w.b)) ⊎ ((v.a ≡ w.b) × (v.b ≡ w.a))

-- ends below the size, and different; no pair twice
pub record IsNet (net : NetView) : Type 0 where
  pub below : (k : ℕ) → k < length net.links → ((wire (wires net) k).a < net.size) × ((wire (wires net) k).b < net.size)
  pub apart : (k : ℕ) → k < length net.links → (wire (wires net) k).a ≢ (wire (wires net) k).b
  pub once : (j k : ℕ) → j < k → k < length net.links → SamePair (wire (wires net) j) (wire (wires net) k) → ⊥

-- the least number below m that passes
abbrev pub first_below : (ℕ → Bool) → ℕ → Option ℕ
first_below p zero = None
first_below p (suc m) = cond (is_some (first_below p m)) (first_below p m) (cond (p m) (Some m) None)

-- strictly ascending
abbrev pub IsAscending : List ℕ → Type 0
IsAscending xs = (j k : ℕ) → j < k → k < length xs → slice_index xs j < slice_index xs k
