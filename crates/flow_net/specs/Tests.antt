-- Inner: no clause of `run` is made of it.
-- Tests of a list of links, of which `is_net` is made.
use Rattle.std.specs.Prelude.{ℕ, ◌-◌, Bool, not, ◌&&◌, ◌||◌, List, nat_eq, nat_lt, min, max}
use Rattle.graph_model.specs.Wires.{Wire, wire}
use Rattle.graph_model.specs.Cuts.{each_below}

-- the ends of link k are below n, and different
abbrev pub fits : ℕ → List Wire → ℕ → Bool
fits n ws k = (nat_lt (wire ws k).a n && nat_lt (wire ws k).b n) && not (nat_eq (wire ws k).a (wire ws k).b)

-- the pair of the first link, the lesser end first, is before that of the second
abbrev pub before : Wire → Wire → Bool
before v w = nat_lt (min v.a v.b) (min w.a w.b) || (nat_eq (min v.a v.b) (min w.a w.b) && nat_lt (max v.a v.b) (max w.a w.b))

-- the pair of link k is after that of the link before it, if there is one
abbrev pub follows : List Wire → ℕ → Bool
follows ws k = nat_eq k 0 || before (wire ws (k - 1)) (wire ws k)

-- the two links are between one pair of vertices
abbrev pub same_pair : Wire → Wire → Bool
same_pair v w = (nat_eq v.a w.a && nat_eq v.b w.b) || (nat_eq v.a w.b && nat_eq v.b w.a)

-- the pair of link k is that of no link before it
abbrev pub is_new : List Wire → ℕ → Bool
is_new ws k = each_below (λ j. not (same_pair (wire ws j) (wire ws k))) k
