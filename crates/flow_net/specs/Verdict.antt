-- Inner: no clause of `run` is made of it.
-- The answer of a check of a cut and a flow: the first fault, or Ok.
use Rattle.std.specs.Prelude.{◌≡◌, ℕ, Bool, false, cond, not, ◌&&◌, ◌||◌, List, length, ℤ, pos, nat_eq, nat_lt, is_none}
use Rattle.std.specs.declared.option.Option.{Option}
use Rattle.std.specs.declared.option.Option.TheVariants.{None, Some}
use Rattle.std.specs.declared.result.Result.{Result}
use Rattle.std.specs.declared.result.Result.TheVariants.{Ok, Err}
use Rattle.std.specs.Ordering.{int_eq}
use Rattle.flow_net.specs.declared.CutFault.{CutFault}
use Rattle.flow_net.specs.declared.CutFault.TheVariants.{CutsGlue, OverRoom, Unbalanced, Open, Unequal}
use Rattle.graph_model.specs.Wires.{Wire, wire}
use Rattle.graph_model.specs.Lists.{has}
use Rattle.graph_model.specs.Cuts.{Separates, weight, first_open}
use Rattle.graph_model.specs.Flows.{IsFlow, amount, forth, back, into, out_of, value}
use Rattle.flow_net.specs.Net.{NetView, wires, first_below}

-- link k is in the cut and is glue
abbrev pub cuts_glue : List Wire → List ℕ → ℕ → Bool
cuts_glue ws cut k = has cut k && is_none (wire ws k).room

-- an amount is over a room
abbrev pub over : Option ℕ → ℤ → Bool
over None z = false
over (Some r) z = nat_lt r (forth z) || nat_lt r (back z)

-- the amount of link k is over its room
abbrev pub over_room : List Wire → List ℤ → ℕ → Bool
over_room ws fs k = over (wire ws k).room (amount fs k)

-- v is no mark, and has not as much in as out
abbrev pub unbalanced : List Wire → List ℕ → List ℕ → List ℤ → ℕ → Bool
unbalanced ws sources sinks fs v =
    not (has sources v || has sinks v) && not (nat_eq (into ws fs v) (out_of ws fs v))

-- a fault, or what comes next
abbrev pub unless : {A : Type 0} → Option A → (A → CutFault) → Option CutFault → Option CutFault
unless None fault next = next
unless (Some a) fault next = Some (fault a)

-- a fault as the answer of a check
abbrev pub result_of : Option CutFault → Result (Unit {0}) CutFault
result_of None = Ok tt
result_of (Some fault) = Err fault

-- the fault of a value that isn't the cut's weight
abbrev pub sums_fault : List Wire → List ℕ → List ℕ → List ℤ → Option CutFault
sums_fault ws sources cut fs =
    cond (int_eq (value ws fs sources) (pos (weight ws (has cut)))) None (Some (Unequal (value ws fs sources) (weight ws (has cut))))

-- the first fault: glue that is cut, an amount over its room, a vertex that isn't balanced, a source that the cut
-- leaves joined to a sink, a value that isn't the cut's weight; the least link or vertex, the first source, its first sink
unfoldable pub first_fault : NetView → List ℕ → List ℕ → List ℕ → List ℤ → Option CutFault
first_fault net sources sinks cut fs =
    let ws = wires net in
    unless (first_below (cuts_glue ws cut) (length ws)) (λ k. CutsGlue k)
    (unless (first_below (over_room ws fs) (length ws)) (λ k. OverRoom k (amount fs k))
    (unless (first_below (unbalanced ws sources sinks fs) net.size) (λ v. Unbalanced v (pos (into ws fs v)) (pos (out_of ws fs v)))
    (unless (first_open ws (has cut) sources sinks) (λ m. Open m.0 m.1)
    (sums_fault ws sources cut fs))))

-- the cut separates; the flow keeps rooms, balances, and carries the cut's weight
pub record Accepts (net : NetView) (sources sinks cut : List ℕ) (fs : List ℤ) : Type 0 where
  pub separates : Separates (wires net) sources sinks (has cut)
  pub flow : IsFlow net.size (wires net) sources sinks fs
  pub equal : value (wires net) fs sources ≡ pos (weight (wires net) (has cut))
