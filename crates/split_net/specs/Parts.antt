-- Inner: no clause of `run` is made of it.
-- A component's leaves and active edges, its marks, and what a least cut of their net tells.
use Rattle.std.specs.Prelude.{◌≡◌, ℕ, ◌<◌, ◌^◌, List, [], ◌∷◌, map, length, get_or, IsTrue, Option, Some, None, Result, Ok, Err, ℤ}
use Rattle.std.specs.List.{AllByRecursion}
use Rattle.std.specs.Option.{option_map_or}
use Rattle.flow_net.specs.declared.Link.{Link}
use Rattle.min_cut.specs.declared.LeastCut.{LeastCut}
use Rattle.op_model.specs.declared.base.Edge.{Edge}
use Rattle.op_model.specs.declared.entry.Carry.{Carry}
use Rattle.op_model.specs.declared.entry.Shown.{Shown}
use Rattle.op_model.specs.declared.reply.Refusal.{Refusal}
use Rattle.op_model.specs.declared.reply.Refusal.TheVariants.{Glued, NoMemory}
use Rattle.graph_model.specs.Lists.{has}
use Rattle.graph_model.specs.Wires.{Wire}
use Rattle.graph_model.specs.Carries.{carry_of}
use Rattle.graph_model.specs.Cuts.{first_open, is_affinity}
use Rattle.op_model.specs.Cuts.{PairsAscend, links_of, pair_at, shown_flow}
use Rattle.op_model.specs.Valid.{IsAscending}

-- the supervoxel of a vertex, which is its place among the leaves
abbrev pub id_at : List ℕ → ℕ → ℕ
id_at leaves i = get_or leaves i 0

-- a link between places as one between the leaves that stand there
abbrev pub named : List ℕ → Link → Wire
named leaves l = record { a = id_at leaves l.a; b = id_at leaves l.b; room = l.room }

-- the ends of links are below n
abbrev pub AreBelow : ℕ → List Link → Type 0
AreBelow n links = AllByRecursion (λ l. (l.a < n) × (l.b < n)) links

-- leaves, ascending, and edges between different ones of them, ascending by pair
pub record IsPart (leaves : List ℕ) (part : List Edge) : Type 0 where
  pub rising : IsAscending leaves
  pub few : length leaves < 2 ^ 32
  pub ascending : PairsAscend (map (λ e. e.pair) part)
  pub lesser : AllByRecursion (λ e. e.pair.a < e.pair.b) part
  pub within : AllByRecursion (λ e. IsTrue (has leaves e.pair.a) × IsTrue (has leaves e.pair.b)) part

-- at least one mark, and all of them leaves
abbrev pub AreMarks : List ℕ → List ℕ → Type 0
AreMarks leaves marks = (0 < length marks) × AllByRecursion (λ v. IsTrue (has leaves v)) marks

-- the refusal of marks that a walk of glue joins
unfoldable pub glue_refusal : List Edge → List ℕ → List ℕ → Option Refusal
glue_refusal part sources sinks =
    option_map_or (λ m. Some (Glued m.0 m.1)) (first_open (links_of part) (is_affinity (links_of part)) sources sinks) None

-- an error is no memory, or that refusal
abbrev pub IsUnshown : List Edge → List ℕ → List ℕ → Result Shown Refusal → Type 0
IsUnshown part sources sinks (Ok s) = Unit {0}
IsUnshown part sources sinks (Err NoMemory) = Unit {0}
IsUnshown part sources sinks (Err r) = glue_refusal part sources sinks ≡ Some r

-- what the link of an edge carries, as a reply tells it
abbrev pub told_carries : Wire → ℤ → List Carry
told_carries w z = map (λ c. record { from = c.from; to = c.to; amount = c.amount }) (carry_of w z)

-- a carry, if there is one
abbrev pub told_carry : Option Carry → List Carry
told_carry None = []
told_carry (Some c) = c ∷ []

-- a least cut of the edges' net, with the pairs of the edges for their links
pub record IsTold (part : List Edge) (least : LeastCut) (s : Shown) : Type 0 where
  pub cut : s.cut ≡ map (pair_at part) least.cut.links.items
  pub total : s.total ≡ least.total
  pub flow : s.flow ≡ shown_flow part least.flow.amounts.items
