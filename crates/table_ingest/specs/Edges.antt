-- What a record of the edge table means.
use Rattle.std.specs.Prelude.{ℕ, ◌^◌, Bool, true, false, not, ◌&&◌, ◌==◌, nat_le, nat_lt, if◌then◌else◌, List, length, Option, Some, None, option_and_then, Result, codes, bytes_eq}
use Rattle.std.specs.List.{list_any}
use Rattle.node_ids.specs.Digits.{number_of}
use Rattle.op_model.specs.Lists.{has}
use Rattle.op_model.specs.declared.base.Pair.{Pair}
use Rattle.op_model.specs.declared.base.Weight.{Weight}
use Rattle.op_model.specs.declared.base.Weight.TheVariants.{Affinity, Glue}
use Rattle.op_model.specs.declared.base.Edge.{Edge}
use Rattle.op_model.specs.Edges.{pair_of, same_pair}
use Rattle.table_ingest.specs.Records.{field}
use Rattle.table_ingest.specs.Faults.{Fault, ◌>>=◌, or_cause, only_if}
use Rattle.table_ingest.specs.Tables.{table_of}
use Rattle.table_ingest.specs.declared.errors.Table.TheVariants as tables
use Rattle.table_ingest.specs.declared.errors.Cause.{Cause}
use Rattle.table_ingest.specs.declared.errors.Cause.TheVariants as cause

-- the four fields `a`, `b`, `affinity` and `active`
unfoldable pub is_edge_header : List (List ℕ) → Bool
is_edge_header fields =
    length fields == 4 && bytes_eq (field fields 0) (codes "a") && bytes_eq (field fields 1) (codes "b")
    && bytes_eq (field fields 2) (codes "affinity") && bytes_eq (field fields 3) (codes "active")

-- an affinity from 1 to 4294967295, or the word for what is never cut
unfoldable pub weight_of : List ℕ → Option Weight
weight_of text =
    if bytes_eq text (codes "glue")
    then Some Glue
    else option_and_then (λ n. if nat_le 1 n && nat_lt n (2 ^ 32) then Some (Affinity n) else None) (number_of text)

-- the digit 1 where an edge is active, and 0 where it isn't
unfoldable pub state_of : List ℕ → Option Bool
state_of text = if bytes_eq text (codes "1") then Some true else (if bytes_eq text (codes "0") then Some false else None)

-- the pair of a record with four fields: two different ids of the supervoxel table, in either order
unfoldable pub pair_in : List ℕ → List (List ℕ) → Result Pair Cause
pair_in known fields = do
  four ← only_if (λ fs. length fs == 4) cause.FieldCount fields
  u ← or_cause cause.BadId (number_of (field four 0))
  v ← or_cause cause.BadId (number_of (field four 1))
  pair ← only_if (λ p. has known p.a && has known p.b) cause.UnknownEnd (pair_of u v)
  only_if (λ p. not (p.a == p.b)) cause.SelfEdge pair

-- an edge has this pair
abbrev pub has_pair : List Edge → Pair → Bool
has_pair edges p = list_any (λ e. same_pair e.pair p) edges

-- the two ends of an edge
abbrev pub ends : Edge → ℕ × ℕ
ends e = (e.pair.a, e.pair.b)

-- two edges have one pair
abbrev pub same_ends : Edge → Edge → Bool
same_ends e f = same_pair e.pair f.pair

-- the ends of a pair are among these
abbrev pub has_ends : List (ℕ × ℕ) → Pair → Bool
has_ends keys p = list_any (λ k. k.0 == p.a && k.1 == p.b) keys

-- glue is active
abbrev pub may_be : Weight → Bool → Bool
may_be (Affinity n) active = true
may_be Glue active = active

-- the edge that a record makes of its pair
unfoldable pub edge_with : List (List ℕ) → Pair → Result Edge Cause
edge_with fields p = do
  weight ← or_cause cause.BadAffinity (weight_of (field fields 2))
  active ← or_cause cause.BadActive (state_of (field fields 3))
  only_if (λ e. may_be e.weight e.active) cause.GlueInactive (record { pair = p; weight = weight; active = active })

-- the edge of a record between supervoxels with these ids, where those before it are these
unfoldable pub edge_of : List ℕ → List Edge → List (List ℕ) → Result Edge Cause
edge_of known before fields =
    pair_in known fields >>= only_if (λ p. not (has_pair before p)) cause.DoubleEdge >>= edge_with fields

-- the edges of an edge table in the order of its records, or the first record with a cause
unfoldable pub edges_of : List ℕ → List (List (List ℕ)) → Result (List Edge) Fault
edges_of known rows = table_of tables.Edges is_edge_header (edge_of known) rows
