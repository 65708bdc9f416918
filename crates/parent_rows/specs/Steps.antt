-- Inner: no clause of `run` is made of it.
-- What a walk along a chain looks for, and where it may start.
use Rattle.std.specs.Prelude.{◌≡◌, ℕ, ◌+◌, ◌*◌, ◌%◌, ◌^◌, ◌<◌, ◌≤◌, ◌⊎◌, Bool, true, false, ◌&&◌, ◌==◌, nat_lt, List, slice_index, Option, Some}
use Rattle.std.specs.List.{slice_get}
use Rattle.record_rows.specs.Rows.{Row, NodeRow, LinkRow, Node}
use Rattle.record_rows.specs.Chains.{node_in, is_node}
use Rattle.record_rows.specs.Readings.{first_place}

-- a link of this child by an entry below this one
unfoldable pub is_version : ℕ → ℕ → Row → Bool
is_version id below (LinkRow l) = l.child == id && nat_lt l.entry below
is_version id below row = false

-- the words of the record at this place are those of such a link
abbrev pub IsLinkOf : List ℕ → ℕ → ℕ → ℕ → Type 0
IsLinkOf words place id below = (slice_index words (8 * place) % 2 ^ 8 ≡ 5) × (slice_index words (8 * place + 1) ≡ id) × (slice_index words (8 * place + 3) < below)

-- the node of this id, if it is of this chunk
unfoldable pub is_node_of : ℕ → ℕ → Row → Bool
is_node_of chunk id row = node_in chunk row && is_node id row

-- the first record of the chain, or a later one that passes the test
abbrev pub MayStart : (Row → Bool) → (Row → Bool) → List Row → Option ℕ → Type 0
MayStart chain test rows at = (at ≡ first_place chain rows) ⊎ ((p : ℕ) × (at ≡ Some p) × (row : Row) × (slice_get rows p ≡ Some row) × (test row ≡ true))

-- the first node of the chunk, or one whose id is at most this one
abbrev pub IsNear : List Row → ℕ → ℕ → Option ℕ → Type 0
IsNear rows c id at = (at ≡ first_place (node_in c) rows) ⊎ ((p : ℕ) × (at ≡ Some p) × (m : Node) × (slice_get rows p ≡ Some (NodeRow m)) × (m.chunk ≡ c) × (m.id ≤ id))
