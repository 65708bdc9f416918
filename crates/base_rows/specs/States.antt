-- Inner: no clause of `run` is made of it.
-- What holds while the records are put behind each other, and where their chains end.
use Rattle.std.specs.Prelude.{◌≡◌, ℕ, zero, suc, ◌+◌, ◌-◌, ◌<◌, nat_lt, if◌then◌else◌, ◌++◌, Bool, true, false, List, [], ◌∷◌, length, slice_index_or, IsFalse}
use Rattle.std.specs.List.{list_any}
use Rattle.record_rows.specs.Rows.{Row, LinkRow}
use Rattle.record_rows.specs.Chains.{has_id, is_node}
use Rattle.record_rows.specs.Words.{place_from, words_of}
use Rattle.row_append.specs.Ends.{Chain, EdgesOf, VersionsOf, ChildrenOf, NodesIn, EndsAt, IsHeaded, is_logged}
use Rattle.row_append.specs.Tails.{word_number}
use Rattle.row_append.specs.declared.tail.Tail.{Tail}
use Rattle.row_append.specs.declared.pushing.NewLink.{NewLink}
use Rattle.base_rows.specs.declared.lists.BaseLink.{BaseLink}
use Rattle.base_rows.specs.Lists.{at, IsOnce}

-- the pointers of this number of so many records, the first of them at this place
unfoldable pub tails_from : ℕ → ℕ → ℕ → List Tail
tails_from place word zero = []
tails_from place word (suc n) = record { spot = place; word = word } ∷ tails_from (place + 1) word n

-- the chain of each of these ids ends at the tail of the same place
pub record AreTails (chain : ℕ → Chain) (ids : List ℕ) (rows : List Row) (tails : List Tail) : Type 0 where
  pub count : length tails ≡ length ids
  pub each : (i : ℕ) (other : Tail) → i < length ids → EndsAt (chain (at ids i)) rows (word_number (slice_index_or tails i other))

-- whether the record is a link
unfoldable pub is_link : Row → Bool
is_link (LinkRow l) = true
is_link row = false

-- the words are those of records that begin with a header and have no part of an entry yet
pub record AreRows (rows : List Row) (words : List ℕ) : Type 0 where
  pub headed : IsHeaded rows
  pub stand : words ≡ words_of rows
  pub unlogged : IsFalse (list_any is_logged rows)

-- while edges come: where the edges of each supervoxel end
pub record Edging (ids : List ℕ) (rows : List Row) (words : List ℕ) (tails : List Tail) : Type 0 where
  pub rows_are : AreRows rows words
  pub once : IsOnce ids
  pub tails_are : AreTails EdgesOf ids rows tails

-- while nodes come: where the nodes of each chunk end
pub record Noding (chunks : List ℕ) (rows : List Row) (words : List ℕ) (tails : List Tail) : Type 0 where
  pub rows_are : AreRows rows words
  pub once : IsOnce chunks
  pub tails_are : AreTails NodesIn chunks rows tails
  pub unlinked : IsFalse (list_any is_link rows)

-- the place of the record of a supervoxel or a node, by its place among so many supervoxels and the nodes behind them, the first of which stands at this place
unfoldable pub owner_place : ℕ → ℕ → ℕ → ℕ
owner_place supervoxels first i = if nat_lt i supervoxels then 1 + i else first + (i - supervoxels)

-- while links come, from supervoxels and nodes to nodes, the first of which stands at this place: where the children of each node end, and the links of each supervoxel or node
pub record Linking (ids nodes : List ℕ) (first : ℕ) (rows : List Row) (words : List ℕ) (children versions : List Tail) : Type 0 where
  pub rows_are : AreRows rows words
  pub once : IsOnce (ids ++ nodes)
  pub children_are : AreTails ChildrenOf nodes rows children
  pub versions_are : AreTails VersionsOf (ids ++ nodes) rows versions
  pub owners_stand : (i : ℕ) → i < length (ids ++ nodes) → place_from (has_id (at (ids ++ nodes) i)) 0 rows ≡ owner_place (length ids) first i
  pub nodes_stand : (i : ℕ) → i < length nodes → place_from (is_node (at nodes i)) 0 rows ≡ first + i
  pub behind : 0 < first

-- this is the link of these places, with the places of its child's and its parent's records
pub record IsNewLink (ids nodes : List ℕ) (first : ℕ) (link : BaseLink) (new : NewLink) : Type 0 where
  pub child : new.child ≡ at (ids ++ nodes) link.child
  pub child_at : new.child_at ≡ owner_place (length ids) first link.child
  pub parent_at : new.parent_at ≡ first + link.parent
  pub entry : new.entry ≡ 0
