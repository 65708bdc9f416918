-- Inner: no clause of `run` is made of it.
-- Chains that grow as records are appended, and the pointer where each one ends.
use Rattle.std.specs.Prelude.{◌≡◌, ℕ, ◌+◌, ◌*◌, ◌<◌, Bool, true, false, ◌||◌, List, [], ◌∷◌, get_or, Option, Some, None, slice_index, IsFalse}
use Rattle.std.specs.List.{slice_get, list_any}
use Rattle.op_model.specs.declared.base.Dataset.{Dataset}
use Rattle.record_rows.specs.Rows.{Row, HeaderRow, SupervoxelRow, ChunkRow, NodeRow, LinkRow, EdgeRow, ChangeRow, ItemRow, EntryRow}
use Rattle.record_rows.specs.Chains.{edge_at, version_of, child_of, node_in, is_node, has_id}
use Rattle.record_rows.specs.Words.{words_of}
use Rattle.record_rows.specs.Walks.{is_supervoxel, is_chunk}

-- the edges of a supervoxel, the links of a child, the links to a parent, the nodes of a chunk
pub data Chain : Type 0 where
  EdgesOf : ℕ → Chain
  VersionsOf : ℕ → Chain
  ChildrenOf : ℕ → Chain
  NodesIn : ℕ → Chain

-- whether the record is a member of the chain
unfoldable pub belongs : Chain → Row → Bool
belongs (EdgesOf v) row = edge_at v row
belongs (VersionsOf id) row = version_of id row
belongs (ChildrenOf id) row = child_of id row
belongs (NodesIn chunk) row = node_in chunk row

-- whether the record is the chain's owner, which has a pointer to the first member
unfoldable pub owns : Chain → Row → Bool
owns (EdgesOf v) row = is_supervoxel v row
owns (VersionsOf id) row = has_id id row
owns (ChildrenOf id) row = is_node id row
owns (NodesIn chunk) row = is_chunk chunk row

-- whether the record is the chain's owner or one of its members
unfoldable pub has_part : Chain → Row → Bool
has_part chain row = owns chain row || belongs chain row

-- no record is a member of the chain
abbrev pub HasNone : Chain → List Row → Type 0
HasNone chain rows = IsFalse (list_any (belongs chain) rows)

-- neither the chain's owner stands among the records nor a member
abbrev pub IsFree : Chain → List Row → Type 0
IsFree chain rows = IsFalse (list_any (has_part chain) rows)

-- along which of these chains the four pointers of a record lead, from the owner to the first member, or from a member to the next
unfoldable pub along : Row → List (Option Chain)
along (SupervoxelRow v) = Some (EdgesOf v) ∷ Some (VersionsOf v) ∷ None ∷ None ∷ []
along (ChunkRow c) = Some (NodesIn c) ∷ None ∷ None ∷ None ∷ []
along (NodeRow n) = Some (ChildrenOf n.id) ∷ Some (VersionsOf n.id) ∷ None ∷ Some (NodesIn n.chunk) ∷ []
along (LinkRow l) = None ∷ Some (ChildrenOf l.parent) ∷ Some (VersionsOf l.child) ∷ None ∷ []
along (EdgeRow made e) = None ∷ Some (EdgesOf e.pair.a) ∷ Some (EdgesOf e.pair.b) ∷ None ∷ []
along row = None ∷ None ∷ None ∷ None ∷ []

-- the word of this number is a pointer along the chain: the k-th, from 0, of the record at a place
pub record IsAlong (chain : Chain) (rows : List Row) (word : ℕ) : Type 0 where
  pub place : ℕ
  pub k : ℕ
  pub row : Row
  pub there : slice_get rows place ≡ Some row
  pub pointer : k < 4
  pub leads : get_or (along row) k None ≡ Some chain
  pub number : word ≡ 8 * place + (4 + k)

-- the word of this number is the one empty pointer along the chain: its owner's where the chain has no member, else its last member's
pub record EndsAt (chain : Chain) (rows : List Row) (word : ℕ) : Type 0 where
  pub along : IsAlong chain rows word
  pub empty : slice_index (words_of rows) word ≡ 0
  pub only : (other : ℕ) → IsAlong chain rows other → slice_index (words_of rows) other ≡ 0 → other ≡ word

-- the records begin with a header
pub record IsHeaded (rows : List Row) : Type 0 where
  pub dataset : Dataset
  pub supervoxels : ℕ
  pub chunks : ℕ
  pub rest : List Row
  pub begins : rows ≡ HeaderRow dataset supervoxels chunks ∷ rest

-- a change, an item or an entry: what no log has before its first entry's own record
unfoldable pub is_logged : Row → Bool
is_logged (ChangeRow entry c) = true
is_logged (ItemRow i) = true
is_logged (EntryRow e) = true
is_logged row = false
