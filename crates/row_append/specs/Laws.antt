-- Inner: no clause of `run` is made of it.
-- Where chains end with one more record behind the others.
use Rattle.std.specs.Prelude.{◌≡◌, ℕ, Bool, ◌≢◌, ◌+◌, ◌*◌, ◌<◌, ◌≤◌, ◌⊎◌, List, [], ◌∷◌, ◌++◌, length, drop, Some, IsTrue, IsFalse}
use Rattle.std.specs.List.{slice_get, list_any}
use Rattle.op_model.specs.declared.base.Edge.{Edge}
use Rattle.record_rows.specs.Rows.{Row, SupervoxelRow, ChunkRow, NodeRow, LinkRow, EdgeRow, Node, Link}
use Rattle.record_rows.specs.Words.{place_from, words_of}
use Rattle.row_append.specs.Ends.{Chain, EdgesOf, VersionsOf, ChildrenOf, NodesIn, owns, belongs, has_part, HasNone, IsFree, EndsAt, IsHeaded}

-- the record that has the pointer where a chain ends: the owner of a chain that has no member, or the last member
abbrev pub IsLast : Chain → List Row → ℕ → Row → Type 0
IsLast chain rows place row = (IsTrue (owns chain row) × HasNone chain rows) ⊎ (IsTrue (belongs chain row) × HasNone chain (drop (place + 1) rows))

abbrev pub EndsAreLast : Type 0
EndsAreLast =
    (rows : List Row) (chain : Chain) (word : ℕ) → IsHeaded rows → EndsAt chain rows word
    → (place : ℕ) × (row : Row) × (slice_get rows place ≡ Some row) × (8 * place + 4 ≤ word) × (word < 8 * place + 8) × IsLast chain rows place row

-- the word where a chain ends is one of the words
abbrev pub EndsLie : Type 0
EndsLie = (rows : List Row) (chain : Chain) (word : ℕ) → EndsAt chain rows word → word < length (words_of rows)

-- a chain that has begun ends where it did, if the new record is no part of it
abbrev pub EndsStay : Type 0
EndsStay = (rows : List Row) (row : Row) (chain : Chain) (word : ℕ) → IsHeaded rows → EndsAt chain rows word → IsFalse (has_part chain row) → EndsAt chain (rows ++ row ∷ []) word

-- the first records of a chain that is free: its owner's first pointer is where it ends
abbrev pub SupervoxelsBegin : Type 0
SupervoxelsBegin =
    (rows : List Row) (v : ℕ) → IsHeaded rows
    → (IsFree (EdgesOf v) rows → EndsAt (EdgesOf v) (rows ++ SupervoxelRow v ∷ []) (8 * length rows + 4))
    × (IsFree (VersionsOf v) rows → EndsAt (VersionsOf v) (rows ++ SupervoxelRow v ∷ []) (8 * length rows + 5))

abbrev pub ChunksBegin : Type 0
ChunksBegin = (rows : List Row) (c : ℕ) → IsHeaded rows → IsFree (NodesIn c) rows → EndsAt (NodesIn c) (rows ++ ChunkRow c ∷ []) (8 * length rows + 4)

abbrev pub NodesBegin : Type 0
NodesBegin =
    (rows : List Row) (n : Node) → IsHeaded rows
    → (IsFree (ChildrenOf n.id) rows → EndsAt (ChildrenOf n.id) (rows ++ NodeRow n ∷ []) (8 * length rows + 4))
    × (IsFree (VersionsOf n.id) rows → EndsAt (VersionsOf n.id) (rows ++ NodeRow n ∷ []) (8 * length rows + 5))

-- a new member's next pointer is where its chain ends
abbrev pub EdgesEnd : Type 0
EdgesEnd =
    (rows : List Row) (made : ℕ) (e : Edge) → IsHeaded rows → e.pair.a ≢ e.pair.b
    → EndsAt (EdgesOf e.pair.a) (rows ++ EdgeRow made e ∷ []) (8 * length rows + 5) × EndsAt (EdgesOf e.pair.b) (rows ++ EdgeRow made e ∷ []) (8 * length rows + 6)

abbrev pub NodesEnd : Type 0
NodesEnd = (rows : List Row) (n : Node) → IsHeaded rows → EndsAt (NodesIn n.chunk) (rows ++ NodeRow n ∷ []) (8 * length rows + 7)

abbrev pub LinksEnd : Type 0
LinksEnd =
    (rows : List Row) (l : Link) → IsHeaded rows
    → EndsAt (ChildrenOf l.parent) (rows ++ LinkRow l ∷ []) (8 * length rows + 5) × EndsAt (VersionsOf l.child) (rows ++ LinkRow l ∷ []) (8 * length rows + 6)

-- a chain that is free stays so, if the new record is no part of it
abbrev pub FreeStays : Type 0
FreeStays = (rows : List Row) (row : Row) (chain : Chain) → IsFree chain rows → IsFalse (has_part chain row) → IsFree chain (rows ++ row ∷ [])

-- a chain that is free has no member
abbrev pub FreeHasNone : Type 0
FreeHasNone = (rows : List Row) (chain : Chain) → IsFree chain rows → HasNone chain rows

-- records that begin with a header still do
abbrev pub HeadersStay : Type 0
HeadersStay = (rows more : List Row) → IsHeaded rows → IsHeaded (rows ++ more)

-- the first record that a test passes is still the first with more behind
abbrev pub FoundStays : Type 0
FoundStays = (test : Row → Bool) (rows more : List Row) → 0 < place_from test 0 rows → place_from test 0 (rows ++ more) ≡ place_from test 0 rows

-- where no record passes a test, the next one that does is the first
abbrev pub FoundLast : Type 0
FoundLast = (test : Row → Bool) (rows : List Row) (row : Row) → IsFalse (list_any test rows) → IsTrue (test row) → place_from test 0 (rows ++ row ∷ []) ≡ length rows
