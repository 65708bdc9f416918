-- Inner: no clause of `run` is made of it.
-- Where chains end in records that stand already, as walks along them tell.
use Rattle.std.specs.Prelude.{◌≡◌, ℕ, ◌+◌, ◌*◌, ◌<◌, ◌≤◌, true, List, [], ◌∷◌, ◌++◌, get_or, Some, None, IsFalse}
use Rattle.std.specs.List.{slice_get, list_any}
use Rattle.op_model.specs.declared.base.Pair.{Pair}
use Rattle.op_model.specs.declared.base.Edge.{Edge}
use Rattle.op_model.specs.declared.entry.Changed.{Changed}
use Rattle.record_rows.specs.Rows.{Row, EdgeRow, ChangeRow}
use Rattle.record_rows.specs.Chains.{is_edge, change_of}
use Rattle.grown_rows.specs.Aimed.{ChangesEndAt}
use Rattle.row_append.specs.Ends.{Chain, owns, belongs, HasNone, along, EndsAt, IsHeaded}

-- the k-th pointer of the record, and no other of its pointers, leads along the chain
abbrev pub IsTheOne : Chain → Row → ℕ → Type 0
IsTheOne chain row k = (k < 4) × (get_or (along row) k None ≡ Some chain) × ((j : ℕ) → get_or (along row) j None ≡ Some chain → j ≡ k)

-- a chain ends at its last member's next pointer
abbrev pub LastMembersEnd : Type 0
LastMembersEnd =
    (rows : List Row) (chain : Chain) (place k : ℕ) (row : Row) → IsHeaded rows → slice_get rows place ≡ Some row → belongs chain row ≡ true → IsTheOne chain row k
    → ((q : ℕ) (other : Row) → slice_get rows q ≡ Some other → belongs chain other ≡ true → q ≤ place)
    → EndsAt chain rows (8 * place + (4 + k))

-- or at its owner's first pointer, where it has no member
abbrev pub OwnersEnd : Type 0
OwnersEnd =
    (rows : List Row) (chain : Chain) (place k : ℕ) (row : Row) → IsHeaded rows → slice_get rows place ≡ Some row → owns chain row ≡ true → IsTheOne chain row k → HasNone chain rows
    → ((q : ℕ) (other : Row) → slice_get rows q ≡ Some other → owns chain other ≡ true → q ≡ place)
    → EndsAt chain rows (8 * place + (4 + k))

-- The changes of a pair end at the last one,
abbrev pub LastChangesEnd : Type 0
LastChangesEnd =
    (rows : List Row) (place entry : ℕ) (c : Changed) → IsHeaded rows → slice_get rows place ≡ Some (ChangeRow entry c)
    → ((q : ℕ) (other : Row) → slice_get rows q ≡ Some other → change_of c.pair other ≡ true → q ≤ place)
    → ChangesEndAt c.pair rows (8 * place + 5)

-- or at the edge, where there is none;
abbrev pub EdgesWithoutEnd : Type 0
EdgesWithoutEnd =
    (rows : List Row) (place made : ℕ) (e : Edge) → IsHeaded rows → slice_get rows place ≡ Some (EdgeRow made e) → IsFalse (list_any (change_of e.pair) rows)
    → ((q : ℕ) (other : Row) → slice_get rows q ≡ Some other → is_edge e.pair other ≡ true → q ≡ place)
    → ChangesEndAt e.pair rows (8 * place + 4)

-- and a record that is neither an edge nor a change of the pair leaves that as it is.
abbrev pub ChangesStay : Type 0
ChangesStay =
    (rows : List Row) (row : Row) (p : Pair) (word : ℕ) → IsHeaded rows → ChangesEndAt p rows word → IsFalse (is_edge p row) → IsFalse (change_of p row) → ChangesEndAt p (rows ++ row ∷ []) word
