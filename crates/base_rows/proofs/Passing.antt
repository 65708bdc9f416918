-- Which records pass a test, by their kinds.
use Rattle.std.proofs.Common.{◌≡◌, ℕ, zero, suc, arith, ◌+◌, ◌<◌, Bool, true, false, ◌||◌, List, [], ◌∷◌, ◌++◌, length, map, take, take_all, get_or, ◌≤◌, refl, sym, ◌∙◌, ap}
use Rattle.std.specs.List.{list_any}
use Rattle.std.proofs.lemmas.List.{take_more, map-append}
use Rattle.op_model.specs.declared.base.Dataset.{Dataset}
use Rattle.record_rows.specs.Rows.{Row, HeaderRow, SupervoxelRow, ChunkRow}
use Rattle.record_rows.specs.Chains.{edge_at, version_of, child_of, node_in}
use Rattle.row_append.specs.Ends.{Chain, EdgesOf, VersionsOf, ChildrenOf, NodesIn, belongs, HasNone, IsHeaded}

-- none of these records passes the test
abbrev pub NonePass : (Row → Bool) → List Row → Type 0
NonePass test rows = list_any test rows ≡ false

pub none_both : (test : Row → Bool) (xs ys : List Row) → NonePass test xs → NonePass test ys → NonePass test (xs ++ ys)
none_both test [] ys f g = g
none_both test (x ∷ xs) ys f g = go (test x) f (λ e. none_both test xs ys e g)
  where
    go : (b : Bool) → (b || list_any test xs) ≡ false → (list_any test xs ≡ false → list_any test (xs ++ ys) ≡ false) → (b || list_any test (xs ++ ys)) ≡ false
    go true e h = e
    go false e h = h e

pub none_map : {X : Type 0} (test : Row → Bool) (f : X → Row) → ((x : X) → test (f x) ≡ false) → (xs : List X) → NonePass test (map f xs)
none_map test f h [] = refl
none_map test f h (x ∷ xs) = rw (h x) (none_map test f h xs)

-- one more of a list
pub map_more : {X Y : Type 0} (f : X → Y) (xs : List X) (k : ℕ) (x : X) → k < length xs → x ≡ get_or xs k x → map f (take (k + 1) xs) ≡ map f (take k xs) ++ f x ∷ []
map_more f xs k x l e = ap (map f) (take_more xs k x l) ∙ (map-append f (take k xs) (get_or xs k x ∷ []) ∙ ap (λ y. map f (take k xs) ++ f y ∷ []) (sym e))

-- headers, supervoxels and chunks are members of no chain
pub header_in_none : (chain : Chain) (d : Dataset) (s c : ℕ) → belongs chain (HeaderRow d s c) ≡ false
unfolding belongs edge_at version_of child_of node_in
header_in_none (EdgesOf u) d s c = refl
header_in_none (VersionsOf id) d s c = refl
header_in_none (ChildrenOf id) d s c = refl
header_in_none (NodesIn k) d s c = refl

pub supervoxel_in_none : (chain : Chain) (v : ℕ) → belongs chain (SupervoxelRow v) ≡ false
unfolding belongs edge_at version_of child_of node_in
supervoxel_in_none (EdgesOf u) v = refl
supervoxel_in_none (VersionsOf id) v = refl
supervoxel_in_none (ChildrenOf id) v = refl
supervoxel_in_none (NodesIn k) v = refl

pub chunk_in_none : (chain : Chain) (k : ℕ) → belongs chain (ChunkRow k) ≡ false
unfolding belongs edge_at version_of child_of node_in
chunk_in_none (EdgesOf u) k = refl
chunk_in_none (VersionsOf id) k = refl
chunk_in_none (ChildrenOf id) k = refl
chunk_in_none (NodesIn c) k = refl

module _ (d : Dataset) (s c : ℕ) (chain : Chain) where
  pub no_members : (ids : List ℕ) → HasNone chain (HeaderRow d s c ∷ map SupervoxelRow ids)
  no_members ids = rw (header_in_none chain d s c) (none_map (belongs chain) SupervoxelRow (supervoxel_in_none chain) ids)

  pub no_members_yet : (ids chunks : List ℕ) → HasNone chain (HeaderRow d s c ∷ map SupervoxelRow ids ++ map ChunkRow chunks)
  no_members_yet ids chunks =
      none_both (belongs chain) (HeaderRow d s c ∷ map SupervoxelRow ids) (map ChunkRow chunks) (no_members ids) (none_map (belongs chain) ChunkRow (chunk_in_none chain) chunks)

pub headed : (d : Dataset) (s c : ℕ) (rest : List Row) → IsHeaded (HeaderRow d s c ∷ rest)
headed d s c rest = record { dataset = d; supervoxels = s; chunks = c; rest = rest; begins = refl }

-- all of a list
pub take_whole : {X : Type 0} (xs : List X) (k : ℕ) → length xs ≤ k → take k xs ≡ xs
take_whole xs k l = take_all k xs l

-- the item at a place, whatever stands for none
pub get_or_any : {X : Type 0} (xs : List X) (i : ℕ) (x y : X) → i < length xs → get_or xs i x ≡ get_or xs i y
get_or_any [] i x y l = absurd (omega arith)
get_or_any (z ∷ xs) zero x y l = refl
get_or_any (z ∷ xs) (suc i) x y l = get_or_any xs i x y (omega arith)
