-- Where a chain ends: at its owner's first pointer or its last member's next one, as the empty pointer along it shows.
use Rattle.std.proofs.Common.{◌≡◌, ℕ, zero, suc, ◌+◌, ◌*◌, ◌<◌, ◌≤◌, Bool, true, false, cond, ◌||◌, eqb, List, [], ◌∷◌, length, drop, get_or, Option, Some, None, refl, sym, ◌∙◌, ap, subst, inl, inr, ◌⊎◌, arith}
use Rattle.std.specs.List.{list_any}
use Rattle.std.proofs.lemmas.Bool.{eq-eqb, or_left, or_right}
use Rattle.std.proofs.lemmas.Option.{slice_get_within}
use Rattle.op_model.specs.declared.base.Dataset.{Dataset}
use Rattle.record_rows.specs.Rows.{Row, HeaderRow, SupervoxelRow, ChunkRow, NodeRow, LinkRow, EdgeRow, ChangeRow, ItemRow, EntryRow}
use Rattle.record_rows.specs.Chains.{Aim, Nowhere, First, Next, aims, edge_at, version_of, child_of, node_in, is_node, has_id}
use Rattle.record_rows.specs.Walks.{is_supervoxel, is_chunk}
use Rattle.record_rows.specs.Words.{place_from, pointer_word, words_of}
use Rattle.record_rows.proofs.Lookups.{pointer_at}
use Rattle.record_rows.proofs.TellLemmas.{length-words_of}
use Rattle.row_append.specs.Ends.{Chain, EdgesOf, VersionsOf, ChildrenOf, NodesIn, belongs, owns, HasNone, along, IsAlong, IsHeaded}
use Rattle.row_append.specs.Laws.{IsLast, EndsAreLast, EndsLie}

-- a pointer along a chain is its owner's to the first member, or a member's to the next
abbrev Leads : Row → List (Option Chain) → List Aim → Type 0
Leads row [] [] = Unit {0}
Leads row (Some c ∷ cs) (aim ∷ aimed) = (((aim ≡ First (belongs c)) × (owns c row ≡ true)) ⊎ ((aim ≡ Next (belongs c)) × (belongs c row ≡ true))) × Leads row cs aimed
Leads row (None ∷ cs) (aim ∷ aimed) = Leads row cs aimed
Leads row cs aimed = ⊥

leads : (row : Row) → Leads row (along row) (aims row)
unfolding along aims owns belongs is_supervoxel is_chunk is_node has_id edge_at version_of child_of node_in
leads (HeaderRow d s c) = tt
leads (SupervoxelRow v) = (inl (refl, eq-eqb v v refl), (inl (refl, eq-eqb v v refl), tt))
leads (ChunkRow c) = (inl (refl, eq-eqb c c refl), tt)
leads (NodeRow n) = (inl (refl, eq-eqb n.id n.id refl), (inl (refl, eq-eqb n.id n.id refl), (inr (refl, eq-eqb n.chunk n.chunk refl), tt)))
leads (LinkRow l) = (inr (refl, eq-eqb l.parent l.parent refl), (inr (refl, eq-eqb l.child l.child refl), tt))
leads (EdgeRow made e) = (inr (refl, or_left _ (eqb e.pair.b e.pair.a) (eq-eqb e.pair.a e.pair.a refl)), (inr (refl, or_right (eqb e.pair.a e.pair.b) _ (eq-eqb e.pair.b e.pair.b refl)), tt))
leads (ChangeRow entry c) = tt
leads (ItemRow i) = tt
leads (EntryRow e) = tt

abbrev LeadsAlong : Row → Aim → Chain → Type 0
LeadsAlong row aim c = ((aim ≡ First (belongs c)) × (owns c row ≡ true)) ⊎ ((aim ≡ Next (belongs c)) × (belongs c row ≡ true))

leads_at : (row : Row) (cs : List (Option Chain)) (aimed : List Aim) (k : ℕ) (c : Chain) → Leads row cs aimed → get_or cs k None ≡ Some c → LeadsAlong row (get_or aimed k Nowhere) c
leads_at row [] aimed k c f e = cc
leads_at row (o ∷ cs) [] k c f e = absurd (gone o f)
  where
    gone : (o : Option Chain) → Leads row (o ∷ cs) [] → ⊥
    gone None f = f
    gone (Some c) f = f
leads_at row (None ∷ cs) (aim ∷ aimed) zero c f e = cc
leads_at row (Some b ∷ cs) (aim ∷ aimed) zero c f e = let q : b ≡ c = cc in subst (LeadsAlong row aim) q f.0
leads_at row (None ∷ cs) (aim ∷ aimed) (suc k) c f e = leads_at row cs aimed k c f e
leads_at row (Some b ∷ cs) (aim ∷ aimed) (suc k) c f e = leads_at row cs aimed k c f.1 e

-- a search that finds nothing
none_found : (test : Row → Bool) (place : ℕ) (rows : List Row) → 1 ≤ place → place_from test place rows ≡ 0 → list_any test rows ≡ false
unfolding place_from
none_found test place [] l z = refl
none_found test place (r ∷ rows) l z = go (test r) z (none_found test (place + 1) rows (omega arith))
  where
    go : (b : Bool) → cond b place (place_from test (place + 1) rows) ≡ 0 → (place_from test (place + 1) rows ≡ 0 → list_any test rows ≡ false) → (b || list_any test rows) ≡ false
    go true z f = absurd (omega arith)
    go false z f = f z

header_alone : (d : Dataset) (s c : ℕ) (chain : Chain) → belongs chain (HeaderRow d s c) ≡ false
unfolding belongs edge_at version_of child_of node_in
header_alone d s c (EdgesOf v) = refl
header_alone d s c (VersionsOf id) = refl
header_alone d s c (ChildrenOf id) = refl
header_alone d s c (NodesIn k) = refl

none_first : (chain : Chain) (rows : List Row) → IsHeaded rows → place_from (belongs chain) 0 rows ≡ 0 → HasNone chain rows
unfolding place_from
none_first chain rows h =
    subst (λ rs. place_from (belongs chain) 0 rs ≡ 0 → HasNone chain rs) (sym h.begins)
    (λ z. let e : belongs chain (HeaderRow h.dataset h.supervoxels h.chunks) ≡ false = header_alone h.dataset h.supervoxels h.chunks chain in
    rw e (none_found (belongs chain) 1 h.rest (omega arith) (ap (λ b. cond b 0 (place_from (belongs chain) 1 h.rest)) (sym e) ∙ z)))

last_at : (rows : List Row) (chain : Chain) (place : ℕ) (row : Row) (aim : Aim) → IsHeaded rows → pointer_word rows place (drop (place + 1) rows) aim ≡ 0 → LeadsAlong row aim chain → IsLast chain rows place row
unfolding pointer_word
last_at rows chain place row aim h z (inl f) = inl (f.1, none_first chain rows h (ap (pointer_word rows place (drop (place + 1) rows)) (sym f.0) ∙ z))
last_at rows chain place row aim h z (inr f) = inr (f.1, none_found (belongs chain) (place + 1) (drop (place + 1) rows) (omega arith) (ap (pointer_word rows place (drop (place + 1) rows)) (sym f.0) ∙ z))

pub ends_are_last : EndsAreLast
ends_are_last rows chain word h e =
    let a : IsAlong chain rows word = e.along in
    let n : word ≡ 8 * a.place + (4 + a.k) = a.number in
    let l : a.k < 4 = a.pointer in
    let z : pointer_word rows a.place (drop (a.place + 1) rows) (get_or (aims a.row) a.k Nowhere) ≡ 0 =
    sym (ap (λ i. get_or (words_of rows) i 0) n ∙ pointer_at rows a.place a.k a.row a.there l) ∙ e.empty in
    (a.place, a.row, a.there, omega arith, omega arith, last_at rows chain a.place a.row (get_or (aims a.row) a.k Nowhere) h z (leads_at a.row (along a.row) (aims a.row) a.k chain (leads a.row) a.leads))

pub ends_lie : EndsLie
unfolding words_of
ends_lie rows chain word e =
    let a : IsAlong chain rows word = e.along in
    let n : word ≡ 8 * a.place + (4 + a.k) = a.number in
    let l : a.k < 4 = a.pointer in
    let p : a.place < length rows = slice_get_within rows a.place a.row a.there in
    let m : length (words_of rows) ≡ 8 * length rows = length-words_of rows in
    omega arith
