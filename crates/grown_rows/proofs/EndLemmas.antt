-- Where chains end in records that stand already.
use Rattle.std.proofs.Common.{◌≡◌, ℕ, zero, suc, ◌+◌, ◌-◌, ◌*◌, ◌<◌, ◌≤◌, Bool, true, false, cond, ◌||◌, ◌&&◌, eqb, List, [], ◌∷◌, ◌++◌, length, drop, get_or, Option, Some, None, refl, sym, ◌∙◌, ap, ap₂, subst, inl, inr, ◌⊎◌, arith}
use Rattle.std.specs.List.{slice_get, list_any}
use Rattle.std.proofs.lemmas.Bool.{false≢true, eqb-true, eq-eqb, or_left, or_right, cases_lt}
use Rattle.std.proofs.lemmas.Option.{same_Some}
use Rattle.op_model.specs.declared.base.Dataset.{Dataset}
use Rattle.op_model.specs.declared.base.Pair.{Pair}
use Rattle.op_model.specs.Edges.{same_pair}
use Rattle.record_rows.specs.Rows.{Row, HeaderRow, SupervoxelRow, ChunkRow, NodeRow, LinkRow, EdgeRow, ChangeRow, ItemRow, EntryRow}
use Rattle.record_rows.specs.Chains.{Aim, Nowhere, First, Next, aims, edge_at, version_of, child_of, node_in, is_node, has_id, is_edge, change_of}
use Rattle.record_rows.specs.Walks.{is_supervoxel, is_chunk}
use Rattle.record_rows.specs.Words.{place_from, pointer_word, words_of}
use Rattle.record_rows.specs.Growth.{filled}
use Rattle.record_rows.proofs.GrowthLemmas.{slice_get-append}
use Rattle.record_rows.proofs.Lookups.{pointer_at}
use Rattle.row_append.specs.Ends.{Chain, EdgesOf, VersionsOf, ChildrenOf, NodesIn, belongs, owns, HasNone, along, IsAlong, IsHeaded}
use Rattle.row_append.proofs.Leaving.{any_at, place_none}
use Rattle.grown_rows.specs.Aimed.{passes, to_changes, IsToChanges}
use Rattle.grown_rows.proofs.AimLemmas.{grown_headed, got_last}
use Rattle.grown_rows.specs.EndLaws.{LastMembersEnd, OwnersEnd, LastChangesEnd, EdgesWithoutEnd, ChangesStay}

-- a pointer along a chain is its owner's to the first member, or a member's to the next
abbrev LeadsAlong : Row → Aim → Chain → Type 0
LeadsAlong row aim c = ((aim ≡ First (belongs c)) × (owns c row ≡ true)) ⊎ ((aim ≡ Next (belongs c)) × (belongs c row ≡ true))

abbrev Leads : Row → List (Option Chain) → List Aim → Type 0
Leads row [] [] = Unit {0}
Leads row (Some c ∷ cs) (aim ∷ aimed) = LeadsAlong row aim c × Leads row cs aimed
Leads row (None ∷ cs) (aim ∷ aimed) = Leads row cs aimed
Leads row cs aimed = ⊥

leads : (row : Row) → Leads row (along row) (aims row)
unfolding along aims owns belongs is_supervoxel is_chunk is_node has_id edge_at version_of child_of node_in
leads (HeaderRow d s c) = tt
leads (SupervoxelRow v) = (inl (refl, eq-eqb v v refl), (inl (refl, eq-eqb v v refl), tt))
leads (ChunkRow c) = (inl (refl, eq-eqb c c refl), tt)
leads (NodeRow n) = (inl (refl, eq-eqb n.id n.id refl), (inl (refl, eq-eqb n.id n.id refl), (inr (refl, eq-eqb n.chunk n.chunk refl), tt)))
leads (LinkRow l) = (inr (refl, eq-eqb l.parent l.parent refl), (inr (refl, eq-eqb l.child l.child refl), tt))
leads (EdgeRow made e) = (inr (refl, or_left _ (eqb e.pair.b e.pair.a) (eq-eqb e.pair.a e.pair.a refl)), (inr (refl, or_right (eqb e.pair.a e.pair.b) _ (eq-eqb e.pair.b e.pair.b refl)), tt))
leads (ChangeRow entry c) = tt
leads (ItemRow i) = tt
leads (EntryRow e) = tt

leads_at : (row : Row) (cs : List (Option Chain)) (aimed : List Aim) (k : ℕ) (c : Chain) → Leads row cs aimed → get_or cs k None ≡ Some c → LeadsAlong row (get_or aimed k Nowhere) c
leads_at row [] aimed k c f e = cc
leads_at row (o ∷ cs) [] k c f e = absurd (gone o f)
  where
    gone : (o : Option Chain) → Leads row (o ∷ cs) [] → ⊥
    gone None f = f
    gone (Some c) f = f
leads_at row (None ∷ cs) (aim ∷ aimed) zero c f e = cc
leads_at row (Some b ∷ cs) (aim ∷ aimed) zero c f e = let q : b ≡ c = cc in subst (LeadsAlong row aim) q f.0
leads_at row (None ∷ cs) (aim ∷ aimed) (suc k) c f e = leads_at row cs aimed k c f e
leads_at row (Some b ∷ cs) (aim ∷ aimed) (suc k) c f e = leads_at row cs aimed k c f.1 e

-- a search that finds nothing, and one where nothing is
none_found : (test : Row → Bool) (place : ℕ) (rows : List Row) → 1 ≤ place → place_from test place rows ≡ 0 → list_any test rows ≡ false
unfolding place_from
none_found test place [] l z = refl
none_found test place (r ∷ rows) l z = go (test r) z (none_found test (place + 1) rows (omega arith))
  where
    go : (b : Bool) → cond b place (place_from test (place + 1) rows) ≡ 0 → (place_from test (place + 1) rows ≡ 0 → list_any test rows ≡ false) → (b || list_any test rows) ≡ false
    go true z f = absurd (omega arith)
    go false z f = f z

header_alone : (d : Dataset) (s c : ℕ) (chain : Chain) → belongs chain (HeaderRow d s c) ≡ false
unfolding belongs edge_at version_of child_of node_in
header_alone d s c (EdgesOf v) = refl
header_alone d s c (VersionsOf id) = refl
header_alone d s c (ChildrenOf id) = refl
header_alone d s c (NodesIn k) = refl

none_first : (chain : Chain) (rows : List Row) → IsHeaded rows → place_from (belongs chain) 0 rows ≡ 0 → HasNone chain rows
unfolding place_from
none_first chain rows h =
    subst (λ rs. place_from (belongs chain) 0 rs ≡ 0 → HasNone chain rs) (sym h.begins)
    (λ z. let e : belongs chain (HeaderRow h.dataset h.supervoxels h.chunks) ≡ false = header_alone h.dataset h.supervoxels h.chunks chain in
    rw e (none_found (belongs chain) 1 h.rest (omega arith) (ap (λ b. cond b 0 (place_from (belongs chain) 1 h.rest)) (sym e) ∙ z)))

drop_get : (rows : List Row) (n q : ℕ) (row : Row) → slice_get (drop n rows) q ≡ Some row → slice_get rows (n + q) ≡ Some row
drop_get rows zero q row e = let z : 0 + q ≡ q = omega arith in subst (λ m. slice_get rows m ≡ Some row) (sym z) e
drop_get [] (suc n) q row e = cc
drop_get (r ∷ rows) (suc n) q row e = let z : suc n + q ≡ suc (n + q) = omega arith in subst (λ m. slice_get (r ∷ rows) m ≡ Some row) (sym z) (drop_get rows n q row e)

get_drop : (rows : List Row) (n q : ℕ) (row : Row) → slice_get rows (n + q) ≡ Some row → slice_get (drop n rows) q ≡ Some row
get_drop rows zero q row e = let z : 0 + q ≡ q = omega arith in subst (λ m. slice_get rows m ≡ Some row) z e
get_drop [] (suc n) q row e = let z : suc n + q ≡ suc (n + q) = omega arith in absurd (none (subst (λ m. slice_get [] m ≡ Some row) z e))
  where
    none : slice_get [] (suc (n + q)) ≡ Some row → ⊥
    none e = cc
get_drop (r ∷ rows) (suc n) q row e = let z : suc n + q ≡ suc (n + q) = omega arith in get_drop rows n q row (subst (λ m. slice_get (r ∷ rows) m ≡ Some row) z e)

-- where no record passes, none is found
none_any : (test : Row → Bool) (rows : List Row) → ((q : ℕ) (row : Row) → slice_get rows q ≡ Some row → test row ≡ true → ⊥) → list_any test rows ≡ false
none_any test [] f = refl
none_any test (r ∷ rows) f = go (test r) refl (none_any test rows (λ q row h t. f (suc q) row h t))
  where
    go : (b : Bool) → test r ≡ b → list_any test rows ≡ false → (b || list_any test rows) ≡ false
    go true e n = absurd (f 0 r refl e)
    go false e n = n

-- no record is both a chain's owner and a member
apart : (chain : Chain) (row : Row) → owns chain row ≡ true → belongs chain row ≡ true → ⊥
unfolding owns belongs is_supervoxel is_chunk is_node has_id edge_at version_of child_of node_in
apart (EdgesOf v) (SupervoxelRow u) o b = false≢true b
apart (EdgesOf v) row o b = false≢true o
apart (VersionsOf id) (SupervoxelRow u) o b = false≢true b
apart (VersionsOf id) (NodeRow n) o b = false≢true b
apart (VersionsOf id) row o b = false≢true o
apart (ChildrenOf id) (NodeRow n) o b = false≢true b
apart (ChildrenOf id) row o b = false≢true o
apart (NodesIn c) (ChunkRow k) o b = false≢true b
apart (NodesIn c) row o b = false≢true o

module _ (rows : List Row) (chain : Chain) (headed : IsHeaded rows) where
  -- the pointer along the chain, as it leads
  leading : (a : ℕ) (k : ℕ) (row : Row) → slice_get rows a ≡ Some row → k < 4 → get_or (along row) k None ≡ Some chain
      → ((get_or (words_of rows) (8 * a + (4 + k)) 0 ≡ place_from (belongs chain) 0 rows) × (owns chain row ≡ true)) ⊎ ((get_or (words_of rows) (8 * a + (4 + k)) 0 ≡ place_from (belongs chain) (a + 1) (drop (a + 1) rows)) × (belongs chain row ≡ true))
  unfolding pointer_word
  leading a k row h l e =
      let p : get_or (words_of rows) (8 * a + (4 + k)) 0 ≡ pointer_word rows a (drop (a + 1) rows) (get_or (aims row) k Nowhere) = pointer_at rows a k row h l in
      elim (leads_at row (along row) (aims row) k chain (leads row) e) [
        | inl f ↦ inl (p ∙ ap (pointer_word rows a (drop (a + 1) rows)) f.0, f.1)
        | inr f ↦ inr (p ∙ ap (pointer_word rows a (drop (a + 1) rows)) f.0, f.1)
      ]

pub last_members_end : LastMembersEnd
last_members_end rows chain place k row headed there member one behind = record {
  along = record { place = place; k = k; row = row; there = there; pointer = one.0; leads = one.1; number = refl };
  empty = empty (leading rows chain headed place k row there one.0 one.1);
  only = only;
}
  where
    none_behind : list_any (belongs chain) (drop (place + 1) rows) ≡ false
    none_behind = none_any (belongs chain) (drop (place + 1) rows) (λ q r h t. let b : place + 1 + q ≤ place = behind (place + 1 + q) r (drop_get rows (place + 1) q r h) t in absurd (omega arith))

    empty : ((get_or (words_of rows) (8 * place + (4 + k)) 0 ≡ place_from (belongs chain) 0 rows) × (owns chain row ≡ true)) ⊎ ((get_or (words_of rows) (8 * place + (4 + k)) 0 ≡ place_from (belongs chain) (place + 1) (drop (place + 1) rows)) × (belongs chain row ≡ true))
        → get_or (words_of rows) (8 * place + (4 + k)) 0 ≡ 0
    empty (inl e) = absurd (apart chain row e.1 member)
    empty (inr e) = e.0 ∙ place_none (belongs chain) (place + 1) (drop (place + 1) rows) none_behind

    only : (other : ℕ) → IsAlong chain rows other → get_or (words_of rows) other 0 ≡ 0 → other ≡ 8 * place + (4 + k)
    only other a z = go (leading rows chain headed a.place a.k a.row a.there a.pointer a.leads)
      where
        zero_there : get_or (words_of rows) (8 * a.place + (4 + a.k)) 0 ≡ 0
        zero_there = ap (λ j. get_or (words_of rows) j 0) (sym a.number) ∙ z

        go : ((get_or (words_of rows) (8 * a.place + (4 + a.k)) 0 ≡ place_from (belongs chain) 0 rows) × (owns chain a.row ≡ true))
            ⊎ ((get_or (words_of rows) (8 * a.place + (4 + a.k)) 0 ≡ place_from (belongs chain) (a.place + 1) (drop (a.place + 1) rows)) × (belongs chain a.row ≡ true))
            → other ≡ 8 * place + (4 + k)
        go (inl e) = absurd (false≢true (sym (any_at (belongs chain) rows place row (none_first chain rows headed (sym e.0 ∙ zero_there)) there) ∙ member))
        go (inr e) = at (cases_lt a.place place)
          where
            at : (a.place < place) ⊎ (place ≤ a.place) → other ≡ 8 * place + (4 + k)
            at (inl l) =
                let n : list_any (belongs chain) (drop (a.place + 1) rows) ≡ false = none_found (belongs chain) (a.place + 1) (drop (a.place + 1) rows) (omega arith) (sym e.0 ∙ zero_there) in
                let q : place ≡ a.place + 1 + (place - (a.place + 1)) = omega arith in
                let h : slice_get (drop (a.place + 1) rows) (place - (a.place + 1)) ≡ Some row = get_drop rows (a.place + 1) (place - (a.place + 1)) row (subst (λ m. slice_get rows m ≡ Some row) q there) in
                absurd (false≢true (sym (any_at (belongs chain) (drop (a.place + 1) rows) (place - (a.place + 1)) row n h) ∙ member))
            at (inr l) =
                let b : a.place ≤ place = behind a.place a.row a.there e.1 in
                let q : a.place ≡ place = omega arith in
                let r : a.row ≡ row = same_Some _ _ (sym a.there ∙ (ap (slice_get rows) q ∙ there)) in
                let j : a.k ≡ k = one.2 a.k (subst (λ x. get_or (along x) a.k None ≡ Some chain) r a.leads) in
                let m : other ≡ 8 * a.place + (4 + a.k) = a.number in
                omega arith

pub owners_end : OwnersEnd
owners_end rows chain place k row headed there owner one none alone = record {
  along = record { place = place; k = k; row = row; there = there; pointer = one.0; leads = one.1; number = refl };
  empty = empty (leading rows chain headed place k row there one.0 one.1);
  only = only;
}
  where
    empty : ((get_or (words_of rows) (8 * place + (4 + k)) 0 ≡ place_from (belongs chain) 0 rows) × (owns chain row ≡ true)) ⊎ ((get_or (words_of rows) (8 * place + (4 + k)) 0 ≡ place_from (belongs chain) (place + 1) (drop (place + 1) rows)) × (belongs chain row ≡ true))
        → get_or (words_of rows) (8 * place + (4 + k)) 0 ≡ 0
    empty (inl e) = e.0 ∙ place_none (belongs chain) 0 rows none
    empty (inr e) = absurd (apart chain row owner e.1)

    only : (other : ℕ) → IsAlong chain rows other → get_or (words_of rows) other 0 ≡ 0 → other ≡ 8 * place + (4 + k)
    only other a z = go (leading rows chain headed a.place a.k a.row a.there a.pointer a.leads)
      where
        go : ((get_or (words_of rows) (8 * a.place + (4 + a.k)) 0 ≡ place_from (belongs chain) 0 rows) × (owns chain a.row ≡ true))
            ⊎ ((get_or (words_of rows) (8 * a.place + (4 + a.k)) 0 ≡ place_from (belongs chain) (a.place + 1) (drop (a.place + 1) rows)) × (belongs chain a.row ≡ true))
            → other ≡ 8 * place + (4 + k)
        go (inl e) =
            let q : a.place ≡ place = alone a.place a.row a.there e.1 in
            let r : a.row ≡ row = same_Some _ _ (sym a.there ∙ (ap (slice_get rows) q ∙ there)) in
            let j : a.k ≡ k = one.2 a.k (subst (λ x. get_or (along x) a.k None ≡ Some chain) r a.leads) in
            let m : other ≡ 8 * a.place + (4 + a.k) = a.number in
            omega arith
        go (inr e) = absurd (false≢true (sym (any_at (belongs chain) rows a.place a.row none a.there) ∙ e.1))

-- The changes of a pair.
pair_same : (p q : Pair) → same_pair p q ≡ true → p ≡ q
unfolding same_pair
pair_same p q e = let f = and_both (eqb p.a q.a) (eqb p.b q.b) e in let a : p.a ≡ q.a = eqb-true p.a q.a f.0 in let b : p.b ≡ q.b = eqb-true p.b q.b f.1 in ap₂ (λ x y. record { a = x; b = y }) a b
  where
    and_both : (a b : Bool) → (a && b) ≡ true → (a ≡ true) × (b ≡ true)
    and_both true b e = (refl, e)
    and_both false b e = absurd (false≢true e)

pair_self : (p : Pair) → same_pair p p ≡ true
unfolding same_pair
pair_self p = rw (eq-eqb p.a p.a refl, eq-eqb p.b p.b refl) refl

-- a pointer along a pair's changes leads from the edge to the first one, or from one to the next
abbrev ChangesLead : List Row → Pair → ℕ → Row → ℕ → Type 0
ChangesLead rows p a row k =
    ((get_or (words_of rows) (8 * a + (4 + k)) 0 ≡ place_from (change_of p) 0 rows) × (is_edge p row ≡ true) × (k ≡ 0))
    ⊎ ((get_or (words_of rows) (8 * a + (4 + k)) 0 ≡ place_from (change_of p) (a + 1) (drop (a + 1) rows)) × (change_of p row ≡ true) × (k ≡ 1))

changes_lead : (rows : List Row) (p : Pair) (a : ℕ) (row : Row) (k : ℕ) → slice_get rows a ≡ Some row → k < 4 → to_changes p row k ≡ true → ChangesLead rows p a row k
unfolding to_changes aims pointer_word is_edge change_of
changes_lead rows p a (EdgeRow made e) zero h l t =
    let q : p ≡ e.pair = pair_same p e.pair t in
    inl (pointer_at rows a 0 (EdgeRow made e) h l ∙ ap (λ x. place_from (change_of x) 0 rows) (sym q), subst (λ x. same_pair e.pair x ≡ true) (sym q) (pair_self e.pair), refl)
changes_lead rows p a (ChangeRow entry c) (suc zero) h l t =
    let q : p ≡ c.pair = pair_same p c.pair t in
    inr (pointer_at rows a 1 (ChangeRow entry c) h l ∙ ap (λ x. place_from (change_of x) (a + 1) (drop (a + 1) rows)) (sym q), subst (λ x. same_pair c.pair x ≡ true) (sym q) (pair_self c.pair), refl)
changes_lead rows p a row k h l t = absurd (false≢true t)

header_no_change : (d : Dataset) (s c : ℕ) (p : Pair) → change_of p (HeaderRow d s c) ≡ false
unfolding change_of
header_no_change d s c p = refl

none_changed : (p : Pair) (rows : List Row) → IsHeaded rows → place_from (change_of p) 0 rows ≡ 0 → list_any (change_of p) rows ≡ false
unfolding place_from
none_changed p rows h =
    subst (λ rs. place_from (change_of p) 0 rs ≡ 0 → list_any (change_of p) rs ≡ false) (sym h.begins)
    (λ z. let e : change_of p (HeaderRow h.dataset h.supervoxels h.chunks) ≡ false = header_no_change h.dataset h.supervoxels h.chunks p in
    rw e (none_found (change_of p) 1 h.rest (omega arith) (ap (λ b. cond b 0 (place_from (change_of p) 1 h.rest)) (sym e) ∙ z)))

edge_not_change : (p : Pair) (row : Row) → is_edge p row ≡ true → change_of p row ≡ true → ⊥
unfolding is_edge change_of
edge_not_change p (EdgeRow made e) a b = false≢true b
edge_not_change p row a b = false≢true a

pub last_changes_end : LastChangesEnd
unfolding to_changes change_of
last_changes_end rows place entry c headed there behind = record {
  along = record { place = place; k = 1; row = ChangeRow entry c; there = there; pointer = omega arith; leads = pair_self c.pair; number = omega arith };
  empty = subst (λ j. get_or (words_of rows) j 0 ≡ 0) (let n : 8 * place + (4 + 1) ≡ 8 * place + 5 = omega arith in n) (empty (changes_lead rows c.pair place (ChangeRow entry c) 1 there (omega arith) (pair_self c.pair)));
  only = λ other a z. go other a (ap (λ j. get_or (words_of rows) j 0) (sym a.number) ∙ z) (changes_lead rows c.pair a.place a.row a.k a.there a.pointer a.leads);
}
  where
    none_behind : list_any (change_of c.pair) (drop (place + 1) rows) ≡ false
    none_behind = none_any (change_of c.pair) (drop (place + 1) rows) (λ q r h t. let b : place + 1 + q ≤ place = behind (place + 1 + q) r (drop_get rows (place + 1) q r h) t in absurd (omega arith))

    empty : ChangesLead rows c.pair place (ChangeRow entry c) 1 → get_or (words_of rows) (8 * place + (4 + 1)) 0 ≡ 0
    empty (inl e) = absurd (let z = e.2 in omega arith)
    empty (inr e) = e.0 ∙ place_none (change_of c.pair) (place + 1) (drop (place + 1) rows) none_behind

    member : change_of c.pair (ChangeRow entry c) ≡ true
    member = pair_self c.pair

    go : (other : ℕ) → (a : IsToChanges c.pair rows other) → get_or (words_of rows) (8 * a.place + (4 + a.k)) 0 ≡ 0
        → ChangesLead rows c.pair a.place a.row a.k → other ≡ 8 * place + 5
    go other a z (inl e) = absurd (false≢true (sym (any_at (change_of c.pair) rows place (ChangeRow entry c) (none_changed c.pair rows headed (sym e.0 ∙ z)) there) ∙ member))
    go other a z (inr e) = elim (cases_lt a.place place) [
      | inl l ↦
          let n : list_any (change_of c.pair) (drop (a.place + 1) rows) ≡ false = none_found (change_of c.pair) (a.place + 1) (drop (a.place + 1) rows) (omega arith) (sym e.0 ∙ z) in
          let q : place ≡ a.place + 1 + (place - (a.place + 1)) = omega arith in
          let h : slice_get (drop (a.place + 1) rows) (place - (a.place + 1)) ≡ Some (ChangeRow entry c) = get_drop rows (a.place + 1) (place - (a.place + 1)) (ChangeRow entry c) (subst (λ m. slice_get rows m ≡ Some (ChangeRow entry c)) q there) in
          absurd (false≢true (sym (any_at (change_of c.pair) (drop (a.place + 1) rows) (place - (a.place + 1)) (ChangeRow entry c) n h) ∙ member))
      | inr l ↦
          let b : a.place ≤ place = behind a.place a.row a.there e.1 in
          let m : other ≡ 8 * a.place + (4 + a.k) = a.number in
          let k : a.k ≡ 1 = e.2 in
          omega arith
    ]

pub edges_without_end : EdgesWithoutEnd
unfolding to_changes
edges_without_end rows place made x headed there none alone = record {
  along = record { place = place; k = 0; row = EdgeRow made x; there = there; pointer = omega arith; leads = pair_self x.pair; number = omega arith };
  empty = subst (λ j. get_or (words_of rows) j 0 ≡ 0) (let n : 8 * place + (4 + 0) ≡ 8 * place + 4 = omega arith in n) (empty (changes_lead rows x.pair place (EdgeRow made x) 0 there (omega arith) (pair_self x.pair)));
  only = λ other a z. go other a (changes_lead rows x.pair a.place a.row a.k a.there a.pointer a.leads);
}
  where
    empty : ChangesLead rows x.pair place (EdgeRow made x) 0 → get_or (words_of rows) (8 * place + (4 + 0)) 0 ≡ 0
    empty (inl e) = e.0 ∙ place_none (change_of x.pair) 0 rows none
    empty (inr e) = absurd (let z = e.2 in omega arith)

    go : (other : ℕ) → (a : IsToChanges x.pair rows other)
        → ChangesLead rows x.pair a.place a.row a.k → other ≡ 8 * place + 4
    go other a (inl e) = let q : a.place ≡ place = alone a.place a.row a.there e.1 in let m : other ≡ 8 * a.place + (4 + a.k) = a.number in let k : a.k ≡ 0 = e.2 in omega arith
    go other a (inr e) = absurd (false≢true (sym (any_at (change_of x.pair) rows a.place a.row none a.there) ∙ e.1))

to_changes_aim : (p : Pair) (r row : Row) (k : ℕ) → to_changes p r k ≡ true → passes (get_or (aims r) k Nowhere) row ≡ change_of p row
unfolding to_changes aims passes
to_changes_aim p (EdgeRow made e) row zero t = ap (λ x. change_of x row) (sym (pair_same p e.pair t))
to_changes_aim p (ChangeRow entry c) row (suc zero) t = ap (λ x. change_of x row) (sym (pair_same p c.pair t))
to_changes_aim p r row k t = absurd (false≢true t)

filled_same : (w : ℕ) → filled w 0 ≡ w
unfolding filled
filled_same w = go (eqb w 0) refl
  where
    go : (b : Bool) → eqb w 0 ≡ b → cond b 0 w ≡ w
    go true e = sym (eqb-true w 0 e)
    go false e = refl

no_changes_own : (p : Pair) (row : Row) (k : ℕ) → is_edge p row ≡ false → change_of p row ≡ false → to_changes p row k ≡ true → ⊥
unfolding to_changes is_edge change_of
no_changes_own p (EdgeRow made e) zero ne nc t = let q : p ≡ e.pair = pair_same p e.pair t in false≢true (sym ne ∙ subst (λ x. same_pair e.pair x ≡ true) (sym q) (pair_self e.pair))
no_changes_own p (ChangeRow entry c) (suc zero) ne nc t = let q : p ≡ c.pair = pair_same p c.pair t in false≢true (sym nc ∙ subst (λ x. same_pair c.pair x ≡ true) (sym q) (pair_self c.pair))
no_changes_own p row k ne nc t = false≢true t

pub changes_stay : ChangesStay
changes_stay rows row p word h e ne nc = record { along = more e.along; empty = same word e.along ∙ e.empty; only = only }
  where
    more : IsToChanges p rows word → IsToChanges p (rows ++ row ∷ []) word
    more a = record { place = a.place; k = a.k; row = a.row; there = slice_get-append rows (row ∷ []) a.place a.row a.there; pointer = a.pointer; leads = a.leads; number = a.number }

    same : (j : ℕ) → IsToChanges p rows j → get_or (words_of (rows ++ row ∷ [])) j 0 ≡ get_or (words_of rows) j 0
    same j a =
        ap (λ i. get_or (words_of (rows ++ row ∷ [])) i 0) a.number
        ∙ (grown_headed rows row h a.place a.k a.row a.there a.pointer
        ∙ (ap (λ b. filled (get_or (words_of rows) (8 * a.place + (4 + a.k)) 0) (cond b (length rows) 0)) (to_changes_aim p a.row row a.k a.leads ∙ nc)
        ∙ (filled_same (get_or (words_of rows) (8 * a.place + (4 + a.k)) 0) ∙ ap (λ i. get_or (words_of rows) i 0) (sym a.number))))

    only : (j : ℕ) → IsToChanges p (rows ++ row ∷ []) j → get_or (words_of (rows ++ row ∷ [])) j 0 ≡ 0 → j ≡ word
    only j a z = elim (got_last rows row a.place a.row a.there) [
      | inl g ↦ let old : IsToChanges p rows j = record { place = a.place; k = a.k; row = a.row; there = g; pointer = a.pointer; leads = a.leads; number = a.number } in e.only j old (sym (same j old) ∙ z)
      | inr g ↦ absurd (no_changes_own p row a.k ne nc (subst (λ r. to_changes p r a.k ≡ true) g.1 a.leads))
    ]
