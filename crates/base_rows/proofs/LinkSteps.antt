-- The ends of the nodes' children and of the links from supervoxels and nodes, with one more link.
use Rattle.std.proofs.Common.{◌≡◌, ℕ, ◌+◌, ◌*◌, ◌<◌, Bool, true, false, cond, ◌-◌, List, [], ◌∷◌, ◌++◌, length, get_or, set, ltb, refl, sym, ◌∙◌, subst, arith}
use Rattle.std.proofs.lemmas.Bool.{ne_eqb}
use Rattle.record_rows.specs.Rows.{Row, LinkRow, Link}
use Rattle.record_rows.specs.Chains.{version_of, child_of, has_id, is_node}
use Rattle.record_rows.specs.Words.{words_of}
use Rattle.row_append.specs.Ends.{ChildrenOf, VersionsOf, owns, belongs, has_part, EndsAt, is_logged}
use Rattle.row_append.specs.declared.tail.Tail.{Tail}
use Rattle.row_append.proofs.EndLaws.{links_end}
use Rattle.row_append.proofs.FoundLemmas.{found_stays}
use Rattle.base_rows.specs.declared.lists.BaseLink.{BaseLink}
use Rattle.base_rows.specs.Lists.{IsWithin, link_of}
use Rattle.base_rows.specs.States.{Linking, owner_place}
use Rattle.base_rows.proofs.TailLists.{tail_set}
use Rattle.base_rows.proofs.EdgeSteps.{rows_more}
use Rattle.base_rows.proofs.OwnerLists.{once_behind}

child_apart : (u : ℕ) (l : Link) → (l.parent ≡ u → ⊥) → has_part (ChildrenOf u) (LinkRow l) ≡ false
unfolding has_part owns belongs is_node child_of
child_apart u l f = rw (ne_eqb l.parent u f) refl

version_apart : (u : ℕ) (l : Link) → (l.child ≡ u → ⊥) → has_part (VersionsOf u) (LinkRow l) ≡ false
unfolding has_part owns belongs has_id version_of
version_apart u l f = rw (ne_eqb l.child u f) refl

-- an owner's record doesn't stand at place 0
pub owner_behind : (supervoxels first i : ℕ) → 0 < first → 0 < owner_place supervoxels first i
unfolding owner_place
owner_behind supervoxels first i l = go (ltb i supervoxels)
  where
    go : (b : Bool) → 0 < cond b (1 + i) (first + (i - supervoxels))
    go true = omega arith
    go false = omega arith

module _ (ids nodes : List ℕ) (first : ℕ) (rows : List Row) (old new : List ℕ) (children versions : List Tail) (x : BaseLink) (place : ℕ)
    (st : Linking ids nodes first rows old children versions) (p : IsWithin (ids ++ nodes) nodes x) (here : place ≡ length rows)
    (w : new ≡ words_of (rows ++ LinkRow (link_of (ids ++ nodes) nodes x) ∷ [])) where
  abbrev link : Link
  link = link_of (ids ++ nodes) nodes x

  abbrev more : List Row
  more = rows ++ LinkRow link ∷ []

  -- with one more link
  pub link_more : Linking ids nodes first (rows ++ LinkRow (link_of (ids ++ nodes) nodes x) ∷ []) new (set children x.parent (record { spot = place; word = 5 }))
      (set versions x.child (record { spot = place; word = 6 }))
  unfolding is_logged
  link_more = record {
    rows_are = rows_more rows old new (LinkRow link) st.rows_are refl w;
    once = st.once;
    children_are =
        tail_set ChildrenOf nodes rows (LinkRow link) children x.parent _ st.rows_are.headed st.children_are (once_behind ids nodes st.once) p.1
        (subst (λ k. EndsAt (ChildrenOf link.parent) more (8 * k + 5)) (sym here) (links_end rows link st.rows_are.headed).0)
        (λ u f. child_apart u link f);
    versions_are =
        tail_set VersionsOf (ids ++ nodes) rows (LinkRow link) versions x.child _ st.rows_are.headed st.versions_are st.once p.0
        (subst (λ k. EndsAt (VersionsOf link.child) more (8 * k + 6)) (sym here) (links_end rows link st.rows_are.headed).1)
        (λ u f. version_apart u link f);
    owners_stand = λ i l.
        let e = st.owners_stand i l in
        let b = owner_behind (length ids) first i st.behind in
        found_stays (has_id (get_or (ids ++ nodes) i 0)) rows (LinkRow link ∷ []) (omega (arith, e, b)) ∙ e;
    nodes_stand = λ i l.
        let e = st.nodes_stand i l in
        let b = st.behind in
        found_stays (is_node (get_or nodes i 0)) rows (LinkRow link ∷ []) (omega (arith, e, b)) ∙ e;
    behind = st.behind;
  }
