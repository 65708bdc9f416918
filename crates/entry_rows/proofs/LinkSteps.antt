-- Where chains end with one more link.
use Rattle.std.proofs.Common.{◌≡◌, ℕ, ◌+◌, ◌*◌, ◌<◌, Bool, false, List, [], ◌∷◌, ◌++◌, length, get_or, set, refl, sym, ◌∙◌, subst, arith, append_assoc}
use Rattle.std.proofs.lemmas.Bool.{ne_eqb}
use Rattle.record_rows.specs.Rows.{Row, LinkRow, Link}
use Rattle.record_rows.specs.Chains.{version_of, child_of, has_id, is_node}
use Rattle.row_append.specs.Ends.{ChildrenOf, VersionsOf, owns, belongs, has_part, EndsAt, IsHeaded}
use Rattle.row_append.specs.declared.tail.Tail.{Tail}
use Rattle.row_append.proofs.EndLaws.{headers_stay, links_end}
use Rattle.row_append.proofs.FoundLemmas.{found_stays}
use Rattle.base_rows.specs.declared.lists.BaseLink.{BaseLink}
use Rattle.base_rows.specs.Lists.{IsWithin}
use Rattle.base_rows.specs.States.{AreTails}
use Rattle.base_rows.proofs.TailLists.{tail_set}
use Rattle.grown_rows.specs.Growths.{Grown, IsGrowth}
use Rattle.entry_rows.specs.States.{AreAt, Linking, link_by}
use Rattle.entry_rows.proofs.EdgeSteps.{pointers_set}

child_apart : (u : ℕ) (l : Link) → (l.parent ≡ u → ⊥) → has_part (ChildrenOf u) (LinkRow l) ≡ false
unfolding has_part owns belongs is_node child_of
child_apart u l f = rw (ne_eqb l.parent u f) refl

version_apart : (u : ℕ) (l : Link) → (l.child ≡ u → ⊥) → has_part (VersionsOf u) (LinkRow l) ≡ false
unfolding has_part owns belongs has_id version_of
version_apart u l f = rw (ne_eqb l.child u f) refl

-- records that stand keep their places
pub at_more : (test : ℕ → Row → Bool) (ids : List ℕ) (rows more : List Row) (places : List ℕ) → AreAt test ids rows places → AreAt test ids (rows ++ more) places
at_more test ids rows more places a = record {
  count = a.count;
  each = λ i l. let e = a.each i l in (found_stays (test (get_or ids i 0)) rows more (subst (λ x. 0 < x) (sym e.0) e.1) ∙ e.0, e.1);
}

module _ (children parents : List ℕ) (old more : List Row) (g after : Grown) (child_places parent_places : List ℕ) (ends versions : List Tail) (x : BaseLink) (made place : ℕ)
    (st : Linking children parents old more g child_places parent_places ends versions) (p : IsWithin children parents x) (here : place ≡ length (old ++ more))
    (grown : IsGrowth old (more ++ LinkRow (link_by made children parents x) ∷ []) after) where
  abbrev link : Link
  link = link_by made children parents x

  abbrev one : Tail
  one = record { spot = place; word = 5 }

  abbrev two : Tail
  two = record { spot = place; word = 6 }

  headed : IsHeaded (old ++ more)
  headed = headers_stay old more st.growth.headed

  whole : (old ++ more) ++ LinkRow link ∷ [] ≡ old ++ (more ++ LinkRow link ∷ [])
  whole = append_assoc old more (LinkRow link ∷ [])

  -- with one more link
  pub link_more : Linking children parents old (more ++ LinkRow (link_by made children parents x) ∷ []) after child_places parent_places
      (set ends x.parent (record { spot = place; word = 5 })) (set versions x.child (record { spot = place; word = 6 }))
  link_more = record {
    growth = grown;
    children_once = st.children_once;
    parents_once = st.parents_once;
    children_at = subst (λ rs. AreAt has_id children rs child_places) whole (at_more has_id children (old ++ more) (LinkRow link ∷ []) child_places st.children_at);
    parents_at = subst (λ rs. AreAt is_node parents rs parent_places) whole (at_more is_node parents (old ++ more) (LinkRow link ∷ []) parent_places st.parents_at);
    ends_are = subst (λ rs. AreTails ChildrenOf parents rs (set ends x.parent one)) whole
        (tail_set ChildrenOf parents (old ++ more) (LinkRow link) ends x.parent one headed st.ends_are st.parents_once p.1
        (subst (λ k. EndsAt (ChildrenOf link.parent) ((old ++ more) ++ LinkRow link ∷ []) (8 * k + 5)) (sym here) (links_end (old ++ more) link headed).0)
        (λ u f. child_apart u link f));
    versions_are = subst (λ rs. AreTails VersionsOf children rs (set versions x.child two)) whole
        (tail_set VersionsOf children (old ++ more) (LinkRow link) versions x.child two headed st.versions_are st.children_once p.0
        (subst (λ k. EndsAt (VersionsOf link.child) ((old ++ more) ++ LinkRow link ∷ []) (8 * k + 6)) (sym here) (links_end (old ++ more) link headed).1)
        (λ u f. version_apart u link f));
    end_pointers = pointers_set ends x.parent one (let c = st.ends_are.count in let l = p.1 in omega arith) st.end_pointers (omega arith) (omega arith);
    version_pointers = pointers_set versions x.child two (let c = st.versions_are.count in let l = p.0 in omega arith) st.version_pointers (omega arith) (omega arith);
  }
