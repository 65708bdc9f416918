-- Where chains end before the first edge, node and link, and what stays behind further records.
use Rattle.std.proofs.Common.{◌≡◌, ℕ, ◌+◌, ◌-◌, ◌*◌, ◌<◌, ◌≤◌, inl, inr, true, false, List, [], ◌∷◌, ◌++◌, length, length-append, map, get_or, refl, sym, ◌∙◌, ap, subst, arith, append_assoc, append-nil}
use Rattle.std.specs.List.{All, list_any}
use Rattle.std.proofs.lemmas.List.{get_or_append_left, get_or-append_right}
use Rattle.std.proofs.lemmas.Bool.{ne_eqb, eq-eqb, cases_lt}
use Rattle.record_rows.specs.Rows.{Row, NodeRow, LinkRow, Node}
use Rattle.record_rows.specs.Chains.{version_of, child_of, has_id, is_node}
use Rattle.record_rows.specs.Words.{place_from}
use Rattle.record_rows.proofs.ImageLemmas.{length-map}
use Rattle.row_append.specs.Ends.{Chain, EdgesOf, ChildrenOf, VersionsOf, owns, belongs, has_part, EndsAt, IsFree, IsHeaded}
use Rattle.row_append.specs.Tails.{word_number}
use Rattle.row_append.specs.declared.tail.Tail.{Tail}
use Rattle.row_append.proofs.EndLaws.{headers_stay, nodes_begin}
use Rattle.row_append.proofs.Leaving.{or_none}
use Rattle.base_rows.specs.BaseRows.{ids_of}
use Rattle.base_rows.specs.declared.lists.BaseNode.{BaseNode}
use Rattle.base_rows.specs.declared.lists.BaseLink.{BaseLink}
use Rattle.base_rows.specs.Lists.{IsOnce, IsWithin}
use Rattle.base_rows.specs.States.{tails_from, AreTails}
use Rattle.base_rows.proofs.Passing.{NonePass}
use Rattle.base_rows.proofs.TailLists.{length-tails_from, tail_at}
use Rattle.base_rows.proofs.Begun.{ends_stay_all, begun, found, others_fail}
use Rattle.base_rows.proofs.OwnerLists.{once_behind, once_apart}
use Rattle.grown_rows.specs.Growths.{Grown, IsGrowth}
use Rattle.entry_rows.specs.declared.lists.EntryLists.{EntryLists}
use Rattle.entry_rows.specs.States.{AreAt, ArePointers, Edging, Noding, Linking, link_by}
use Rattle.entry_rows.specs.Listed.{places_from, EdgesListed, NodesListed, LinksListed}
use Rattle.entry_rows.proofs.PlaceLists.{length-places_from, place_at}
use Rattle.entry_rows.proofs.LinkSteps.{at_more}

-- ends stay behind records that are part of none of the chains
pub tails_stay : (chain : ℕ → Chain) (ids : List ℕ) (rows more : List Row) (tails : List Tail) → IsHeaded rows → AreTails chain ids rows tails
    → ((i : ℕ) → i < length ids → NonePass (has_part (chain (get_or ids i 0))) more) → AreTails chain ids (rows ++ more) tails
tails_stay chain ids rows more tails h are none = record {
  count = are.count;
  each = λ i t l. ends_stay_all (chain (get_or ids i 0)) rows more _ h (are.each i t l) (none i l);
}

-- which nodes are part of these chains
node_parts : (u : ℕ) (n : Node) → (n.id ≡ u → ⊥) → (has_part (ChildrenOf u) (NodeRow n) ≡ false) × (has_part (VersionsOf u) (NodeRow n) ≡ false) × (has_id u (NodeRow n) ≡ false) × (is_node u (NodeRow n) ≡ false)
unfolding has_part owns belongs is_node has_id child_of version_of
node_parts u n f = (rw (ne_eqb n.id u f) refl, rw (ne_eqb n.id u f) refl, ne_eqb n.id u f, ne_eqb n.id u f)

node_own : (n : Node) → (has_id n.id (NodeRow n) ≡ true) × (is_node n.id (NodeRow n) ≡ true)
unfolding has_id is_node
node_own n = (eq-eqb n.id n.id refl, eq-eqb n.id n.id refl)

-- a chain that is free has no owner
no_owner : (u : ℕ) (rows : List Row) → (IsFree (VersionsOf u) rows → NonePass (has_id u) rows) × (IsFree (ChildrenOf u) rows → NonePass (is_node u) rows)
unfolding has_part owns
no_owner u [] = ((λ f. refl), (λ f. refl))
no_owner u (r ∷ rows) = (
  λ f.
      let a = or_none (has_part (VersionsOf u) r) (list_any (has_part (VersionsOf u)) rows) f in
      let b = or_none (has_id u r) (belongs (VersionsOf u) r) a.0 in
      rw (b.0, (no_owner u rows).0 a.1) refl,
  λ f.
      let a = or_none (has_part (ChildrenOf u) r) (list_any (has_part (ChildrenOf u)) rows) f in
      let b = or_none (is_node u r) (belongs (ChildrenOf u) r) a.0 in
      rw (b.0, (no_owner u rows).1 a.1) refl,
)

-- before the first link
module _ (old more : List Row) (ns : List Node) (g : Grown) (l : EntryLists) (growth : IsGrowth old (more ++ map NodeRow ns) g) (is : LinksListed (old ++ more) l ns) where
  abbrev before : List Row
  before = old ++ more

  abbrev parents : List ℕ
  parents = ids_of ns

  abbrev children : List ℕ
  children = l.kept.items ++ parents

  abbrev first : ℕ
  first = length before

  abbrev count : ℕ
  count = length ns

  abbrev rows : List Row
  rows = before ++ map NodeRow ns

  headed : IsHeaded before
  headed = headers_stay old more growth.headed

  some : 0 < length before
  some = (let e = ap length headed.begins in omega (arith, e))

  long : length parents ≡ count
  long = length-map (λ (n : Node). n.id) ns

  parents_once : IsOnce parents
  parents_once = once_behind l.kept.items parents is.once

  nil : before ++ (map NodeRow ns ++ []) ≡ rows
  nil = ap (λ rs. before ++ rs) (append-nil (map NodeRow ns))

  children_end : (i : ℕ) → i < length parents → EndsAt (ChildrenOf (get_or parents i 0)) rows (8 * (first + i) + 4)
  children_end i m =
      subst (λ rs. EndsAt (ChildrenOf (get_or parents i 0)) rs (8 * (first + i) + 4)) nil
      (begun (λ n. n.id) NodeRow ChildrenOf 4 (λ rs n h f. (nodes_begin rs n h).0 f) (λ u n f. (node_parts u n f).0) ns before [] headed parents_once
      (λ j k. (is.free j k).0) (λ j k. refl) i m)

  own_versions_end : (i : ℕ) → i < length parents → EndsAt (VersionsOf (get_or parents i 0)) rows (8 * (first + i) + 5)
  own_versions_end i m =
      subst (λ rs. EndsAt (VersionsOf (get_or parents i 0)) rs (8 * (first + i) + 5)) nil
      (begun (λ n. n.id) NodeRow VersionsOf 5 (λ rs n h f. (nodes_begin rs n h).1 f) (λ u n f. (node_parts u n f).1) ns before [] headed parents_once
      (λ j k. (is.free j k).1) (λ j k. refl) i m)

  child_found : (i : ℕ) → i < length parents → place_from (has_id (get_or parents i 0)) 0 rows ≡ first + i
  child_found i m =
      ap (place_from (has_id (get_or parents i 0)) 0) (sym nil)
      ∙ found (λ n. n.id) NodeRow has_id (λ u n f. (node_parts u n f).2) (λ n. (node_own n).0) ns before [] some parents_once
      (λ j k. (no_owner (get_or parents j 0) before).0 (is.free j k).1) i m

  parent_found : (i : ℕ) → i < length parents → place_from (is_node (get_or parents i 0)) 0 rows ≡ first + i
  parent_found i m =
      ap (place_from (is_node (get_or parents i 0)) 0) (sym nil)
      ∙ found (λ n. n.id) NodeRow is_node (λ u n f. (node_parts u n f).3) (λ n. (node_own n).1) ns before [] some parents_once
      (λ j k. (no_owner (get_or parents j 0) before).1 (is.free j k).0) i m

  abbrev places : List ℕ
  places = places_from first count

  kept_long : length l.kept_places.items ≡ length l.kept.items
  kept_long = is.kept_at.count

  children_at : AreAt has_id children rows (l.kept_places.items ++ places)
  children_at = record {
    count = (
        let a = length-append l.kept_places.items places in
        let b = length-append l.kept.items parents in
        let c = length-places_from first count in
        let k = kept_long in
        let n = long in
        omega (arith, a, b, c, k, n)
        );
    each = each;
  }
    where
      kept : AreAt has_id l.kept.items rows l.kept_places.items
      kept = at_more has_id l.kept.items before (map NodeRow ns) l.kept_places.items is.kept_at

      each : (i : ℕ) → i < length children → (place_from (has_id (get_or children i 0)) 0 rows ≡ get_or (l.kept_places.items ++ places) i 0) × (0 < get_or (l.kept_places.items ++ places) i 0)
      each i m = elim (cases_lt i (length l.kept.items)) [
        | inl k ↦
            let e = kept.each i k in
            let a : get_or (l.kept_places.items ++ places) i 0 ≡ get_or l.kept_places.items i 0 = get_or_append_left l.kept_places.items places 0 i (let n = kept_long in omega (arith, n, k)) in
            let b : get_or children i 0 ≡ get_or l.kept.items i 0 = get_or_append_left l.kept.items parents 0 i k in
            (ap (λ u. place_from (has_id u) 0 rows) b ∙ (e.0 ∙ sym a), subst (λ x. 0 < x) (sym a) e.1)
        | inr k ↦
            let n = length-append l.kept.items parents in
            let j : i - length l.kept.items < length parents = omega (arith, n, m, k) in
            let a : get_or (l.kept_places.items ++ places) i 0 ≡ get_or places (i - length l.kept.items) 0 =
            get_or-append_right l.kept_places.items places (length l.kept.items) i 0 kept_long k in
            let b : get_or children i 0 ≡ get_or parents (i - length l.kept.items) 0 = get_or-append_right l.kept.items parents (length l.kept.items) i 0 refl k in
            let p : get_or places (i - length l.kept.items) 0 ≡ first + (i - length l.kept.items) = place_at first count (i - length l.kept.items) (let q = long in omega (arith, j, q)) in
            let s = some in
            (ap (λ u. place_from (has_id u) 0 rows) b ∙ (child_found (i - length l.kept.items) j ∙ sym (a ∙ p)), omega (arith, a, p, s))
      ]

  parents_at : AreAt is_node parents rows places
  parents_at = record {
    count = (let c = length-places_from first count in let n = long in omega (arith, c, n));
    each = λ i m.
        let p : get_or places i 0 ≡ first + i = place_at first count i (let q = long in omega (arith, m, q)) in
        let s = some in
        (parent_found i m ∙ sym p, omega (arith, p, s));
  }

  ends_are : AreTails ChildrenOf parents rows (tails_from first 4 count)
  ends_are = record {
    count = length-tails_from first 4 count ∙ sym long;
    each = λ i t m. subst (λ y. EndsAt (ChildrenOf (get_or parents i 0)) rows (word_number y)) (sym (tail_at first 4 count i t (let q = long in omega (arith, m, q)))) (children_end i m);
  }

  abbrev versions : List Tail
  versions = l.kept_ends.items ++ tails_from first 5 count

  versions_are : AreTails VersionsOf children rows versions
  versions_are = record {
    count = (
        let a = length-append l.kept_ends.items (tails_from first 5 count) in
        let b = length-append l.kept.items parents in
        let c = length-tails_from first 5 count in
        let k = is.ends_are.count in
        let n = long in
        omega (arith, a, b, c, k, n)
        );
    each = each;
  }
    where
      kept : AreTails VersionsOf l.kept.items rows l.kept_ends.items
      kept = tails_stay VersionsOf l.kept.items before (map NodeRow ns) l.kept_ends.items headed is.ends_are
          (λ i m. others_fail (λ n. n.id) NodeRow (λ u. has_part (VersionsOf u)) (λ u n f. (node_parts u n f).1) (get_or l.kept.items i 0) ns (λ j k e. once_apart l.kept.items parents is.once i j m k (sym e)))

      each : (i : ℕ) (t : Tail) → i < length children → EndsAt (VersionsOf (get_or children i 0)) rows (word_number (get_or versions i t))
      each i t m = elim (cases_lt i (length l.kept.items)) [
        | inl k ↦
            subst (λ v. EndsAt (VersionsOf v) rows (word_number (get_or versions i t))) (sym (get_or_append_left l.kept.items parents 0 i k))
            (subst (λ y. EndsAt (VersionsOf (get_or l.kept.items i 0)) rows (word_number y))
            (sym (get_or_append_left l.kept_ends.items (tails_from first 5 count) t i (let n = is.ends_are.count in omega (arith, n, k)))) (kept.each i t k))
        | inr k ↦
            let n = length-append l.kept.items parents in
            let j : i - length l.kept.items < length parents = omega (arith, n, m, k) in
            subst (λ v. EndsAt (VersionsOf v) rows (word_number (get_or versions i t))) (sym (get_or-append_right l.kept.items parents (length l.kept.items) i 0 refl k))
            (subst (λ y. EndsAt (VersionsOf (get_or parents (i - length l.kept.items) 0)) rows (word_number y))
            (sym (get_or-append_right l.kept_ends.items (tails_from first 5 count) (length l.kept.items) i t is.ends_are.count k
            ∙ tail_at first 5 count (i - length l.kept.items) t (let q = long in omega (arith, j, q))))
            (own_versions_end (i - length l.kept.items) j))
      ]

  own_pointers : (word : ℕ) → 4 ≤ word → word < 8 → ArePointers (tails_from first word count)
  own_pointers word low high i t m =
      let n : i < count = (let c = length-tails_from first word count in omega (arith, c, m)) in
      let e : Tail = record { spot = first + i; word = word } in
      (subst (λ (x : Tail). 4 ≤ x.word) (sym (tail_at first word count i t n)) low, subst (λ (x : Tail). x.word < 8) (sym (tail_at first word count i t n)) high)

  version_pointers : ArePointers versions
  version_pointers i t m = elim (cases_lt i (length l.kept_ends.items)) [
    | inl k ↦
        let e = get_or_append_left l.kept_ends.items (tails_from first 5 count) t i k in
        (subst (λ (x : Tail). 4 ≤ x.word) (sym e) (is.pointers i t k).0, subst (λ (x : Tail). x.word < 8) (sym e) (is.pointers i t k).1)
    | inr k ↦
        let n = length-append l.kept_ends.items (tails_from first 5 count) in
        let j : i - length l.kept_ends.items < length (tails_from first 5 count) = omega (arith, n, m, k) in
        let e = get_or-append_right l.kept_ends.items (tails_from first 5 count) (length l.kept_ends.items) i t refl k in
        let o = own_pointers 5 (omega arith) (omega arith) (i - length l.kept_ends.items) t j in
        (subst (λ (x : Tail). 4 ≤ x.word) (sym e) o.0, subst (λ (x : Tail). x.word < 8) (sym e) o.1)
  ]

  whole : rows ≡ old ++ (more ++ map NodeRow ns)
  whole = append_assoc old more (map NodeRow ns)

  pub linking_begins : Linking (l.kept.items ++ ids_of ns) (ids_of ns) old (more ++ map NodeRow ns) g (l.kept_places.items ++ places_from (length (old ++ more)) (length ns)) (places_from (length (old ++ more)) (length ns))
      (tails_from (length (old ++ more)) 4 (length ns)) (l.kept_ends.items ++ tails_from (length (old ++ more)) 5 (length ns))
  linking_begins = record {
    growth = growth;
    children_once = is.once;
    parents_once = parents_once;
    children_at = subst (λ rs. AreAt has_id children rs (l.kept_places.items ++ places)) whole children_at;
    parents_at = subst (λ rs. AreAt is_node parents rs places) whole parents_at;
    ends_are = subst (λ rs. AreTails ChildrenOf parents rs (tails_from first 4 count)) whole ends_are;
    versions_are = subst (λ rs. AreTails VersionsOf children rs versions) whole versions_are;
    end_pointers = own_pointers 4 (omega arith) (omega arith);
    version_pointers = version_pointers;
  }

-- before the first edge
pub edging_begins : (old : List Row) (g : Grown) (l : EntryLists) → IsGrowth old [] g → (is : EdgesListed old l) → Edging is.ids old [] g l.edge_ends.items
edging_begins old g l growth is = record {
  growth = growth;
  once = is.once;
  tails_are = subst (λ rs. AreTails EdgesOf is.ids rs l.edge_ends.items) (sym (append-nil old)) is.ends_are;
  pointers = is.pointers;
}

-- and the first node
pub noding_begins : (number : ℕ) (old more : List Row) (g : Grown) (l : EntryLists) (ns : List Node) → IsGrowth old more g → (is : NodesListed number (old ++ more) l ns) → Noding is.chunks old more g l.node_ends.items
noding_begins number old more g l ns growth is = record { growth = growth; once = is.once; tails_are = is.ends_are; pointers = is.pointers }

-- the lists that the links are put by
module _ (old more : List Row) (ns : List Node) (g : Grown) (l : EntryLists) (growth : IsGrowth old (more ++ map NodeRow ns) g) (is : LinksListed (old ++ more) l ns) (first : ℕ) (here : first ≡ length (old ++ more))
    (children child_places parent_places : List ℕ) (ends versions : List Tail) (links : List BaseLink) (children_are : children ≡ l.kept.items ++ map (λ (x : BaseNode). x.id) l.nodes.items)
    (links_are : links ≡ l.links.items) where
  same_children : children ≡ l.kept.items ++ ids_of ns
  same_children = children_are ∙ ap (λ xs. l.kept.items ++ xs) is.ids

  pub links_within : All (IsWithin children (ids_of ns)) links
  links_within = subst (λ xs. All (IsWithin xs (ids_of ns)) links) (sym same_children) (subst (λ xs. All (IsWithin (l.kept.items ++ ids_of ns) (ids_of ns)) xs) (sym links_are) is.within)

  many : length l.nodes.items ≡ length ns
  many = sym (length-map (λ (x : BaseNode). x.id) l.nodes.items) ∙ (ap length is.ids ∙ length-map (λ (n : Node). n.id) ns)

  pub linking : child_places ≡ l.kept_places.items ++ places_from first (length l.nodes.items) → parent_places ≡ places_from first (length l.nodes.items)
      → ends ≡ tails_from first 4 (length l.nodes.items) → versions ≡ l.kept_ends.items ++ tails_from first 5 (length l.nodes.items)
      → Linking children (ids_of ns) old (more ++ map NodeRow ns) g child_places parent_places ends versions
  linking cp pp es vs =
      let n = many in
      let cp_is : List ℕ = l.kept_places.items ++ places_from (length (old ++ more)) (length ns) in
      let pp_is : List ℕ = places_from (length (old ++ more)) (length ns) in
      let es_is : List Tail = tails_from (length (old ++ more)) 4 (length ns) in
      let c : child_places ≡ l.kept_places.items ++ places_from (length (old ++ more)) (length ns) = cp ∙ ap (λ f. l.kept_places.items ++ places_from f (length l.nodes.items)) here ∙ ap (λ k. l.kept_places.items ++ places_from (length (old ++ more)) k) n in
      let p : parent_places ≡ places_from (length (old ++ more)) (length ns) = pp ∙ ap (λ f. places_from f (length l.nodes.items)) here ∙ ap (places_from (length (old ++ more))) n in
      let e : ends ≡ tails_from (length (old ++ more)) 4 (length ns) = es ∙ ap (λ f. tails_from f 4 (length l.nodes.items)) here ∙ ap (tails_from (length (old ++ more)) 4) n in
      let v : versions ≡ l.kept_ends.items ++ tails_from (length (old ++ more)) 5 (length ns) =
      vs ∙ ap (λ f. l.kept_ends.items ++ tails_from f 5 (length l.nodes.items)) here ∙ ap (λ k. l.kept_ends.items ++ tails_from (length (old ++ more)) 5 k) n in
      subst (λ xs. Linking xs (ids_of ns) old (more ++ map NodeRow ns) g child_places parent_places ends versions) (sym same_children)
      (subst (λ xs. Linking (l.kept.items ++ ids_of ns) (ids_of ns) old (more ++ map NodeRow ns) g xs parent_places ends versions) (sym c)
      (subst (λ xs. Linking (l.kept.items ++ ids_of ns) (ids_of ns) old (more ++ map NodeRow ns) g cp_is xs ends versions) (sym p)
      (subst (λ xs. Linking (l.kept.items ++ ids_of ns) (ids_of ns) old (more ++ map NodeRow ns) g cp_is pp_is xs versions) (sym e)
      (subst (λ xs. Linking (l.kept.items ++ ids_of ns) (ids_of ns) old (more ++ map NodeRow ns) g cp_is pp_is es_is xs) (sym v) (linking_begins old more ns g l growth is)))))

  pub linked : (number : ℕ) (after : Grown) → IsGrowth old ((more ++ map NodeRow ns) ++ map (λ (x : BaseLink). LinkRow (link_by number children (ids_of ns) x)) links) after
      → IsGrowth old ((more ++ map NodeRow ns) ++ map (λ (x : BaseLink). LinkRow (link_by number (l.kept.items ++ ids_of ns) (ids_of ns) x)) l.links.items) after
  linked number after h =
      subst (λ xs. IsGrowth old ((more ++ map NodeRow ns) ++ map (λ (x : BaseLink). LinkRow (link_by number xs (ids_of ns) x)) l.links.items) after) same_children
      (subst (λ ys. IsGrowth old ((more ++ map NodeRow ns) ++ map (λ (x : BaseLink). LinkRow (link_by number children (ids_of ns) x)) ys) after) links_are h)
