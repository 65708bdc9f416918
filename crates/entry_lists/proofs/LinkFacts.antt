-- The links of an entry, by the places of their children and parents.
use Rattle.std.proofs.Common.{◌≡◌, ℕ, zero, suc, ◌+◌, ◌-◌, ◌<◌, Bool, true, false, cond, eqb, List, [], ◌∷◌, ◌++◌, length, length-append, map, get_or, refl, sym, ◌∙◌, ap, subst, inl, inr, arith}
use Rattle.std.specs.List.{All, AllByRecursion, flat_map, list_any}
use Rattle.std.proofs.lemmas.Bool.{false≢true, eqb-true, cases_lt}
use Rattle.std.proofs.lemmas.List.{get_or_append_left, get_or-append-add, get_or-append_right}
use Rattle.std.proofs.lemmas.List.Elements.{All-from_recursion, recursion_from_All}
use Rattle.graph_model.specs.Lists.{has}
use Rattle.graph_model.proofs.ListLemmas.{has_cases, has_head, has_none, has_tail}
use Rattle.op_model.specs.declared.base.Dataset.{Dataset}
use Rattle.op_model.specs.declared.base.Base.{Base}
use Rattle.op_model.specs.declared.entry.Entry.{Entry}
use Rattle.op_model.specs.Chunks.{layers}
use Rattle.op_model.specs.Legal.{Legal}
use Rattle.op_model.specs.Operations.{ascending}
use Rattle.op_model.specs.Valid.{IsAscending}
use Rattle.op_model.proofs.LegalLemmas.{ascending_has}
use Rattle.op_model.proofs.MadeLemmas.{ascending_only}
use Rattle.record_rows.specs.Rows.{Row, Link, Node}
use Rattle.record_rows.specs.Chains.{has_id}
use Rattle.record_rows.specs.LogRows.{children_of, layer_nodes, links_of, new_links, new_nodes, rows_of}
use Rattle.record_rows.proofs.DifferLemmas.{all_each, all_flat, all_map, all_more}
use Rattle.row_append.specs.declared.tail.Tail.{Tail}
use Rattle.row_append.specs.Ends.{ChildrenOf, VersionsOf, IsFree}
use Rattle.base_rows.specs.declared.lists.BaseLink.{BaseLink}
use Rattle.base_rows.specs.BaseRows.{ids_of}
use Rattle.base_rows.specs.Lists.{IsOnce, IsWithin}
use Rattle.base_rows.specs.States.{AreTails}
use Rattle.layer_laws.proofs.OrderLemmas.{get_has}
use Rattle.entry_parts.specs.declared.made.MadeLink.{MadeLink}
use Rattle.entry_parts.specs.declared.made.MadeNode.{MadeNode}
use Rattle.entry_parts.specs.Made.{AreLinks, AreMade as AreMadeNodes, IsPlacedChild, as_link, told_made, told_node}
use Rattle.entry_rows.specs.States.{ArePointers, link_by}
use Rattle.octree_layers.specs.Places.{place_of}
use Rattle.octree_layers.proofs.Placing.{place_at}
use Rattle.new_ids.specs.NewIds.{AreNew, IsNewNode}
use Rattle.new_ids.proofs.NodeFacts.{new_ids_are_free}
use Rattle.entry_lists.specs.Links.{AreLinksPlaced, IsBetween, base_link, kept_ids}
use Rattle.entry_lists.specs.Parts.{IsBehind}
use Rattle.entry_lists.proofs.Ascents.{ascending_once}
use Rattle.entry_lists.proofs.KeptFacts.{above_none, any_low, kept_at, kept_known, kept_low, place_in}

abbrev pub made_ids : List MadeNode → List ℕ
made_ids ms = map (λ (m : MadeNode). m.id) ms

-- made nodes have the ids of the nodes that they tell
pub same_ids : (ms : List MadeNode) (ns : List Node) → map told_made ms ≡ map told_node ns → made_ids ms ≡ ids_of ns
same_ids [] [] e = refl
same_ids [] (n ∷ ns) e = cc
same_ids (m ∷ ms) [] e = cc
same_ids (m ∷ ms) (n ∷ ns) e =
    let p = parts (told_made m) (told_node n) (map told_made ms) (map told_node ns) e in
    both m.id n.id (made_ids ms) (ids_of ns) (ap (λ (t : ℕ × ℕ × ℕ). t.0) p.0) (same_ids ms ns p.1)
  where
    parts : {X : Type 0} (x y : X) (xs ys : List X) → (x ∷ xs) ≡ (y ∷ ys) → (x ≡ y) × (xs ≡ ys)
    parts x y xs ys e = (cc, cc)

    both : (x y : ℕ) (xs ys : List ℕ) → x ≡ y → xs ≡ ys → x ∷ xs ≡ y ∷ ys
    both x y xs ys p q = cc

-- the parent of each link of an entry is one of its nodes
own_parents : (d : Dataset) (b : Base) (log : List Entry) (layer : ℕ) (n : Node) → AllByRecursion (λ (l : Link). l.parent ≡ n.id) (links_of d b log layer n)
unfolding links_of
own_parents d b log layer n =
    all_map (λ c. record { child = c; parent = n.id; entry = n.made }) (λ (l : Link). l.parent ≡ n.id) (children_of d b log layer n.leaves) (all_each (λ c. n.id ≡ n.id) (children_of d b log layer n.leaves) (λ c. refl))

own_ids : (ns : List Node) → AllByRecursion (λ (n : Node). has (ids_of ns) n.id ≡ true) ns
own_ids [] = tt
own_ids (n ∷ ns) = (has_head n.id (ids_of ns), all_more (λ (y : Node). has (ids_of ns) y.id ≡ true) (λ (y : Node). has (ids_of (n ∷ ns)) y.id ≡ true) ns (λ y h. has_tail n.id (ids_of ns) y.id h) (own_ids ns))

all_split : {X : Type 0} (P : X → Type 0) (ys zs : List X) → AllByRecursion P (ys ++ zs) → AllByRecursion P ys × AllByRecursion P zs
all_split P [] zs h = (tt, h)
all_split P (y ∷ ys) zs h = let s = all_split P ys zs h.1 in ((h.0, s.0), s.1)

-- what holds of a flat list's items, holds of each of its lists
parts_hold : {X Y : Type 0} (P : Y → Type 0) (f : X → List Y) (xs : List X) → AllByRecursion P (flat_map f xs) → AllByRecursion (λ x. AllByRecursion P (f x)) xs
parts_hold P f [] a = tt
parts_hold P f (x ∷ xs) a = let s = all_split P (f x) (flat_map f xs) a in (s.0, parts_hold P f xs s.1)

pub parents_known : (d : Dataset) (b : Base) (log : List Entry) (k : ℕ) → AllByRecursion (λ (l : Link). has (ids_of (new_nodes d b log k)) l.parent ≡ true) (new_links d b log k)
unfolding new_links new_nodes
parents_known d b log k =
    let ns : List Node = flat_map (layer_nodes d b log k) (layers d) in
    all_flat (λ layer. flat_map (links_of d b log layer) (layer_nodes d b log k layer)) (λ (l : Link). has (ids_of ns) l.parent ≡ true) (layers d)
    (all_more (λ layer. AllByRecursion (λ (n : Node). has (ids_of ns) n.id ≡ true) (layer_nodes d b log k layer)) (λ layer. AllByRecursion (λ (l : Link). has (ids_of ns) l.parent ≡ true) (flat_map (links_of d b log layer) (layer_nodes d b log k layer))) (layers d)
    (λ layer h. all_flat (links_of d b log layer) (λ (l : Link). has (ids_of ns) l.parent ≡ true) (layer_nodes d b log k layer)
    (all_more (λ (n : Node). has (ids_of ns) n.id ≡ true) (λ (n : Node). AllByRecursion (λ (l : Link). has (ids_of ns) l.parent ≡ true) (links_of d b log layer n)) (layer_nodes d b log k layer)
    (λ n g. all_more (λ (l : Link). l.parent ≡ n.id) (λ (l : Link). has (ids_of ns) l.parent ≡ true) (links_of d b log layer n) (λ l q. subst (λ v. has (ids_of ns) v ≡ true) (sym q) g) (own_parents d b log layer n)) h))
    (parts_hold (λ (n : Node). has (ids_of ns) n.id ≡ true) (layer_nodes d b log k) (layers d) (own_ids ns)))

unmapped : {X Y : Type 0} (P : Y → Type 0) (f : X → Y) (xs : List X) → AllByRecursion P (map f xs) → AllByRecursion (λ x. P (f x)) xs
unmapped P f [] a = tt
unmapped P f (x ∷ xs) a = (a.0, unmapped P f xs a.1)

-- each link leads between the kept children and the new nodes
pub between : (d : Dataset) (b : Base) (log : List Entry) (e : Entry) (ms : List MadeNode) (ls : List MadeLink) → AreMadeNodes d b log e ms → AreLinks d b log e ms ls → All (IsBetween (ascending (kept_ids ls)) (made_ids ms)) ls
between d b log e ms ls are links =
    let same : made_ids ms ≡ ids_of (new_nodes d b (e ∷ log) e.number) = same_ids ms (new_nodes d b (e ∷ log) e.number) are in
    let parents : AllByRecursion (λ (x : MadeLink). has (made_ids ms) x.parent ≡ true) ls =
    subst (λ vs. AllByRecursion (λ (x : MadeLink). has vs x.parent ≡ true) ls) (sym same)
    (unmapped (λ (l : Link). has (ids_of (new_nodes d b (e ∷ log) e.number)) l.parent ≡ true) (as_link e.number) ls
    (subst (λ xs. AllByRecursion (λ (l : Link). has (ids_of (new_nodes d b (e ∷ log) e.number)) l.parent ≡ true) xs) (sym links.links_are) (parents_known d b (e ∷ log) e.number))) in
    All-from_recursion (IsBetween (ascending (kept_ids ls)) (made_ids ms)) ls (go ls (recursion_from_All (IsPlacedChild (rows_of d b log) (made_ids ms)) ls links.placed) (kept_known ls) parents)
  where
    go : (xs : List MadeLink) → AllByRecursion (IsPlacedChild (rows_of d b log) (made_ids ms)) xs → AllByRecursion (λ (x : MadeLink). 0 < x.child_at → has (kept_ids ls) x.child ≡ true) xs
        → AllByRecursion (λ (x : MadeLink). has (made_ids ms) x.parent ≡ true) xs → AllByRecursion (IsBetween (ascending (kept_ids ls)) (made_ids ms)) xs
    go [] a k p = tt
    go (x ∷ xs) a k p = (record { kept_child = λ l. ascending_has (kept_ids ls) x.child (k.0 l); new_child = a.0.new; parent = p.0 }, go xs a.1 k.1 p.1)

-- lists that have no number in common, each number once
once_append : (xs ys : List ℕ) → IsOnce xs → IsOnce ys → ((v : ℕ) → has xs v ≡ true → has ys v ≡ true → ⊥) → IsOnce (xs ++ ys)
once_append xs ys one two apart i j l m e =
    let n = length-append xs ys in
    elim (cases_lt i (length xs)) [
      | inl p ↦ elim (cases_lt j (length xs)) [
        | inl q ↦ one i j p q (sym (get_or_append_left xs ys 0 i p) ∙ (e ∙ get_or_append_left xs ys 0 j q))
        | inr q ↦ absurd (apart (get_or xs i 0) (get_has xs i p) (subst (λ v. has ys v ≡ true) (sym (sym (get_or_append_left xs ys 0 i p) ∙ (e ∙ get_or-append_right xs ys (length xs) j 0 refl q))) (get_has ys (j - length xs) (omega (arith, n, m, q)))))
      ]
      | inr p ↦ elim (cases_lt j (length xs)) [
        | inl q ↦ absurd (apart (get_or xs j 0) (get_has xs j q) (subst (λ v. has ys v ≡ true) (sym (get_or-append_right xs ys (length xs) i 0 refl p) ∙ (e ∙ get_or_append_left xs ys 0 j q)) (get_has ys (i - length xs) (omega (arith, n, l, p)))))
        | inr q ↦
            let z = two (i - length xs) (j - length xs) (omega (arith, n, l, p)) (omega (arith, n, m, q)) (sym (get_or-append_right xs ys (length xs) i 0 refl p) ∙ (e ∙ get_or-append_right xs ys (length xs) j 0 refl q)) in
            omega (arith, z, p, q)
      ]
    ]

module _ (kept new : List ℕ) where
  -- the place of the child is its own
  child_at : (x : MadeLink) → IsBetween kept new x → ((base_link kept new x).child < length (kept ++ new)) × (get_or (kept ++ new) (base_link kept new x).child 0 ≡ x.child)
  unfolding base_link
  child_at x is = go (eqb x.child_at 0) refl
    where
      go : (t : Bool) → eqb x.child_at 0 ≡ t → (cond t (length kept + place_of new x.child) (place_of kept x.child) < length (kept ++ new)) × (get_or (kept ++ new) (cond t (length kept + place_of new x.child) (place_of kept x.child)) 0 ≡ x.child)
      go true e =
          let n = length-append kept new in
          let p = place_at new x.child (is.new_child (eqb-true x.child_at 0 e)) in
          let low = p.0 in
          (omega (arith, n, low), get_or-append-add kept new (place_of new x.child) 0 ∙ p.1)
      go false e =
          let n = length-append kept new in
          let p = place_at kept x.child (is.kept_child (above_none x.child_at e)) in
          let low = p.0 in
          (omega (arith, n, low), get_or_append_left kept new 0 (place_of kept x.child) p.0 ∙ p.1)

  -- and so is that of the parent
  parent_at : (x : MadeLink) → IsBetween kept new x → ((base_link kept new x).parent < length new) × (get_or new (base_link kept new x).parent 0 ≡ x.parent)
  unfolding base_link
  parent_at x is = place_at new x.parent is.parent

  pub links_within : (ls : List MadeLink) → AllByRecursion (IsBetween kept new) ls → AllByRecursion (IsWithin (kept ++ new) new) (map (base_link kept new) ls)
  links_within [] a = tt
  links_within (x ∷ ls) a = (((child_at x a.0).0, (parent_at x a.0).0), links_within ls a.1)

  pub links_same : (number : ℕ) (ls : List MadeLink) → AllByRecursion (IsBetween kept new) ls → map (link_by number (kept ++ new) new) (map (base_link kept new) ls) ≡ map (as_link number) ls
  links_same number [] a = refl
  links_same number (x ∷ ls) a =
      both (link_by number (kept ++ new) new (base_link kept new x)) (as_link number x) _ _ (link (child_at x a.0).1 (parent_at x a.0).1) (links_same number ls a.1)
    where
      both : (l m : Link) (xs ys : List Link) → l ≡ m → xs ≡ ys → l ∷ xs ≡ m ∷ ys
      both l m xs ys p q = cc

      link : {c p : ℕ} → c ≡ x.child → p ≡ x.parent → record { child = c; parent = p; entry = number } ≡ as_link number x
      link q r = λ i. record { child = q i; parent = r i; entry = number }

module _ (d : Dataset) (b : Base) (log : List Entry) (e : Entry) (words : List ℕ) (i : IsBehind d b log e words) (ms : List MadeNode) (ls : List MadeLink) (are : AreMadeNodes d b log e ms) (links : AreLinks d b log e ms ls) where
  abbrev rows : List Row
  rows = rows_of d b log

  abbrev ns : List Node
  ns = new_nodes d b (e ∷ log) e.number

  abbrev kept : List ℕ
  kept = ascending (kept_ids ls)

  fresh : AreNew d b log e
  fresh = go log i.image.legal i.legal
    where
      go : (old : List Entry) → Legal d b old → Legal d b (e ∷ old) → AreNew d b old e
      go [] l m = absurd l
      go (f ∷ old) l m = new_ids_are_free d b i.image.dataset i.image.base e f old m

  unknown_ids : (xs : List Node) → AllByRecursion (IsNewNode rows) xs → (v : ℕ) → has (ids_of xs) v ≡ true → list_any (has_id v) rows ≡ false
  unknown_ids [] a v h = has_none v h
  unknown_ids (n ∷ xs) a v h = elim (has_cases n.id (ids_of xs) v h) [ inl q ↦ subst (λ w. list_any (has_id w) rows ≡ false) q a.0.unknown | inr g ↦ unknown_ids xs a.1 v g ]

  free_ids : (xs : List Node) → AllByRecursion (IsNewNode rows) xs → (j : ℕ) → j < length (ids_of xs) → IsFree (ChildrenOf (get_or (ids_of xs) j 0)) rows × IsFree (VersionsOf (get_or (ids_of xs) j 0)) rows
  free_ids [] a j l = absurd (omega (arith, l))
  free_ids (n ∷ xs) a zero l = (a.0.children, a.0.versions)
  free_ids (n ∷ xs) a (suc j) l = free_ids xs a.1 j (omega (arith, l))

  apart : (v : ℕ) → has kept v ≡ true → has (ids_of ns) v ≡ true → ⊥
  apart v h g = false≢true (sym (unknown_ids ns fresh.nodes v g) ∙ any_low rows v (kept_low rows (made_ids ms) ls links.placed v (ascending_only (kept_ids ls) v h)))

  same_new : made_ids ms ≡ ids_of ns
  same_new = same_ids ms ns are

  all_between : AllByRecursion (IsBetween kept (ids_of ns)) ls
  all_between = subst (λ vs. AllByRecursion (IsBetween kept vs) ls) same_new (recursion_from_All (IsBetween kept (made_ids ms)) ls (between d b log e ms ls are links))

  kept_placed : (places : List ℕ) (ends : List Tail) (xs : List BaseLink) → places ≡ map (place_in rows) kept → xs ≡ map (base_link kept (made_ids ms)) ls → AreTails VersionsOf kept rows ends → ArePointers ends
      → AreLinksPlaced e.number rows kept places ends xs ns (new_links d b (e ∷ log) e.number)
  kept_placed places ends xs p q tails pointers =
      let told : xs ≡ map (base_link kept (ids_of ns)) ls = q ∙ ap (λ vs. map (base_link kept vs) ls) same_new in
      record {
        once = once_append kept (ids_of ns) (ascending_once (kept_ids ls)) fresh.once apart;
        kept_at = kept_at rows (made_ids ms) ls links.placed kept places refl p;
        ends_are = tails;
        pointers = pointers;
        within = subst (All (IsWithin (kept ++ ids_of ns) (ids_of ns))) (sym told) (All-from_recursion (IsWithin (kept ++ ids_of ns) (ids_of ns)) _ (links_within kept (ids_of ns) ls all_between));
        free = free_ids ns fresh.nodes;
        links_are = ap (map (link_by e.number (kept ++ ids_of ns) (ids_of ns))) told ∙ (links_same kept (ids_of ns) e.number ls all_between ∙ links.links_are);
      }

  pub new_ascends : IsAscending (made_ids ms)
  new_ascends = subst IsAscending (sym same_new) fresh.ascending

  -- the lists tell what the entry's links want
  pub links_placed : (vs places : List ℕ) (ends : List Tail) (xs : List BaseLink) → vs ≡ kept → places ≡ map (place_in rows) vs → xs ≡ map (base_link kept (made_ids ms)) ls → AreTails VersionsOf vs rows ends → ArePointers ends
      → AreLinksPlaced e.number rows vs places ends xs ns (new_links d b (e ∷ log) e.number)
  links_placed vs places ends xs k p q tails pointers =
      subst (λ us. AreLinksPlaced e.number rows us places ends xs ns (new_links d b (e ∷ log) e.number)) (sym k) (kept_placed places ends xs (p ∙ ap (map (place_in rows)) k) q (subst (λ us. AreTails VersionsOf us rows ends) k tails) pointers)
