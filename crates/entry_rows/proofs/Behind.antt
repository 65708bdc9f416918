-- What is told of records stays behind more records of the entry.
use Rattle.std.proofs.Common.{◌≡◌, ℕ, zero, suc, ◌+◌, ◌<◌, Bool, true, false, List, [], ◌∷◌, ◌++◌, length, map, get_or, Some, None, refl, sym, ◌∙◌, ap, subst, arith, append_assoc}
use Rattle.std.specs.List.{AllByRecursion, slice_get, list_any, All}
use Rattle.std.proofs.lemmas.Bool.{eq-eqb}
use Rattle.std.proofs.lemmas.Option.{slice_get_within}
use Rattle.op_model.specs.declared.base.Edge.{Edge}
use Rattle.op_model.specs.declared.base.Pair.{Pair}
use Rattle.op_model.specs.declared.entry.Entry.{Entry}
use Rattle.op_model.specs.declared.entry.Changed.{Changed}
use Rattle.record_rows.specs.Rows.{Row, HeaderRow, SupervoxelRow, ChunkRow, NodeRow, LinkRow, EdgeRow, ChangeRow, ItemRow, EntryRow, Node, Link, Item}
use Rattle.record_rows.specs.Chains.{version_of, child_of, node_in, is_node, has_id, is_edge, change_of, change_in, item_in, entry_before, retires}
use Rattle.record_rows.specs.Words.{place_from}
use Rattle.record_rows.specs.Walks.{is_chunk}
use Rattle.record_rows.proofs.DifferLemmas.{all_append, all_map, all_each}
use Rattle.record_rows.proofs.RowFacts.{all_at}
use Rattle.record_rows.proofs.ImageLemmas.{length-map}
use Rattle.record_rows.proofs.TellLemmas.{length-words_of}
use Rattle.row_append.specs.Ends.{NodesIn, ChildrenOf, VersionsOf, owns, belongs, has_part, IsHeaded}
use Rattle.row_append.specs.Tails.{word_number}
use Rattle.row_append.proofs.EndLaws.{headers_stay}
use Rattle.row_append.proofs.FoundLemmas.{found_stays, found_last}
use Rattle.row_append.proofs.Leaving.{or_none, place_none}
use Rattle.base_rows.specs.BaseRows.{ids_of}
use Rattle.base_rows.proofs.Passing.{NonePass, none_both, none_map}
use Rattle.grown_rows.specs.Growths.{Grown, IsGrowth, IsWithin}
use Rattle.grown_rows.specs.Aimed.{AreRetired, ChangesEnd, is_change_of, is_entry, is_item_of}
use Rattle.entry_rows.specs.declared.changes.EntryChange.{EntryChange}
use Rattle.entry_rows.specs.declared.items.EntryItem.{EntryItem}
use Rattle.entry_rows.specs.declared.lists.EntryLists.{EntryLists}
use Rattle.entry_rows.specs.Changes.{IsAtChange, AreChanges}
use Rattle.entry_rows.specs.Retiring.{IsBefore}
use Rattle.entry_rows.specs.States.{AreItems}
use Rattle.entry_rows.specs.Listed.{IsListed, NodesListed, LinksListed, RestListed, made_rows}
use Rattle.entry_rows.proofs.Begins.{tails_stay}
use Rattle.entry_rows.proofs.ChangeSteps.{changes_stay_over}
use Rattle.entry_rows.proofs.EdgeSteps.{words_count}
use Rattle.entry_rows.proofs.LinkSteps.{at_more}
use Rattle.entry_rows.proofs.NodeSteps.{got}
use Rattle.entry_rows.proofs.RetireLemmas.{Retired, retired_more}

-- no entry, and no node but those that the entry of this number makes
abbrev pub Quiet : ℕ → Row → Type 0
Quiet n (EntryRow x) = ⊥
Quiet n (NodeRow m) = m.made ≡ n
Quiet n row = Unit {0}

pub quiet_before : (n : ℕ) (rows : List Row) → AllByRecursion (Quiet n) rows → IsBefore n rows
quiet_before n rows a = record {
  no_entry = λ p x h. all_at (Quiet n) rows a p (EntryRow x) h;
  made = λ p m h. all_at (Quiet n) rows a p (NodeRow m) h;
}

all_got : {X : Type 0} (P : X → Type 0) (xs : List X) → ((i : ℕ) (x : X) → slice_get xs i ≡ Some x → P x) → AllByRecursion P xs
all_got P [] f = tt
all_got P (x ∷ xs) f = (f 0 x refl, all_got P xs (λ i y h. f (suc i) y h))

-- edges
edge_parts : (n u : ℕ) (x : Edge) → (has_part (NodesIn u) (EdgeRow n x) ≡ false) × (has_part (ChildrenOf u) (EdgeRow n x) ≡ false) × (has_part (VersionsOf u) (EdgeRow n x) ≡ false)
    × (belongs (ChildrenOf u) (EdgeRow n x) ≡ false) × (belongs (VersionsOf u) (EdgeRow n x) ≡ false)
unfolding has_part owns belongs is_node has_id is_chunk node_in child_of version_of
edge_parts n u x = (refl, refl, refl, refl, refl)

edge_retires : (m : Node) (n : ℕ) (x : Edge) → retires m (EdgeRow n x) ≡ false
unfolding retires
edge_retires m n x = refl

-- behind the entry's edges
module _ (number : ℕ) (old : List Row) (es : List Edge) (l : EntryLists) (ns : List Node) (headed : IsHeaded old) where
  abbrev more : List Row
  more = map (EdgeRow number) es

  pub nodes_behind : NodesListed number old l ns → NodesListed number (old ++ map (EdgeRow number) es) l ns
  nodes_behind is = record {
    chunks = is.chunks;
    once = is.once;
    ends_are = tails_stay NodesIn is.chunks old more l.node_ends.items headed is.ends_are (λ i m. none_map (has_part (NodesIn (get_or is.chunks i 0))) (EdgeRow number) (λ x. (edge_parts number (get_or is.chunks i 0) x).0) es);
    pointers = is.pointers;
    made = record {
      count = is.made.count;
      each = λ i x n h k.
          let e = is.made.each i x n h k in (
            e.0,
            (
              none_both (belongs (ChildrenOf n.id)) old more e.1.0 (none_map (belongs (ChildrenOf n.id)) (EdgeRow number) (λ y. (edge_parts number n.id y).3) es),
              none_both (belongs (VersionsOf n.id)) old more e.1.1 (none_map (belongs (VersionsOf n.id)) (EdgeRow number) (λ y. (edge_parts number n.id y).4) es),
              none_both (retires n) old more e.1.2 (none_map (retires n) (EdgeRow number) (edge_retires n number) es),
            ),
          );
    };
  }

  pub links_behind : LinksListed old l ns → LinksListed (old ++ map (EdgeRow number) es) l ns
  links_behind is = record {
    ids = is.ids;
    once = is.once;
    kept_at = at_more has_id l.kept.items old more l.kept_places.items is.kept_at;
    ends_are = tails_stay VersionsOf l.kept.items old more l.kept_ends.items headed is.ends_are (λ i m. none_map (has_part (VersionsOf (get_or l.kept.items i 0))) (EdgeRow number) (λ x. (edge_parts number (get_or l.kept.items i 0) x).2) es);
    pointers = is.pointers;
    within = is.within;
    free = λ i m.
        let f = is.free i m in
        let u = get_or (ids_of ns) i 0 in (
          none_both (has_part (ChildrenOf u)) old more f.0 (none_map (has_part (ChildrenOf u)) (EdgeRow number) (λ x. (edge_parts number u x).1) es),
          none_both (has_part (VersionsOf u)) old more f.1 (none_map (has_part (VersionsOf u)) (EdgeRow number) (λ x. (edge_parts number u x).2) es),
        );
  }

-- which records are no items, changes or entries
edge_quiet : (n k : ℕ) (x : Edge) → (is_item_of k (EdgeRow n x) ≡ false) × (is_change_of k (EdgeRow n x) ≡ false) × (is_entry k (EdgeRow n x) ≡ false)
unfolding is_item_of is_change_of is_entry
edge_quiet n k x = (refl, refl, refl)

node_quiet : (k : ℕ) (p : Pair) (x : Node) → (is_item_of k (NodeRow x) ≡ false) × (is_change_of k (NodeRow x) ≡ false) × (is_entry k (NodeRow x) ≡ false) × (is_edge p (NodeRow x) ≡ false) × (change_of p (NodeRow x) ≡ false)
unfolding is_item_of is_change_of is_entry is_edge change_of
node_quiet k p x = (refl, refl, refl, refl, refl)

link_quiet : (k : ℕ) (p : Pair) (x : Link) → (is_item_of k (LinkRow x) ≡ false) × (is_change_of k (LinkRow x) ≡ false) × (is_entry k (LinkRow x) ≡ false) × (is_edge p (LinkRow x) ≡ false) × (change_of p (LinkRow x) ≡ false)
unfolding is_item_of is_change_of is_entry is_edge change_of
link_quiet k p x = (refl, refl, refl, refl, refl)

item_quiet : (k : ℕ) (p : Pair) (x : Item) → (is_change_of k (ItemRow x) ≡ false) × (is_entry k (ItemRow x) ≡ false) × (is_edge p (ItemRow x) ≡ false) × (change_of p (ItemRow x) ≡ false) × (change_in k (ItemRow x) ≡ false)
unfolding is_change_of is_entry is_edge change_of change_in
item_quiet k p x = (refl, refl, refl, refl, refl)

change_quiet : (n k : ℕ) (x : Changed) → (is_entry k (ChangeRow n x) ≡ false) × (item_in k (ChangeRow n x) ≡ false)
unfolding is_entry item_in
change_quiet n k x = (refl, refl)

-- behind records that are neither edges nor changes the places of changes stay
pub changes_behind : (rows more : List Row) (xs : List EntryChange) → IsHeaded rows → ((p : Pair) → NonePass (is_edge p) more) → ((p : Pair) → NonePass (change_of p) more) → AreChanges rows xs → AreChanges (rows ++ more) xs
changes_behind rows more xs headed edges changes are = record { each = each; differ = are.differ }
  where
    each : (i : ℕ) (x : EntryChange) → slice_get xs i ≡ Some x → IsAtChange (rows ++ more) x
    each i x h =
        let is = are.each i x h in
        record {
          edge = found_stays (is_edge x.changed.pair) rows more (subst (λ n. 0 < n) (sym is.edge) is.behind) ∙ is.edge;
          behind = is.behind;
          ends = changes_stay_over rows more x.changed.pair (word_number x.last) headed is.ends (edges x.changed.pair) (changes x.changed.pair);
          pointer = is.pointer;
          in_record = is.in_record;
        }

-- behind the entry's nodes and links
module _ (old : List Row) (e : Entry) (es : List Edge) (ns : List Node) (ls : List Link) (is : List Item) (l : EntryLists) (listed : IsListed old e es ns ls is l) where
  abbrev made : List Row
  made = (map (EdgeRow e.number) es ++ map NodeRow ns) ++ map LinkRow ls

  none_made : (test : Row → Bool) → ((x : Edge) → test (EdgeRow e.number x) ≡ false) → ((x : Node) → test (NodeRow x) ≡ false) → ((x : Link) → test (LinkRow x) ≡ false) → NonePass test made
  none_made test f g h =
      none_both test (map (EdgeRow e.number) es ++ map NodeRow ns) (map LinkRow ls) (none_both test (map (EdgeRow e.number) es) (map NodeRow ns) (none_map test (EdgeRow e.number) f es) (none_map test NodeRow g ns)) (none_map test LinkRow h ls)

  none_later : (test : Row → Bool) → ((x : Node) → test (NodeRow x) ≡ false) → ((x : Link) → test (LinkRow x) ≡ false) → NonePass test (map NodeRow ns ++ map LinkRow ls)
  none_later test g h = none_both test (map NodeRow ns) (map LinkRow ls) (none_map test NodeRow g ns) (none_map test LinkRow h ls)

  whole : (old ++ map (EdgeRow e.number) es) ++ (map NodeRow ns ++ map LinkRow ls) ≡ old ++ made
  whole =
      append_assoc old (map (EdgeRow e.number) es) (map NodeRow ns ++ map LinkRow ls)
      ∙ ap (λ rs. old ++ rs) (sym (append_assoc (map (EdgeRow e.number) es) (map NodeRow ns) (map LinkRow ls)))

  made_nodes : AllByRecursion (λ m. Quiet e.number (NodeRow m)) ns
  made_nodes = all_got (λ m. Quiet e.number (NodeRow m)) ns (λ i m h.
      let k : i < length l.nodes.items = (let a = listed.nodes.made.count in let b = slice_get_within ns i m h in omega (arith, a, b)) in
      let x = got l.nodes.items i k in
      (listed.nodes.made.each i x.0 m x.1 h).0.made_is)

  quiet : AllByRecursion (Quiet e.number) made
  quiet =
      all_append (Quiet e.number) (map (EdgeRow e.number) es ++ map NodeRow ns) (map LinkRow ls)
      (all_append (Quiet e.number) (map (EdgeRow e.number) es) (map NodeRow ns)
      (all_map (EdgeRow e.number) (Quiet e.number) es (all_each (λ x. Unit {0}) es (λ x. tt)))
      (all_map NodeRow (Quiet e.number) ns made_nodes))
      (all_map LinkRow (Quiet e.number) ls (all_each (λ x. Unit {0}) ls (λ x. tt)))

  headed_edges : IsHeaded (old ++ map (EdgeRow e.number) es)
  headed_edges = headers_stay old (map (EdgeRow e.number) es) listed.headed

  pub rest_begins : RestListed (old ++ ((map (EdgeRow e.number) es ++ map NodeRow ns) ++ map LinkRow ls)) e is l
  rest_begins = record {
    head = listed.head;
    items = listed.items;
    changes = subst (λ rs. AreChanges rs l.changes.items) whole
        (changes_behind (old ++ map (EdgeRow e.number) es) (map NodeRow ns ++ map LinkRow ls) l.changes.items headed_edges
        (λ p. none_later (is_edge p) (λ x. (node_quiet 0 p x).3) (λ x. (link_quiet 0 p x).3)) (λ p. none_later (change_of p) (λ x. (node_quiet 0 p x).4) (λ x. (link_quiet 0 p x).4)) listed.changes);
    changes_are = listed.changes_are;
    no_items = none_both (is_item_of e.number) old made listed.no_items (none_made (is_item_of e.number) (λ x. (edge_quiet e.number e.number x).0) (λ x. (node_quiet e.number any x).0) (λ x. (link_quiet e.number any x).0));
    no_changes = none_both (is_change_of e.number) old made listed.no_changes (none_made (is_change_of e.number) (λ x. (edge_quiet e.number e.number x).1) (λ x. (node_quiet e.number any x).1) (λ x. (link_quiet e.number any x).1));
    before = found_stays (entry_before e.number) old made (subst (λ n. 0 < n) (sym listed.before) listed.some_before) ∙ listed.before;
    some_before = listed.some_before;
    no_after = none_both (is_entry (e.number + 1)) old made listed.no_after
        (none_made (is_entry (e.number + 1)) (λ x. (edge_quiet e.number (e.number + 1) x).2) (λ x. (node_quiet (e.number + 1) any x).2) (λ x. (link_quiet (e.number + 1) any x).2));
    retired = retired_more e old made l.retired.items listed.headed (quiet_before e.number made quiet) listed.retired;
  }
    where
      any : Pair
      any = record { a = 0; b = 0 }

-- the first record that a test passes
pub first_found : (test : Row → Bool) (front : List Row) (row : Row) (rest : List Row) → IsHeaded front → NonePass test front → test row ≡ true → place_from test 0 (front ++ row ∷ rest) ≡ length front
first_found test front row rest headed none own =
    let some : 0 < length front = (let e = ap length headed.begins in omega (arith, e)) in
    let last : place_from test 0 (front ++ row ∷ []) ≡ length front = found_last test front row none own in
    ap (place_from test 0) (sym (append_assoc front (row ∷ []) rest)) ∙ (found_stays test (front ++ row ∷ []) rest (omega (arith, some, last)) ∙ last)

-- what passes one test passes another one
none_else : (f g : Row → Bool) → ((row : Row) → f row ≡ false → g row ≡ false) → (rows : List Row) → NonePass f rows → NonePass g rows
none_else f g h [] n = refl
none_else f g h (row ∷ rows) n = let a = or_none (f row) (list_any f rows) n in rw (h row a.0, none_else f g h rows a.1) refl

item_else : (n : ℕ) (row : Row) → is_item_of n row ≡ false → item_in n row ≡ false
unfolding is_item_of item_in
item_else n (HeaderRow d s c) f = refl
item_else n (SupervoxelRow v) f = refl
item_else n (ChunkRow k) f = refl
item_else n (NodeRow x) f = refl
item_else n (LinkRow x) f = refl
item_else n (EdgeRow k x) f = refl
item_else n (ChangeRow k x) f = refl
item_else n (ItemRow i) f = f
item_else n (EntryRow x) f = refl

change_else : (n : ℕ) (row : Row) → is_change_of n row ≡ false → change_in n row ≡ false
unfolding is_change_of change_in
change_else n (HeaderRow d s c) f = refl
change_else n (SupervoxelRow v) f = refl
change_else n (ChunkRow k) f = refl
change_else n (NodeRow x) f = refl
change_else n (LinkRow x) f = refl
change_else n (EdgeRow k x) f = refl
change_else n (ChangeRow k x) f = f
change_else n (ItemRow i) f = refl
change_else n (EntryRow x) f = refl

own_item : (n : ℕ) (i : Item) → i.entry ≡ n → item_in n (ItemRow i) ≡ true
unfolding item_in
own_item n i e = eq-eqb i.entry n e

own_change : (n : ℕ) (x : Changed) → change_in n (ChangeRow n x) ≡ true
unfolding change_in
own_change n x = eq-eqb n n refl

-- where the entry's first item stands
item_first : (n : ℕ) (rows behind : List Row) (xs : List EntryItem) (is : List Item) (first : ℕ) → IsHeaded rows → NonePass (item_in n) rows → NonePass (item_in n) behind → AreItems n xs is
    → (length xs ≡ 0 → first ≡ 0) → (0 < length xs → first ≡ length rows) → place_from (item_in n) 0 ((rows ++ map ItemRow is) ++ behind) ≡ first
item_first n rows behind xs [] first h f g are a b =
    place_none (item_in n) 0 ((rows ++ []) ++ behind) (none_both (item_in n) (rows ++ []) behind (none_both (item_in n) rows [] f refl) g) ∙ sym (a are.count)
item_first n rows behind xs (i ∷ is) first h f g are a b =
    let l : 0 < length xs = (let c = are.count in omega (arith, c)) in
    let x = got xs 0 l in
    ap (place_from (item_in n) 0) (append_assoc rows (map ItemRow (i ∷ is)) behind)
    ∙ (first_found (item_in n) rows (ItemRow i) (map ItemRow is ++ behind) h f (own_item n i (are.each 0 x.0 i x.1 refl).2) ∙ sym (b l))

-- and its first change
change_first : (n : ℕ) (rows : List Row) (xs : List EntryChange) (cs : List Changed) (first : ℕ) → IsHeaded rows → NonePass (change_in n) rows → map (λ (x : EntryChange). x.changed) xs ≡ cs
    → (length xs ≡ 0 → first ≡ 0) → (0 < length xs → first ≡ length rows) → place_from (change_in n) 0 (rows ++ map (ChangeRow n) cs) ≡ first
change_first n rows xs [] first h f are a b =
    place_none (change_in n) 0 (rows ++ []) (none_both (change_in n) rows [] f refl) ∙ sym (a (sym (length-map (λ (x : EntryChange). x.changed) xs) ∙ ap length are))
change_first n rows xs (c ∷ cs) first h f are a b =
    let e : length xs ≡ length (c ∷ cs) = sym (length-map (λ (x : EntryChange). x.changed) xs) ∙ ap length are in
    first_found (change_in n) rows (ChangeRow n c) (map (ChangeRow n) cs) h f (own_change n c) ∙ sym (b (omega (arith, e)))

-- behind the entry's items and changes
module _ (rows : List Row) (e : Entry) (is : List Item) (l : EntryLists) (headed : IsHeaded rows) (rest : RestListed rows e is l) where
  abbrev its : List Row
  its = map ItemRow is

  abbrev chs : List Row
  chs = map (ChangeRow e.number) e.changed

  no_pair : Pair
  no_pair = record { a = 0; b = 0 }

  pub changes_after : AreChanges (rows ++ map ItemRow is) l.changes.items
  changes_after = changes_behind rows its l.changes.items headed (λ p. none_map (is_edge p) ItemRow (λ x. (item_quiet 0 p x).2) is) (λ p. none_map (change_of p) ItemRow (λ x. (item_quiet 0 p x).3) is) rest.changes

  pub no_changes_after : ChangesEnd e.number (rows ++ map ItemRow is) None
  no_changes_after = none_both (is_change_of e.number) rows its rest.no_changes (none_map (is_change_of e.number) ItemRow (λ x. (item_quiet e.number no_pair x).0) is)

  pub item_place : (first : ℕ) → (length l.items.items ≡ 0 → first ≡ 0) → (0 < length l.items.items → first ≡ length rows)
      → place_from (item_in e.number) 0 ((rows ++ map ItemRow is) ++ map (ChangeRow e.number) e.changed) ≡ first
  item_place first a b =
      item_first e.number rows chs l.items.items is first headed (none_else (is_item_of e.number) (item_in e.number) (item_else e.number) rows rest.no_items)
      (none_map (item_in e.number) (ChangeRow e.number) (λ x. (change_quiet e.number e.number x).1) e.changed) rest.items a b

  pub change_place : (first : ℕ) → (length l.changes.items ≡ 0 → first ≡ 0) → (0 < length l.changes.items → first ≡ length (rows ++ map ItemRow is))
      → place_from (change_in e.number) 0 ((rows ++ map ItemRow is) ++ map (ChangeRow e.number) e.changed) ≡ first
  change_place first a b =
      change_first e.number (rows ++ its) l.changes.items e.changed first (headers_stay rows its headed)
      (none_both (change_in e.number) rows its (none_else (is_change_of e.number) (change_in e.number) (change_else e.number) rows rest.no_changes) (none_map (change_in e.number) ItemRow (λ x. (item_quiet e.number no_pair x).4) is))
      rest.changes_are a b

  pub before_place : place_from (entry_before e.number) 0 ((rows ++ map ItemRow is) ++ map (ChangeRow e.number) e.changed) ≡ l.head.before
  before_place =
      ap (place_from (entry_before e.number) 0) (append_assoc rows its chs)
      ∙ (found_stays (entry_before e.number) rows (its ++ chs) (subst (λ n. 0 < n) (sym rest.before) rest.some_before) ∙ rest.before)

  pub none_after : list_any (is_entry (e.number + 1)) ((rows ++ map ItemRow is) ++ map (ChangeRow e.number) e.changed) ≡ false
  none_after =
      none_both (is_entry (e.number + 1)) (rows ++ its) chs
      (none_both (is_entry (e.number + 1)) rows its rest.no_after (none_map (is_entry (e.number + 1)) ItemRow (λ x. (item_quiet (e.number + 1) no_pair x).1) is))
      (none_map (is_entry (e.number + 1)) (ChangeRow e.number) (λ x. (change_quiet e.number (e.number + 1) x).0) e.changed)

  quiet_rest : AllByRecursion (Quiet e.number) (its ++ chs)
  quiet_rest =
      all_append (Quiet e.number) its chs (all_map ItemRow (Quiet e.number) is (all_each (λ x. Unit {0}) is (λ x. tt)))
      (all_map (ChangeRow e.number) (Quiet e.number) e.changed (all_each (λ x. Unit {0}) e.changed (λ x. tt)))

  pub retired_after : AreRetired e ((rows ++ map ItemRow is) ++ map (ChangeRow e.number) e.changed) l.retired.items
  retired_after =
      subst (λ rs. AreRetired e rs l.retired.items) (sym (append_assoc rows its chs))
      (retired_more e rows (its ++ chs) l.retired.items headed (quiet_before e.number (its ++ chs) quiet_rest) rest.retired)

-- the places of retired nodes are there
pub retired_within : (e : Entry) (old more : List Row) (g : Grown) (places : List ℕ) → IsGrowth old more g → AreRetired e (old ++ more) places → All (IsWithin g) places
retired_within e old more g places growth r i d m =
    let h = all_get (Retired e (old ++ more)) places i d m r.all in
    let l = slice_get_within (old ++ more) (get_or places i d) (NodeRow h.0) h.1 in
    let c = words_count old more g growth in
    let w = length-words_of (old ++ more) in
    omega (arith, l, c, w)
  where
    all_get : (P : ℕ → Type 0) (xs : List ℕ) (i d : ℕ) → i < length xs → AllByRecursion P xs → P (get_or xs i d)
    all_get P [] i d m a = absurd (omega arith)
    all_get P (x ∷ xs) zero d m a = a.0
    all_get P (x ∷ xs) (suc i) d m a = all_get P xs i d (omega arith) a.1

-- the records of the entry, one kind behind the other
pub rows_made : (old : List Row) (e : Entry) (es : List Edge) (ns : List Node) (ls : List Link) (is : List Item)
    → (((((map (EdgeRow e.number) es ++ map NodeRow ns) ++ map LinkRow ls) ++ map ItemRow is) ++ map (ChangeRow e.number) e.changed) ++ EntryRow e ∷ []) ≡ made_rows e es ns ls is
rows_made old e es ns ls is = simp append_assoc
