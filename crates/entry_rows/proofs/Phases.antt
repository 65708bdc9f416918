-- What each kind of the entry's records is put by, and what it comes to.
use Rattle.std.proofs.Common.{◌≡◌, ℕ, ◌+◌, ◌<◌, false, List, [], ◌∷◌, ◌++◌, length, length-append, map, None, refl, sym, ◌∙◌, ap, subst, arith, append_assoc}
use Rattle.std.specs.List.{list_any}
use Rattle.op_model.specs.declared.base.Dataset.{Dataset}
use Rattle.op_model.specs.declared.base.Base.{Base}
use Rattle.op_model.specs.declared.base.Edge.{Edge}
use Rattle.op_model.specs.declared.entry.Entry.{Entry}
use Rattle.record_rows.specs.Rows.{Row, LinkRow, EdgeRow, ChangeRow, ItemRow, Node, Link, Item}
use Rattle.record_rows.specs.Chains.{change_in, item_in, entry_before}
use Rattle.record_rows.specs.LogRows.{entry_rows, marks, new_edges, new_links, new_nodes}
use Rattle.record_rows.specs.Words.{place_from}
use Rattle.record_rows.proofs.ImageLemmas.{length-map}
use Rattle.row_append.specs.Ends.{IsHeaded}
use Rattle.row_append.proofs.EndLaws.{headers_stay}
use Rattle.base_rows.specs.BaseRows.{ids_of}
use Rattle.base_rows.specs.declared.lists.BaseEdge.{BaseEdge}
use Rattle.base_rows.specs.declared.lists.BaseLink.{BaseLink}
use Rattle.grown_rows.specs.Growths.{Grown, IsGrowth}
use Rattle.grown_rows.specs.Aimed.{AreRetired, ChangesEnd, is_change_of, is_entry}
use Rattle.entry_rows.specs.declared.changes.EntryChange.{EntryChange}
use Rattle.entry_rows.specs.declared.lists.EntryLists.{EntryLists}
use Rattle.entry_rows.specs.Changes.{AreChanges}
use Rattle.entry_rows.specs.States.{link_by}
use Rattle.entry_rows.specs.Listed.{IsListed, NodesListed, LinksListed, RestListed, made_rows}
use Rattle.entry_rows.proofs.Behind.{nodes_behind, links_behind, changes_after, no_changes_after, item_place, change_place, before_place, none_after, retired_after}

map_map : {X Y Z : Type 0} (f : Y → Z) (g : X → Y) (xs : List X) → map (λ x. f (g x)) xs ≡ map f (map g xs)
map_map f g [] = refl
map_map f g (x ∷ xs) = ap (λ ys. f (g x) ∷ ys) (map_map f g xs)

-- the edges, nodes and links
module _ (old : List Row) (e : Entry) (es : List Edge) (ns : List Node) (ls : List Link) (is : List Item) (l : EntryLists) (listed : IsListed old e es ns ls is l) where
  abbrev edges : List Row
  edges = map (EdgeRow e.number) es

  pub edged : (g : Grown) → IsGrowth old (map (λ (x : BaseEdge). EdgeRow l.head.number x.edge) l.edges.items) g → IsGrowth old (map (EdgeRow e.number) es) g
  edged g h =
      subst (λ rs. IsGrowth old rs g)
      (ap (λ n. map (λ (x : BaseEdge). EdgeRow n x.edge) l.edges.items) (sym listed.head.number_is) ∙ (map_map (EdgeRow e.number) (λ (x : BaseEdge). x.edge) l.edges.items ∙ ap (map (EdgeRow e.number)) listed.edges_are)) h

  pub nodes_given : NodesListed l.head.number (old ++ map (EdgeRow e.number) es) l ns
  nodes_given = subst (λ n. NodesListed n (old ++ edges) l ns) listed.head.number_is (nodes_behind e.number old es l ns listed.headed listed.nodes)

  pub links_given : LinksListed (old ++ map (EdgeRow e.number) es) l ns
  links_given = links_behind e.number old es l ns listed.headed listed.links

  pub first_node : (tail n : ℕ) → tail ≡ length old → n ≡ length l.edges.items → tail + n ≡ length (old ++ map (EdgeRow e.number) es)
  first_node tail n t k =
      let a = length-append old edges in
      let b = length-map (EdgeRow e.number) es in
      let c : length es ≡ length l.edges.items = ap length (sym listed.edges_are) ∙ length-map (λ (x : BaseEdge). x.edge) l.edges.items in
      omega (arith, a, b, c, t, k)

  pub linked_so : (more : List Row) (g : Grown) → IsGrowth old (more ++ map (λ (x : BaseLink). LinkRow (link_by l.head.number (l.kept.items ++ ids_of ns) (ids_of ns) x)) l.links.items) g → IsGrowth old (more ++ map LinkRow ls) g
  linked_so more g h =
      subst (λ rs. IsGrowth old (more ++ rs) g)
      (ap (λ n. map (λ (x : BaseLink). LinkRow (link_by n (l.kept.items ++ ids_of ns) (ids_of ns) x)) l.links.items) (sym listed.head.number_is)
      ∙ (map_map LinkRow (link_by e.number (l.kept.items ++ ids_of ns) (ids_of ns)) l.links.items ∙ ap (map LinkRow) listed.links_are)) h

-- the items, the changes and the entry's own record
module _ (old more : List Row) (e : Entry) (is : List Item) (l : EntryLists) (headed : IsHeaded old) (rest : RestListed (old ++ more) e is l) where
  abbrev its : List Row
  its = map ItemRow is

  abbrev chs : List Row
  chs = map (ChangeRow e.number) e.changed

  headed_all : IsHeaded (old ++ more)
  headed_all = headers_stay old more headed

  with_items : (old ++ more) ++ its ≡ old ++ (more ++ its)
  with_items = append_assoc old more its

  with_changes : ((old ++ more) ++ its) ++ chs ≡ old ++ ((more ++ its) ++ chs)
  with_changes = ap (λ rs. rs ++ chs) with_items ∙ append_assoc old (more ++ its) chs

  pub changes_given : (xs : List EntryChange) → xs ≡ l.changes.items → AreChanges (old ++ (more ++ map ItemRow is)) xs
  changes_given xs q = subst (λ ys. AreChanges (old ++ (more ++ its)) ys) (sym q) (subst (λ rs. AreChanges rs l.changes.items) with_items (changes_after (old ++ more) e is l headed_all rest))

  pub no_changes_given : ChangesEnd l.head.number (old ++ (more ++ map ItemRow is)) None
  no_changes_given =
      subst (λ n. list_any (is_change_of n) (old ++ (more ++ its)) ≡ false) rest.head.number_is
      (subst (λ rs. list_any (is_change_of e.number) rs ≡ false) with_items (no_changes_after (old ++ more) e is l headed_all rest))

  pub changed_so : (g : Grown) (xs : List EntryChange) → xs ≡ l.changes.items → IsGrowth old ((more ++ map ItemRow is) ++ map (λ (x : EntryChange). ChangeRow l.head.number x.changed) xs) g
      → IsGrowth old ((more ++ map ItemRow is) ++ map (ChangeRow e.number) e.changed) g
  changed_so g xs q h =
      subst (λ rs. IsGrowth old ((more ++ its) ++ rs) g)
      (ap (map (λ (x : EntryChange). ChangeRow l.head.number x.changed)) q
      ∙ (ap (λ n. map (λ (x : EntryChange). ChangeRow n x.changed) l.changes.items) (sym rest.head.number_is)
      ∙ (map_map (ChangeRow e.number) (λ (x : EntryChange). x.changed) l.changes.items ∙ ap (map (ChangeRow e.number)) rest.changes_are))) h

  pub items_found : (first : ℕ) → (length l.items.items ≡ 0 → first ≡ 0) → (0 < length l.items.items → first ≡ length (old ++ more))
      → place_from (item_in e.number) 0 (old ++ ((more ++ map ItemRow is) ++ map (ChangeRow e.number) e.changed)) ≡ first
  items_found first a b = ap (place_from (item_in e.number) 0) (sym with_changes) ∙ item_place (old ++ more) e is l headed_all rest first a b

  pub changes_found : (first : ℕ) → (length l.changes.items ≡ 0 → first ≡ 0) → (0 < length l.changes.items → first ≡ length (old ++ (more ++ map ItemRow is)))
      → place_from (change_in e.number) 0 (old ++ ((more ++ map ItemRow is) ++ map (ChangeRow e.number) e.changed)) ≡ first
  changes_found first a b =
      ap (place_from (change_in e.number) 0) (sym with_changes) ∙ change_place (old ++ more) e is l headed_all rest first a (λ k. b k ∙ ap length (sym with_items))

  pub before_found : place_from (entry_before e.number) 0 (old ++ ((more ++ map ItemRow is) ++ map (ChangeRow e.number) e.changed)) ≡ l.head.before
  before_found = ap (place_from (entry_before e.number) 0) (sym with_changes) ∙ before_place (old ++ more) e is l headed_all rest

  pub none_behind : list_any (is_entry (e.number + 1)) (old ++ ((more ++ map ItemRow is) ++ map (ChangeRow e.number) e.changed)) ≡ false
  none_behind = ap (list_any (is_entry (e.number + 1))) (sym with_changes) ∙ none_after (old ++ more) e is l headed_all rest

  pub retired_given : (places : List ℕ) → places ≡ l.retired.items → AreRetired e (old ++ ((more ++ map ItemRow is) ++ map (ChangeRow e.number) e.changed)) places
  retired_given places q =
      subst (λ ps. AreRetired e (old ++ ((more ++ its) ++ chs)) ps) (sym q) (subst (λ rs. AreRetired e rs l.retired.items) with_changes (retired_after (old ++ more) e is l headed_all rest))

-- the records of an entry behind a log
pub log_made : (d : Dataset) (b : Base) (log : List Entry) (e : Entry) → made_rows e (new_edges d b log e) (new_nodes d b (e ∷ log) e.number) (new_links d b (e ∷ log) e.number) (marks e.number e.asked) ≡ entry_rows d b log e
unfolding entry_rows
log_made d b log e = refl
