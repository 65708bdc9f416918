-- The lists of an entry, from those of its records' kinds.
use Rattle.std.proofs.Common.{◌≡◌, ℕ, suc, ◌+◌, ◌≤◌, List, [], ◌∷◌, ◌++◌, length, length-append, map, Some, refl, sym, ◌∙◌, ap, subst, arith}
use Rattle.std.specs.List.{slice_get}
use Rattle.op_model.specs.declared.base.Dataset.{Dataset}
use Rattle.op_model.specs.declared.base.Base.{Base}
use Rattle.op_model.specs.declared.base.Edge.{Edge}
use Rattle.op_model.specs.declared.entry.Changed.{Changed}
use Rattle.op_model.specs.declared.entry.Entry.{Entry}
use Rattle.op_model.specs.declared.entry.Asked.TheVariants as asked
use Rattle.op_model.specs.declared.request.Edit.{Edit}
use Rattle.op_model.specs.Legal.{Legal}
use Rattle.op_model.specs.Operations.{entry_of, next_entry}
use Rattle.op_model.specs.Records.{records}
use Rattle.record_rows.specs.Rows.{Row, ChangeRow, EdgeRow, EntryRow, ItemRow, LinkRow, NodeRow, Link, Node}
use Rattle.record_rows.specs.LogRows.{entry_rows, marks, new_edges, new_links, new_nodes, rows_of}
use Rattle.record_rows.proofs.BaseCounts.{counted}
use Rattle.record_rows.proofs.ImageLemmas.{length-map}
use Rattle.row_append.specs.declared.tail.Tail.{Tail}
use Rattle.base_rows.specs.declared.lists.BaseEdge.{BaseEdge}
use Rattle.base_rows.specs.declared.lists.BaseLink.{BaseLink}
use Rattle.base_rows.specs.declared.lists.BaseNode.{BaseNode}
use Rattle.base_rows.specs.BaseRows.{ids_of}
use Rattle.entry_parts.specs.declared.made.MadeLink.{MadeLink}
use Rattle.entry_parts.specs.declared.made.MadeNode.{MadeNode}
use Rattle.entry_parts.specs.Made.{told_made, told_node}
use Rattle.entry_rows.specs.declared.changes.EntryChange.{EntryChange}
use Rattle.entry_rows.specs.declared.lists.EntryLists.{EntryLists}
use Rattle.entry_rows.specs.Listed.{EdgesListed, IsListed, LinksListed, NodesListed}
use Rattle.entry_rows.specs.LogLists.{AreLogLists, LogListsTell}
use Rattle.entry_rows.specs.States.{AreMade, link_by}
use Rattle.entry_lists.specs.Drafting.{IsDrafting}
use Rattle.entry_lists.specs.Links.{AreLinksPlaced}
use Rattle.entry_lists.specs.Parts.{AreEdgesPlaced, AreNodesPlaced, IsBehind}

pub edges_listed : (rows : List Row) (l : EntryLists) (xs : List BaseEdge) (tails : List Tail) (es : List Edge) → l.edges.items ≡ xs → l.edge_ends.items ≡ tails → AreEdgesPlaced rows xs tails es → EdgesListed rows l × (map (λ (x : BaseEdge). x.edge) l.edges.items ≡ es)
edges_listed rows l xs tails es p q a = go (subst (λ ts. AreEdgesPlaced rows l.edges.items ts es) (sym q) (subst (λ ys. AreEdgesPlaced rows ys tails es) (sym p) a))
  where
    go : AreEdgesPlaced rows l.edges.items l.edge_ends.items es → EdgesListed rows l × (map (λ (x : BaseEdge). x.edge) l.edges.items ≡ es)
    go b = (record { ids = b.ids; once = b.once; ends_are = b.ends_are; pointers = b.pointers; placed = b.placed; fresh = b.fresh }, b.edges_are)

pub nodes_listed : (number : ℕ) (rows : List Row) (l : EntryLists) (xs : List BaseNode) (tails : List Tail) (ns : List Node) → l.nodes.items ≡ xs → l.node_ends.items ≡ tails → AreNodesPlaced number rows xs tails ns → NodesListed number rows l ns
nodes_listed number rows l xs tails ns p q a = go (subst (λ ts. AreNodesPlaced number rows l.nodes.items ts ns) (sym q) (subst (λ ys. AreNodesPlaced number rows ys tails ns) (sym p) a))
  where
    go : AreNodesPlaced number rows l.nodes.items l.node_ends.items ns → NodesListed number rows l ns
    go b = record { chunks = b.chunks; once = b.once; ends_are = b.ends_are; pointers = b.pointers; made = b.made }

-- nodes that are made have the ids of those that they stand for
same_ids : (number : ℕ) (chunks : List ℕ) (rows : List Row) (xs : List BaseNode) (ns : List Node) → AreMade number chunks rows xs ns → map (λ (x : BaseNode). x.id) xs ≡ ids_of ns
same_ids number chunks rows xs ns are = go xs ns are.count (λ i x n h g. (are.each i x n h g).0.id)
  where
    both : (x y : ℕ) (us vs : List ℕ) → x ≡ y → us ≡ vs → x ∷ us ≡ y ∷ vs
    both x y us vs p q = cc

    go : (ys : List BaseNode) (ms : List Node) → length ys ≡ length ms → ((i : ℕ) (x : BaseNode) (n : Node) → slice_get ys i ≡ Some x → slice_get ms i ≡ Some n → n.id ≡ x.id) → map (λ (x : BaseNode). x.id) ys ≡ ids_of ms
    go [] [] c f = refl
    go [] (m ∷ ms) c f = absurd (omega (arith, c))
    go (y ∷ ys) [] c f = absurd (omega (arith, c))
    go (y ∷ ys) (m ∷ ms) c f = both y.id m.id (map (λ (x : BaseNode). x.id) ys) (ids_of ms) (sym (f 0 y m refl refl)) (go ys ms (omega (arith, c)) (λ i x n h g. f (suc i) x n h g))

pub links_listed : (number : ℕ) (rows : List Row) (l : EntryLists) (kept places : List ℕ) (ends : List Tail) (xs : List BaseLink) (ns : List Node) (ls : List Link)
    → l.kept.items ≡ kept → l.kept_places.items ≡ places → l.kept_ends.items ≡ ends → l.links.items ≡ xs → NodesListed number rows l ns → AreLinksPlaced number rows kept places ends xs ns ls
    → LinksListed rows l ns × (map (link_by number (l.kept.items ++ ids_of ns) (ids_of ns)) l.links.items ≡ ls)
links_listed number rows l kept places ends xs ns ls p q r s nodes a =
    go (subst (λ ks. AreLinksPlaced number rows ks l.kept_places.items l.kept_ends.items l.links.items ns ls) (sym p)
    (subst (λ ks. AreLinksPlaced number rows kept ks l.kept_ends.items l.links.items ns ls) (sym q)
    (subst (λ ts. AreLinksPlaced number rows kept places ts l.links.items ns ls) (sym r) (subst (λ ys. AreLinksPlaced number rows kept places ends ys ns ls) (sym s) a))))
  where
    go : AreLinksPlaced number rows l.kept.items l.kept_places.items l.kept_ends.items l.links.items ns ls → LinksListed rows l ns × (map (link_by number (l.kept.items ++ ids_of ns) (ids_of ns)) l.links.items ≡ ls)
    go b = (
      record { ids = same_ids number nodes.chunks rows l.nodes.items ns nodes.made; once = b.once; kept_at = b.kept_at; ends_are = b.ends_are; pointers = b.pointers; within = b.within; free = b.free },
      b.links_are,
    )

-- the entry of an edit follows the log
pub behind : (d : Dataset) (b : Base) (log : List Entry) (edit : Edit) (changed : List Changed) (client line at : ℕ) (nodes : List MadeNode) (links : List MadeLink) (retired words : List ℕ) → IsDrafting d b log edit changed client line at nodes links retired words
    → IsBehind d b log (next_entry d b log client line at edit) words
behind d b log edit changed client line at nodes links retired words i = record { image = i.image; legal = i.legal }

pub entry_is : (d : Dataset) (b : Base) (log : List Entry) (edit : Edit) (client line at : ℕ) → (e : Entry) → e ≡ next_entry d b log client line at edit → (e.asked ≡ asked.Edit edit) × (e.number ≡ length log) × (e.client ≡ client) × (e.line ≡ line) × (e.at ≡ at)
unfolding next_entry entry_of
entry_is d b log edit client line at e q = (ap (λ (f : Entry). f.asked) q, ap (λ (f : Entry). f.number) q, ap (λ (f : Entry). f.client) q, ap (λ (f : Entry). f.line) q, ap (λ (f : Entry). f.at) q)

-- it changes the pairs of its plan
pub changed_is : (d : Dataset) (b : Base) (log : List Entry) (edit : Edit) (changed : List Changed) (client line at : ℕ) (nodes : List MadeNode) (links : List MadeLink) (retired words : List ℕ) → IsDrafting d b log edit changed client line at nodes links retired words
    → (next_entry d b log client line at edit).changed ≡ changed
unfolding next_entry entry_of
changed_is d b log edit changed client line at nodes links retired words i = sym i.plan.2

row_parts : (d : Dataset) (b : Base) (log : List Entry) (e : Entry)
    → length (rows_of d b (e ∷ log)) ≡ length (rows_of d b log) + (length (new_edges d b log e) + length (new_nodes d b (e ∷ log) e.number) + length (new_links d b (e ∷ log) e.number) + length (marks e.number e.asked) + length e.changed + 1)
unfolding rows_of entry_rows
row_parts d b log e =
    let es : List Row = map (EdgeRow e.number) (new_edges d b log e) in
    let ns : List Row = map NodeRow (new_nodes d b (e ∷ log) e.number) in
    let ls : List Row = map LinkRow (new_links d b (e ∷ log) e.number) in
    let is : List Row = map ItemRow (marks e.number e.asked) in
    let cs : List Row = map (ChangeRow e.number) e.changed in
    let last : List Row = EntryRow e ∷ [] in
    let a = length-append (rows_of d b log) (es ++ (ns ++ (ls ++ (is ++ (cs ++ last))))) in
    let b1 = length-append es (ns ++ (ls ++ (is ++ (cs ++ last)))) in
    let b2 = length-append ns (ls ++ (is ++ (cs ++ last))) in
    let b3 = length-append ls (is ++ (cs ++ last)) in
    let b4 = length-append is (cs ++ last) in
    let b5 = length-append cs last in
    let c1 = length-map (EdgeRow e.number) (new_edges d b log e) in
    let c2 = length-map NodeRow (new_nodes d b (e ∷ log) e.number) in
    let c3 = length-map LinkRow (new_links d b (e ∷ log) e.number) in
    let c4 = length-map ItemRow (marks e.number e.asked) in
    let c5 = length-map (ChangeRow e.number) e.changed in
    omega (arith, a, b1, b2, b3, b4, b5, c1, c2, c3, c4, c5)

module _ (d : Dataset) (b : Base) (log : List Entry) (edit : Edit) (changed : List Changed) (client line at : ℕ) (nodes : List MadeNode) (links : List MadeLink) (retired words : List ℕ) (i : IsDrafting d b log edit changed client line at nodes links retired words) where
  abbrev e : Entry
  e = next_entry d b log client line at edit

  -- with its records there are no more than there may be
  pub rows_few : length (rows_of d b log) + (length (new_edges d b log e) + length (new_nodes d b (e ∷ log) e.number) + length (new_links d b (e ∷ log) e.number) + length (marks e.number e.asked) + length e.changed + 1) ≤ 16777216
  rows_few =
      let n = row_parts d b log e in
      let c : length (rows_of d b (e ∷ log)) ≡ records d b (e ∷ log) = counted d b (e ∷ log) i.image.dataset i.image.base i.legal in
      let f = i.fits in
      let g = i.image.dataset.capacity.1 in
      omega (arith, n, c, f, g)

  pub changed_few : length changed ≤ 16777216
  changed_few = let n = rows_few in let q = ap length (changed_is d b log edit changed client line at nodes links retired words i) in omega (arith, n, q)

  pub made_few : length links + length nodes ≤ 16777216
  made_few =
      let n = rows_few in
      let p = sym (length-map told_made nodes) ∙ (ap length i.nodes_are ∙ length-map told_node (new_nodes d b (e ∷ log) e.number)) in
      let q = sym (length-map (λ (x : MadeLink). record { child = x.child; parent = x.parent; entry = e.number }) links) ∙ ap length i.links_are.links_are in
      omega (arith, n, p, q)

  -- the lists have room behind the log
  pub lists_fit : (l : EntryLists) → AreLogLists d b log e l → length (rows_of d b log) + (length l.edges.items + length l.nodes.items + length l.links.items + length l.items.items + length l.changes.items + 1) ≤ 2147483648
  lists_fit l are =
      let n = rows_few in
      let p1 = sym (length-map (λ (x : BaseEdge). x.edge) l.edges.items) ∙ ap length are.edges_are in
      let p2 = are.nodes.made.count in
      let p3 = sym (length-map (link_by e.number (l.kept.items ++ ids_of (new_nodes d b (e ∷ log) e.number)) (ids_of (new_nodes d b (e ∷ log) e.number))) l.links.items) ∙ ap length are.links_are in
      let p4 = are.items.count in
      let p5 = sym (length-map (λ (x : EntryChange). x.changed) l.changes.items) ∙ ap length are.changes_are in
      omega (arith, n, p1, p2, p3, p4, p5)

  -- and tell its records
  pub lists_tell : LogListsTell → (l : EntryLists) → AreLogLists d b log e l → IsListed (rows_of d b log) e (new_edges d b log e) (new_nodes d b (e ∷ log) e.number) (new_links d b (e ∷ log) e.number) (marks e.number e.asked) l
  lists_tell law l are = go log i.image.legal (entry_is d b log edit client line at e refl).1 are
    where
      go : (old : List Entry) → Legal d b old → e.number ≡ length old → AreLogLists d b old e l
          → IsListed (rows_of d b old) e (new_edges d b old e) (new_nodes d b (e ∷ old) e.number) (new_links d b (e ∷ old) e.number) (marks e.number e.asked) l
      go [] legal n a = absurd legal
      go (f ∷ old) legal n a = law d b i.image.dataset i.image.base e f old l legal n a
