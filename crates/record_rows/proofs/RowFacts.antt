-- What holds of each record of a log, kind by kind: a link's parent has a record, and numbers of entries are below the log's length.
use Rattle.std.proofs.Common.{◌≡◌, ℕ, zero, suc, ◌<◌, ◌≤◌, Bool, true, eqb, List, [], ◌∷◌, ◌++◌, length, map, Some, refl, ap, subst, inl, inr, eq-eqb, arith, length-append}
use Rattle.std.specs.List.{AllByRecursion, slice_get, list_any, flat_map}
use Rattle.std.proofs.lemmas.Bool.{false≢true, or_left, or_right, or_cases}
use Rattle.op_model.specs.declared.base.Dataset.{Dataset}
use Rattle.op_model.specs.declared.base.Base.{Base}
use Rattle.op_model.specs.declared.base.Edge.{Edge}
use Rattle.op_model.specs.declared.entry.Changed.{Changed}
use Rattle.op_model.specs.declared.entry.Entry.{Entry}
use Rattle.op_model.specs.Chunks.{layers, members}
use Rattle.op_model.specs.Labels.{new_among}
use Rattle.op_model.specs.Operations.{first_entry, next_entry, entry_of}
use Rattle.op_model.specs.Legal.{Legal}
use Rattle.record_rows.specs.Rows.{Row, HeaderRow, SupervoxelRow, ChunkRow, NodeRow, LinkRow, EdgeRow, ChangeRow, ItemRow, EntryRow, Node, Link, Item}
use Rattle.record_rows.specs.Chains.{is_node}
use Rattle.record_rows.specs.LogRows.{marks, chunks, layer_chunks, children_of, links_of, new_node, layer_nodes, new_nodes, new_links, new_edges, entry_rows, base_rows, rows_of}
use Rattle.record_rows.proofs.DifferLemmas.{all_append, all_more, all_each, all_map, all_flat}

-- what holds of all records holds of the one at a place
pub all_at : (P : Row → Type 0) (rows : List Row) → AllByRecursion P rows → (p : ℕ) (row : Row) → slice_get rows p ≡ Some row → P row
all_at P [] a p row h = cc
all_at P (r ∷ rows) a zero row h = let q : r ≡ row = cc in subst P q a.0
all_at P (r ∷ rows) a (suc p) row h = all_at P rows a.1 p row h

module _ (d : Dataset) (b : Base) (P : Row → Type 0) where
  pub all_base : P (HeaderRow d (length b.supervoxels) (length (chunks d b))) → AllByRecursion (λ v. P (SupervoxelRow v)) b.supervoxels → AllByRecursion (λ c. P (ChunkRow c)) (chunks d b) → AllByRecursion P (base_rows d b)
  unfolding base_rows
  all_base h vs cs = (h, all_append P (map SupervoxelRow b.supervoxels) (map ChunkRow (chunks d b)) (all_map SupervoxelRow P b.supervoxels vs) (all_map ChunkRow P (chunks d b) cs))

  pub all_entry : (log : List Entry) (e : Entry) → ((x : Edge) → P (EdgeRow e.number x)) → ((i : Item) → P (ItemRow i)) → ((c : Changed) → P (ChangeRow e.number c))
      → AllByRecursion (λ n. P (NodeRow n)) (new_nodes d b (e ∷ log) e.number) → AllByRecursion (λ l. P (LinkRow l)) (new_links d b (e ∷ log) e.number) → P (EntryRow e) → AllByRecursion P (entry_rows d b log e)
  unfolding entry_rows
  all_entry log e edge item change nodes links entry =
      all_append P _ _ (all_map (EdgeRow e.number) P (new_edges d b log e) (all_each (λ x. P (EdgeRow e.number x)) (new_edges d b log e) edge))
      (all_append P _ _ (all_map NodeRow P (new_nodes d b (e ∷ log) e.number) nodes)
      (all_append P _ _ (all_map LinkRow P (new_links d b (e ∷ log) e.number) links)
      (all_append P _ _ (all_map ItemRow P (marks e.number e.asked) (all_each (λ i. P (ItemRow i)) (marks e.number e.asked) item))
      (all_append P _ _ (all_map (ChangeRow e.number) P e.changed (all_each (λ c. P (ChangeRow e.number c)) e.changed change)) (entry, tt)))))

pub any_left : {X : Type 0} (test : X → Bool) (xs ys : List X) → list_any test xs ≡ true → list_any test (xs ++ ys) ≡ true
any_left test [] ys h = absurd (false≢true h)
any_left test (x ∷ xs) ys h = elim (or_cases (test x) (list_any test xs) h) [ inl e ↦ or_left (test x) _ e | inr g ↦ or_right (test x) _ (any_left test xs ys g) ]

pub any_right : {X : Type 0} (test : X → Bool) (xs ys : List X) → list_any test ys ≡ true → list_any test (xs ++ ys) ≡ true
any_right test [] ys h = h
any_right test (x ∷ xs) ys h = or_right (test x) _ (any_right test xs ys h)

any_map : (id : ℕ) (ns : List Node) → list_any (λ n. eqb n.id id) ns ≡ true → list_any (is_node id) (map NodeRow ns) ≡ true
unfolding is_node
any_map id [] h = h
any_map id (n ∷ ns) h = elim (or_cases (eqb n.id id) (list_any (λ n. eqb n.id id) ns) h) [ inl e ↦ or_left (eqb n.id id) _ e | inr g ↦ or_right (eqb n.id id) _ (any_map id ns g) ]

-- among these nodes is the link's parent
abbrev Among : List Node → Link → Type 0
Among ns l = list_any (λ n. eqb n.id l.parent) ns ≡ true

-- the parent of a link has a record
abbrev pub HasParent : List Row → Row → Type 0
HasParent rows (LinkRow l) = list_any (is_node l.parent) rows ≡ true
HasParent rows row = Unit {0}

has_more : (rows more : List Row) (row : Row) → HasParent rows row → HasParent (rows ++ more) row
has_more rows more (LinkRow l) h = any_left (is_node l.parent) rows more h
has_more rows more row h = tt

module _ (d : Dataset) (b : Base) where
  links_among : (log : List Entry) (layer : ℕ) (ns : List Node) → AllByRecursion (Among ns) (flat_map (links_of d b log layer) ns)
  unfolding links_of
  links_among log layer [] = tt
  links_among log layer (n ∷ ns) =
      all_append (Among (n ∷ ns)) (links_of d b log layer n) (flat_map (links_of d b log layer) ns)
      (all_map (λ c. record { child = c; parent = n.id; entry = n.made }) (Among (n ∷ ns)) (children_of d b log layer n.leaves)
      (all_each (λ c. Among (n ∷ ns) (record { child = c; parent = n.id; entry = n.made })) (children_of d b log layer n.leaves) (λ c. or_left (eqb n.id n.id) _ (eq-eqb n.id n.id refl))))
      (all_more (Among ns) (Among (n ∷ ns)) (flat_map (links_of d b log layer) ns) (λ l a. or_right (eqb n.id l.parent) _ a) (links_among log layer ns))

  layers_among : (log : List Entry) (k : ℕ) (ls : List ℕ) → AllByRecursion (Among (flat_map (layer_nodes d b log k) ls)) (flat_map (λ layer. flat_map (links_of d b log layer) (layer_nodes d b log k layer)) ls)
  layers_among log k [] = tt
  layers_among log k (layer ∷ ls) =
      let here : List Node = layer_nodes d b log k layer in
      let rest : List Node = flat_map (layer_nodes d b log k) ls in
      all_append (Among (here ++ rest)) (flat_map (links_of d b log layer) here) (flat_map (λ j. flat_map (links_of d b log j) (layer_nodes d b log k j)) ls)
      (all_more (Among here) (Among (here ++ rest)) (flat_map (links_of d b log layer) here) (λ l a. any_left (λ n. eqb n.id l.parent) here rest a) (links_among log layer here))
      (all_more (Among rest) (Among (here ++ rest)) (flat_map (λ j. flat_map (links_of d b log j) (layer_nodes d b log k j)) ls) (λ l a. any_right (λ n. eqb n.id l.parent) here rest a) (layers_among log k ls))

  pub entry_parents : (log : List Entry) (e : Entry) → AllByRecursion (HasParent (entry_rows d b log e)) (entry_rows d b log e)
  unfolding entry_rows new_nodes new_links
  entry_parents log e =
      all_entry d b (HasParent (entry_rows d b log e)) log e (λ x. tt) (λ i. tt) (λ c. tt)
      (all_each (λ n. Unit {0}) (new_nodes d b (e ∷ log) e.number) (λ n. tt))
      (all_more (Among (new_nodes d b (e ∷ log) e.number)) (λ l. HasParent (entry_rows d b log e) (LinkRow l)) (new_links d b (e ∷ log) e.number)
      (λ l a. any_right (is_node l.parent) (map (EdgeRow e.number) (new_edges d b log e)) _ (any_left (is_node l.parent) (map NodeRow (new_nodes d b (e ∷ log) e.number)) _ (any_map l.parent (new_nodes d b (e ∷ log) e.number) a)))
      (layers_among (e ∷ log) e.number (layers d)))
      tt

  has_right : (rows more : List Row) (row : Row) → HasParent more row → HasParent (rows ++ more) row
  has_right rows more (LinkRow l) h = any_right (is_node l.parent) rows more h
  has_right rows more row h = tt

  all_parents : (log : List Entry) → AllByRecursion (HasParent (rows_of d b log)) (rows_of d b log)
  unfolding rows_of
  all_parents [] = all_base d b (HasParent (base_rows d b)) tt (all_each (λ v. Unit {0}) b.supervoxels (λ v. tt)) (all_each (λ c. Unit {0}) (chunks d b) (λ c. tt))
  all_parents (e ∷ log) =
      all_append (HasParent (rows_of d b (e ∷ log))) (rows_of d b log) (entry_rows d b log e)
      (all_more (HasParent (rows_of d b log)) (HasParent (rows_of d b (e ∷ log))) (rows_of d b log) (has_more (rows_of d b log) (entry_rows d b log e)) (all_parents log))
      (all_more (HasParent (entry_rows d b log e)) (HasParent (rows_of d b (e ∷ log))) (entry_rows d b log e) (has_right (rows_of d b log) (entry_rows d b log e)) (entry_parents log e))

  -- the parent of a link has a record
  pub parent_known : (log : List Entry) (p : ℕ) (l : Link) → slice_get (rows_of d b log) p ≡ Some (LinkRow l) → list_any (is_node l.parent) (rows_of d b log) ≡ true
  parent_known log p l h = all_at (HasParent (rows_of d b log)) (rows_of d b log) (all_parents log) p (LinkRow l) h

-- an entry's number, and that of the entry that made a node, is below this
abbrev pub IsNumbered : ℕ → Row → Type 0
IsNumbered k (NodeRow n) = n.made < k
IsNumbered k (EntryRow e) = e.number < k
IsNumbered k row = Unit {0}

numbered_more : (j k : ℕ) → j ≤ k → (row : Row) → IsNumbered j row → IsNumbered k row
numbered_more j k l (NodeRow n) h = let m : n.made < j = h in omega arith
numbered_more j k l (EntryRow e) h = let m : e.number < j = h in omega arith
numbered_more j k l row h = tt

module _ (d : Dataset) (b : Base) where
  pub nodes_made : (log : List Entry) (k : ℕ) → AllByRecursion (λ n. n.made ≡ k) (new_nodes d b log k)
  unfolding new_nodes layer_nodes new_node
  nodes_made log k =
      all_flat (layer_nodes d b log k) (λ n. n.made ≡ k) (layers d)
      (all_each (λ l. AllByRecursion (λ n. n.made ≡ k) (layer_nodes d b log k l)) (layers d)
      (λ l. all_flat (λ c. map (new_node d b log k l) (new_among d b log l (members d b l c))) (λ n. n.made ≡ k) (layer_chunks d b l)
      (all_each (λ c. AllByRecursion (λ n. n.made ≡ k) (map (new_node d b log k l) (new_among d b log l (members d b l c)))) (layer_chunks d b l)
      (λ c. all_map (new_node d b log k l) (λ n. n.made ≡ k) (new_among d b log l (members d b l c)) (all_each (λ v. k ≡ k) (new_among d b log l (members d b l c)) (λ v. refl))))))

  number_is : (e : Entry) (log : List Entry) → Legal d b (e ∷ log) → e.number ≡ length log
  unfolding first_entry next_entry entry_of
  number_is e [] legal = ap (λ f. f.number) legal.0
  number_is e (f ∷ log) legal = ap (λ g. g.number) legal.0.2

  entry_numbered : (log : List Entry) (e : Entry) → e.number ≡ length log → AllByRecursion (IsNumbered (length (e ∷ log))) (entry_rows d b log e)
  entry_numbered log e is =
      all_entry d b (IsNumbered (length (e ∷ log))) log e (λ x. tt) (λ i. tt) (λ c. tt)
      (all_more (λ n. n.made ≡ e.number) (λ n. n.made < length (e ∷ log)) (new_nodes d b (e ∷ log) e.number) (λ n m. omega arith) (nodes_made (e ∷ log) e.number))
      (all_each (λ l. Unit {0}) (new_links d b (e ∷ log) e.number) (λ l. tt))
      (omega arith)

  all_numbered : (log : List Entry) → Legal d b log → AllByRecursion (IsNumbered (length log)) (rows_of d b log)
  unfolding rows_of
  all_numbered [] legal = absurd legal
  all_numbered (e ∷ []) legal =
      all_append (IsNumbered 1) (base_rows d b) (entry_rows d b [] e)
      (all_base d b (IsNumbered 1) tt (all_each (λ v. Unit {0}) b.supervoxels (λ v. tt)) (all_each (λ c. Unit {0}) (chunks d b) (λ c. tt)))
      (entry_numbered [] e (number_is e [] legal))
  all_numbered (e ∷ f ∷ log) legal =
      all_append (IsNumbered (length (e ∷ f ∷ log))) (rows_of d b (f ∷ log)) (entry_rows d b (f ∷ log) e)
      (all_more (IsNumbered (length (f ∷ log))) (IsNumbered (length (e ∷ f ∷ log))) (rows_of d b (f ∷ log)) (numbered_more (length (f ∷ log)) (length (e ∷ f ∷ log)) (omega arith)) (all_numbered (f ∷ log) legal.1))
      (entry_numbered (f ∷ log) e (number_is e (f ∷ log) legal))

  entry_some : (log : List Entry) (e : Entry) → 1 ≤ length (entry_rows d b log e)
  unfolding entry_rows
  entry_some log e =
      let last : List Row = EntryRow e ∷ [] in
      some (map (EdgeRow e.number) (new_edges d b log e)) _ (some (map NodeRow (new_nodes d b (e ∷ log) e.number)) _ (some (map LinkRow (new_links d b (e ∷ log) e.number)) _
      (some (map ItemRow (marks e.number e.asked)) _ (some (map (ChangeRow e.number) e.changed) last (omega arith)))))
    where
      some : (xs ys : List Row) → 1 ≤ length ys → 1 ≤ length (xs ++ ys)
      some xs ys h = let s = length-append xs ys in omega arith

  -- a log has no more entries than records
  pub entries_few : (log : List Entry) → length log ≤ length (rows_of d b log)
  unfolding rows_of
  entries_few [] = omega arith
  entries_few (e ∷ log) =
      let s = length-append (rows_of d b log) (entry_rows d b log e) in
      let o = entry_some log e in
      let ih = entries_few log in
      omega arith

  -- the number of the entry that made a node
  pub made_below : (log : List Entry) → Legal d b log → (p : ℕ) (n : Node) → slice_get (rows_of d b log) p ≡ Some (NodeRow n) → n.made < length log
  made_below log legal p n h = all_at (IsNumbered (length log)) (rows_of d b log) (all_numbered log legal) p (NodeRow n) h

  -- the number of an entry
  pub number_below : (log : List Entry) → Legal d b log → (p : ℕ) (e : Entry) → slice_get (rows_of d b log) p ≡ Some (EntryRow e) → e.number < length log
  number_below log legal p e h = all_at (IsNumbered (length log)) (rows_of d b log) (all_numbered log legal) p (EntryRow e) h
