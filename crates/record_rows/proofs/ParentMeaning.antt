-- What the records of a log tell of the parent of a supervoxel or a node at a prefix.
use Rattle.std.proofs.Common.{◌≡◌, ℕ, ◌^◌, ◌<◌, ◌≤◌, Bool, true, false, cond, ◌&&◌, eqb, ltb, List, [], ◌∷◌, ◌++◌, length, map, Option, Some, None, refl, sym, ◌∙◌, ap, inl, inr, arith, length-append, append-nil}
use Rattle.std.specs.List.{AllByRecursion, filter, filter_map, cons_option, flat_map, last_or}
use Rattle.std.specs.Option.{option_map}
use Rattle.std.proofs.lemmas.Bool.{cases_Bool, ltb-true, lt-ltb, false≢true}
use Rattle.op_model.specs.declared.base.Dataset.{Dataset}
use Rattle.op_model.specs.declared.base.Base.{Base}
use Rattle.op_model.specs.declared.entry.Entry.{Entry}
use Rattle.graph_model.specs.Lists.{has}
use Rattle.op_model.specs.Chunks.{layers}
use Rattle.op_model.specs.Labels.{component, new_among, node}
use Rattle.op_model.specs.Chunks.{members}
use Rattle.op_model.specs.Operations.{first_entry, next_entry, entry_of}
use Rattle.op_model.specs.Valid.{IsDataset, IsBase}
use Rattle.op_model.specs.Legal.{Legal}
use Rattle.op_model.proofs.HistoryLemmas.{legal_prefix}
use Rattle.record_rows.specs.Rows.{Row, SupervoxelRow, ChunkRow, NodeRow, LinkRow, EdgeRow, ChangeRow, ItemRow, Link}
use Rattle.record_rows.specs.Chains.{is_node}
use Rattle.record_rows.specs.Words.{place_from}
use Rattle.record_rows.specs.LogRows.{marks, chunks, layer_chunks, new_node, children_of, links_of, layer_nodes, new_nodes, new_links, new_edges, entry_rows, base_rows, rows_of}
use Rattle.record_rows.specs.Versions.{version_below, parent_place, child_at}
use Rattle.record_rows.proofs.Listings.{all_links}
use Rattle.record_rows.proofs.DifferLemmas.{all_append, all_more, all_each, all_map, all_flat}
use Rattle.record_rows.proofs.LinkLemmas.{parents_of, last_parent}

-- a link of this child by an entry below the prefix
below : ℕ → ℕ → Link → Bool
below id prefix l = eqb l.child id && ltb l.entry prefix

picked_append : (id prefix : ℕ) (xs ys : List Row) → filter_map (version_below id prefix) (xs ++ ys) ≡ filter_map (version_below id prefix) xs ++ filter_map (version_below id prefix) ys
picked_append id prefix [] ys = refl
picked_append id prefix (x ∷ xs) ys = go (version_below id prefix x) (picked_append id prefix xs ys)
  where
    go : (o : Option Link) → filter_map (version_below id prefix) (xs ++ ys) ≡ filter_map (version_below id prefix) xs ++ filter_map (version_below id prefix) ys
        → cons_option o (filter_map (version_below id prefix) (xs ++ ys)) ≡ cons_option o (filter_map (version_below id prefix) xs) ++ filter_map (version_below id prefix) ys
    go None ih = ih
    go (Some l) ih = ap (λ ls. l ∷ ls) ih

picked_none : {X : Type 0} (id prefix : ℕ) (f : X → Row) → ((x : X) → version_below id prefix (f x) ≡ None) → (xs : List X) → filter_map (version_below id prefix) (map f xs) ≡ []
picked_none id prefix f n [] = refl
picked_none id prefix f n (x ∷ xs) = rw (n x) (picked_none id prefix f n xs)

picked_links : (id prefix : ℕ) (ls : List Link) → filter_map (version_below id prefix) (map LinkRow ls) ≡ filter (below id prefix) ls
unfolding version_below below
picked_links id prefix [] = refl
picked_links id prefix (l ∷ ls) = go (eqb l.child id && ltb l.entry prefix) (picked_links id prefix ls)
  where
    rest : List Link
    rest = filter (below id prefix) ls

    go : (t : Bool) → filter_map (version_below id prefix) (map LinkRow ls) ≡ rest → cons_option (cond t (Some l) None) (filter_map (version_below id prefix) (map LinkRow ls)) ≡ cond t (l ∷ rest) rest
    go true ih = ap (λ ms. l ∷ ms) ih
    go false ih = ih

filter_append : (p : Link → Bool) (xs ys : List Link) → filter p (xs ++ ys) ≡ filter p xs ++ filter p ys
filter_append p [] ys = refl
filter_append p (x ∷ xs) ys = go (p x) (filter_append p xs ys)
  where
    go : (t : Bool) → filter p (xs ++ ys) ≡ filter p xs ++ filter p ys → cond t (x ∷ filter p (xs ++ ys)) (filter p (xs ++ ys)) ≡ cond t (x ∷ filter p xs) (filter p xs) ++ filter p ys
    go true ih = ap (λ zs. x ∷ zs) ih
    go false ih = ih

module _ (d : Dataset) (b : Base) where
  picked_entry : (id prefix : ℕ) (log : List Entry) (e : Entry) → filter_map (version_below id prefix) (entry_rows d b log e) ≡ filter (below id prefix) (new_links d b (e ∷ log) e.number)
  unfolding entry_rows version_below
  picked_entry id prefix log e =
      let pick : List Row → List Link = filter_map (version_below id prefix) in
      let edges_none : pick (map (EdgeRow e.number) (new_edges d b log e)) ≡ [] = picked_none id prefix (EdgeRow e.number) (λ x. refl) (new_edges d b log e) in
      let nodes_none : pick (map NodeRow (new_nodes d b (e ∷ log) e.number)) ≡ [] = picked_none id prefix NodeRow (λ x. refl) (new_nodes d b (e ∷ log) e.number) in
      let items_none : pick (map ItemRow (marks e.number e.asked)) ≡ [] = picked_none id prefix ItemRow (λ x. refl) (marks e.number e.asked) in
      let changes_none : pick (map (ChangeRow e.number) e.changed) ≡ [] = picked_none id prefix (ChangeRow e.number) (λ x. refl) e.changed in
      simp (picked_append, edges_none, nodes_none, items_none, changes_none, picked_links id prefix (new_links d b (e ∷ log) e.number), append-nil)

  picked_base : (id prefix : ℕ) → filter_map (version_below id prefix) (base_rows d b) ≡ []
  unfolding base_rows version_below
  picked_base id prefix =
      let pick : List Row → List Link = filter_map (version_below id prefix) in
      let supervoxels_none : pick (map SupervoxelRow b.supervoxels) ≡ [] = picked_none id prefix SupervoxelRow (λ x. refl) b.supervoxels in
      let chunks_none : pick (map ChunkRow (chunks d b)) ≡ [] = picked_none id prefix ChunkRow (λ x. refl) (chunks d b) in
      simp (picked_append, supervoxels_none, chunks_none)

  picked_rows : (id prefix : ℕ) (log : List Entry) → filter_map (version_below id prefix) (rows_of d b log) ≡ filter (below id prefix) (all_links d b log)
  unfolding rows_of all_links
  picked_rows id prefix [] = picked_base id prefix
  picked_rows id prefix (e ∷ log) =
      picked_append id prefix (rows_of d b log) (entry_rows d b log e)
      ∙ (ap (λ ls. ls ++ filter_map (version_below id prefix) (entry_rows d b log e)) (picked_rows id prefix log)
      ∙ (ap (λ ls. filter (below id prefix) (all_links d b log) ++ ls) (picked_entry id prefix log e)
      ∙ sym (filter_append (below id prefix) (all_links d b log) (new_links d b (e ∷ log) e.number))))

  pub links_entry : (log : List Entry) (k : ℕ) → AllByRecursion (λ m. m.entry ≡ k) (new_links d b log k)
  unfolding new_links layer_nodes links_of new_node
  links_entry log k =
      all_flat (λ l. flat_map (links_of d b log l) (layer_nodes d b log k l)) (λ m. m.entry ≡ k) (layers d)
      (all_each (λ l. AllByRecursion (λ m. m.entry ≡ k) (flat_map (links_of d b log l) (layer_nodes d b log k l))) (layers d)
      (λ l. all_flat (links_of d b log l) (λ m. m.entry ≡ k) (layer_nodes d b log k l)
      (all_flat (λ c. map (new_node d b log k l) (new_among d b log l (members d b l c))) (λ n. AllByRecursion (λ m. m.entry ≡ k) (links_of d b log l n)) (layer_chunks d b l)
      (all_each (λ c. AllByRecursion (λ n. AllByRecursion (λ m. m.entry ≡ k) (links_of d b log l n)) (map (new_node d b log k l) (new_among d b log l (members d b l c)))) (layer_chunks d b l)
      (λ c. all_map (new_node d b log k l) (λ n. AllByRecursion (λ m. m.entry ≡ k) (links_of d b log l n)) (new_among d b log l (members d b l c))
      (all_each (λ v. AllByRecursion (λ m. m.entry ≡ k) (links_of d b log l (new_node d b log k l v))) (new_among d b log l (members d b l c))
      (λ v. all_map (λ x. record { child = x; parent = node d b log l v; entry = k }) (λ m. m.entry ≡ k) (children_of d b log l (component d b log l v))
      (all_each (λ x. k ≡ k) (children_of d b log l (component d b log l v)) (λ x. refl)))))))))

filter_above : (id prefix k : ℕ) (ls : List Link) → prefix ≤ k → AllByRecursion (λ m. m.entry ≡ k) ls → filter (below id prefix) ls ≡ []
unfolding below
filter_above id prefix k [] h a = refl
filter_above id prefix k (l ∷ ls) h a =
    let z : ltb l.entry prefix ≡ false = elim (cases_Bool (ltb l.entry prefix)) [ inl t ↦ absurd (let q : l.entry < prefix = ltb-true l.entry prefix t in let e : l.entry ≡ k = a.0 in omega arith) | inr f ↦ f ] in
    go (eqb l.child id) (ltb l.entry prefix) z (filter_above id prefix k ls h a.1)
  where
    go : (s t : Bool) → t ≡ false → filter (below id prefix) ls ≡ [] → cond (s && t) (l ∷ filter (below id prefix) ls) (filter (below id prefix) ls) ≡ []
    go true true z ih = absurd (false≢true (sym z))
    go true false z ih = ih
    go false t z ih = ih

filter_below : (id prefix : ℕ) (ls : List Link) → AllByRecursion (λ m. m.entry < prefix) ls → filter (below id prefix) ls ≡ filter (λ l. eqb l.child id) ls
unfolding below
filter_below id prefix [] a = refl
filter_below id prefix (l ∷ ls) a = go (eqb l.child id) (ltb l.entry prefix) (lt-ltb l.entry prefix a.0) (filter_below id prefix ls a.1)
  where
    go : (s t : Bool) → t ≡ true → filter (below id prefix) ls ≡ filter (λ l. eqb l.child id) ls
        → cond (s && t) (l ∷ filter (below id prefix) ls) (filter (below id prefix) ls) ≡ cond s (l ∷ filter (λ l. eqb l.child id) ls) (filter (λ l. eqb l.child id) ls)
    go true true z ih = ap (λ ms. l ∷ ms) ih
    go true false z ih = absurd (false≢true z)
    go false t z ih = ih

last_or_map : (g : ℕ → ℕ) (o : Option ℕ) (xs : List ℕ) → last_or (option_map g o) (map g xs) ≡ option_map g (last_or o xs)
last_or_map g o [] = refl
last_or_map g o (x ∷ xs) = last_or_map g (Some x) xs

map_parent : (g : ℕ → ℕ) (ls : List Link) → map (λ l. g l.parent) ls ≡ map g (map (λ l. l.parent) ls)
map_parent g [] = refl
map_parent g (l ∷ ls) = ap (λ ps. g l.parent ∷ ps) (map_parent g ls)

module _ (d : Dataset) (b : Base) where
  number_is : (e : Entry) (log : List Entry) → Legal d b (e ∷ log) → e.number ≡ length log
  unfolding first_entry next_entry entry_of
  number_is e [] legal = ap (λ f. f.number) legal.0
  number_is e (f ∷ log) legal = ap (λ g. g.number) legal.0.2

  entries_below : (e : Entry) (log : List Entry) → Legal d b (e ∷ log) → AllByRecursion (λ m. m.entry < length (e ∷ log)) (all_links d b (e ∷ log))
  unfolding all_links
  entries_below e [] legal =
      all_more (λ m. m.entry ≡ e.number) (λ m. m.entry < 1) (new_links d b (e ∷ []) e.number) (λ m q. (let n : e.number ≡ 0 = number_is e [] legal in omega arith)) (links_entry d b (e ∷ []) e.number)
  entries_below e (f ∷ log) legal =
      all_append (λ m. m.entry < length (e ∷ f ∷ log)) (all_links d b (f ∷ log)) (new_links d b (e ∷ f ∷ log) e.number)
      (all_more (λ m. m.entry < length (f ∷ log)) (λ m. m.entry < length (e ∷ f ∷ log)) (all_links d b (f ∷ log)) (λ m q. omega arith) (entries_below f log legal.1))
      (all_more (λ m. m.entry ≡ e.number) (λ m. m.entry < length (e ∷ f ∷ log)) (new_links d b (e ∷ f ∷ log) e.number) (λ m q. (let n : e.number ≡ length (f ∷ log) = number_is e (f ∷ log) legal in omega arith)) (links_entry d b (e ∷ f ∷ log) e.number))

  length-append_le : (newer : List Entry) (log : List Entry) → length log ≤ length (newer ++ log)
  length-append_le newer log = omega (arith, length-append newer log)

  links_prefix : (newer : List Entry) (e : Entry) (log : List Entry) (id : ℕ) → Legal d b (newer ++ e ∷ log)
      → filter (below id (length (e ∷ log))) (all_links d b (newer ++ e ∷ log)) ≡ filter (below id (length (e ∷ log))) (all_links d b (e ∷ log))
  unfolding all_links
  links_prefix [] e log id legal = refl
  links_prefix (f ∷ newer) e log id legal =
      let older : List Entry = newer ++ e ∷ log in
      let n : f.number ≡ length older = number_is f older legal in
      let l : length (e ∷ log) ≤ length older = length-append_le newer (e ∷ log) in
      filter_append (below id (length (e ∷ log))) (all_links d b older) (new_links d b (f ∷ older) f.number)
      ∙ (ap (λ ls. filter (below id (length (e ∷ log))) (all_links d b older) ++ ls) (filter_above id (length (e ∷ log)) f.number (new_links d b (f ∷ older) f.number) (omega arith) (links_entry d b (f ∷ older) f.number))
      ∙ (append-nil (filter (below id (length (e ∷ log))) (all_links d b older))
      ∙ links_prefix newer e log id (older_legal f newer e log legal)))
    where
      older_legal : (f : Entry) (newer : List Entry) (e : Entry) (log : List Entry) → Legal d b (f ∷ (newer ++ e ∷ log)) → Legal d b (newer ++ e ∷ log)
      older_legal f [] e log legal = legal.1
      older_legal f (g ∷ newer) e log legal = legal.1

  -- the parent that the records give at the length of a prefix is the node of the layer at the prefix
  pub parent_means : (valid : IsDataset d) (base : IsBase d b) (newer : List Entry) (e : Entry) (log : List Entry) (l v : ℕ) → Legal d b (newer ++ e ∷ log)
      → (has (layers d) l ≡ true) × (l < 2 ^ 8) → has b.supervoxels v ≡ true
      → parent_place (rows_of d b (newer ++ e ∷ log)) (child_at d b (e ∷ log) l v) (length (e ∷ log))
      ≡ Some (place_from (is_node (node d b (e ∷ log) l v)) 0 (rows_of d b (newer ++ e ∷ log)))
  unfolding parent_place parents_of
  parent_means valid base newer e log l v legal p hv =
      let whole : List Entry = newer ++ e ∷ log in
      let rows : List Row = rows_of d b whole in
      let prefix : ℕ = length (e ∷ log) in
      let id : ℕ = child_at d b (e ∷ log) l v in
      let place : ℕ → ℕ = λ x. place_from (is_node x) 0 rows in
      let old : Legal d b (e ∷ log) = legal_prefix d b newer e log legal in
      let links : filter_map (version_below id prefix) rows ≡ filter (λ m. eqb m.child id) (all_links d b (e ∷ log)) =
      picked_rows d b id prefix whole ∙ (links_prefix newer e log id legal ∙ filter_below id prefix (all_links d b (e ∷ log)) (entries_below e log old)) in
      ap (λ ls. last_or None (map (λ m. place m.parent) ls)) links
      ∙ (ap (last_or None) (map_parent place (filter (λ m. eqb m.child id) (all_links d b (e ∷ log))))
      ∙ (last_or_map place None (parents_of id (all_links d b (e ∷ log)))
      ∙ ap (option_map place) (last_parent d b valid base e log old l v p hv)))
