-- Entry by entry, each record of a node is of one that is still there, or has been retired.
use Rattle.std.proofs.Common.{◌≡◌, ℕ, zero, suc, ◌+◌, ◌-◌, ◌<◌, ◌≤◌, Bool, true, false, ◌||◌, ◌&&◌, ltb, List, [], ◌∷◌, ◌++◌, length, map, Some, refl, sym, ◌∙◌, ap, subst, inl, inr, ◌⊎◌, arith}
use Rattle.std.specs.List.{slice_get, list_any, AllByRecursion, flat_map}
use Rattle.std.proofs.lemmas.Bool.{false≢true, lt-ltb, ltb-true}
use Rattle.op_model.specs.declared.base.Dataset.{Dataset}
use Rattle.op_model.specs.declared.base.Base.{Base}
use Rattle.op_model.specs.declared.entry.Entry.{Entry}
use Rattle.graph_model.specs.Lists.{has}
use Rattle.graph_model.proofs.ListLemmas.{filter_only, has_head, has_tail, has_cases, has_none}
use Rattle.op_model.specs.Chunks.{top, layers, layers_from, members, chunk}
use Rattle.op_model.specs.Labels.{component, node, touches, new_among, is_new, is_empty, least}
use Rattle.op_model.specs.Valid.{IsDataset, IsBase}
use Rattle.op_model.specs.Legal.{Legal}
use Rattle.op_model.proofs.LegalLemmas.{ascending_has, map_has}
use Rattle.op_model.proofs.LabelLemmas.{members_in, own_component, least_component, least_new, least_member}
use Rattle.record_rows.proofs.LinkLemmas.{Among, among_has, among_map, among_flat, of_component, same_node}
use Rattle.record_rows.proofs.GrowthLemmas.{slice_get-append}
use Rattle.record_rows.specs.Rows.{Row, NodeRow, LinkRow, EdgeRow, ChangeRow, ItemRow, EntryRow, Node}
use Rattle.record_rows.specs.Chains.{retires}
use Rattle.record_rows.specs.LogRows.{rows_of, base_rows, entry_rows, new_nodes, new_links, new_edges, layer_nodes, layer_chunks, new_node, marks}
use Rattle.record_rows.proofs.EntryRecords.{number_told}
use Rattle.record_rows.proofs.RowFacts.{all_at, all_base, all_entry, any_left, any_right, number_below}
use Rattle.layer_laws.specs.Levels.{leaves}
use Rattle.layer_laws.proofs.StepLemmas.{leaves_node}
use Rattle.layer_laws.proofs.RemakeLemmas.{told_before, same_leaves, same_node as same_node_of}
use Rattle.current_nodes.specs.Current.{IsCurrent, UnretiredAreCurrent, CurrentAreUnretired}

from_first : (first more layer : ℕ) → has (layers_from first more) layer ≡ true → first ≤ layer
unfolding layers_from
from_first first zero layer h = has_none layer h
from_first first (suc more) layer h = elim (has_cases first (layers_from (first + 1) more) layer h) [ inl e ↦ omega arith | inr t ↦ (let l : first + 1 ≤ layer = from_first (first + 1) more layer t in omega arith) ]

layer_two : (d : Dataset) (layer : ℕ) → has (layers d) layer ≡ true → 2 ≤ layer
unfolding layers
layer_two d layer h = from_first 2 (top d - 1) layer h

module _ (d : Dataset) (b : Base) (valid : IsDataset d) (base : IsBase d b) where
  -- of a node's record: an entry of the log has retired it, or it is one of the log's nodes
  abbrev Fine : List Entry → Row → Type 0
  Fine log (NodeRow n) = (list_any (retires n) (rows_of d b log) ≡ true) ⊎ IsCurrent d b log n
  Fine log row = Unit {0}

  all_append : {X : Type 0} (P : X → Type 0) (xs ys : List X) → AllByRecursion P xs → AllByRecursion P ys → AllByRecursion P (xs ++ ys)
  all_append P [] ys a c = c
  all_append P (x ∷ xs) ys a c = (a.0, all_append P xs ys a.1 c)

  all_map : {X Y : Type 0} (f : X → Y) (P : Y → Type 0) (xs : List X) → AllByRecursion (λ x. P (f x)) xs → AllByRecursion P (map f xs)
  all_map f P [] a = tt
  all_map f P (x ∷ xs) a = (a.0, all_map f P xs a.1)

  all_flat : {X Y : Type 0} (f : X → List Y) (P : Y → Type 0) (xs : List X) → AllByRecursion (λ x. AllByRecursion P (f x)) xs → AllByRecursion P (flat_map f xs)
  all_flat f P [] a = tt
  all_flat f P (x ∷ xs) a = all_append P (f x) (flat_map f xs) a.0 (all_flat f P xs a.1)

  all_has : (P : ℕ → Type 0) (xs : List ℕ) → ((x : ℕ) → has xs x ≡ true → P x) → AllByRecursion P xs
  all_has P [] f = tt
  all_has P (x ∷ xs) f = (f x (has_head x xs), all_has P xs (λ y h. f y (has_tail x xs y h)))

  all_each : {X : Type 0} (P : X → Type 0) (xs : List X) → ((x : X) → P x) → AllByRecursion P xs
  all_each P [] f = tt
  all_each P (x ∷ xs) f = (f x, all_each P xs f)

  all_more : {X : Type 0} (P Q : X → Type 0) (xs : List X) → ((x : X) → P x → Q x) → AllByRecursion P xs → AllByRecursion Q xs
  all_more P Q [] f a = tt
  all_more P Q (x ∷ xs) f a = (f x a.0, all_more P Q xs f a.1)

  -- the newest entry's nodes
  news : (log : List Entry) (k : ℕ) → k < length log → AllByRecursion (IsCurrent d b log) (new_nodes d b log k)
  unfolding new_nodes layer_nodes new_node new_among
  news log k l =
      all_flat (layer_nodes d b log k) (IsCurrent d b log) (layers d)
      (all_has (λ layer. AllByRecursion (IsCurrent d b log) (layer_nodes d b log k layer)) (layers d)
      (λ layer hl. all_flat (λ c. map (new_node d b log k layer) (new_among d b log layer (members d b layer c))) (IsCurrent d b log) (layer_chunks d b layer)
      (all_each (λ c. AllByRecursion (IsCurrent d b log) (map (new_node d b log k layer) (new_among d b log layer (members d b layer c)))) (layer_chunks d b layer)
      (λ c. all_map (new_node d b log k layer) (IsCurrent d b log) (new_among d b log layer (members d b layer c))
      (all_has (λ v. IsCurrent d b log (new_node d b log k layer v)) (new_among d b log layer (members d b layer c))
      (λ v h. record { layer = layer; v = v; has_layer = hl; known = (members_in d b layer c v (filter_only _ (members d b layer c) v h).0).0; leaves_are = refl; id_is = refl; made_before = l }))))))

  -- an entry that touches a node retires it
  entry_retires : (e : Entry) (log : List Entry) (n : Node) → n.made < e.number → touches e.changed n.leaves ≡ true → list_any (retires n) (entry_rows d b log e) ≡ true
  unfolding entry_rows retires
  entry_retires e log n l t =
      any_right (retires n) (map (EdgeRow e.number) (new_edges d b log e)) _ (any_right (retires n) (map NodeRow (new_nodes d b (e ∷ log) e.number)) _ (any_right (retires n) (map LinkRow (new_links d b (e ∷ log) e.number)) _
      (any_right (retires n) (map ItemRow (marks e.number e.asked)) _ (any_right (retires n) (map (ChangeRow e.number) e.changed) _ (last l t)))))
    where
      last : n.made < e.number → touches e.changed n.leaves ≡ true → list_any (retires n) (EntryRow e ∷ []) ≡ true
      last l t = let q : ltb n.made e.number ≡ true = lt-ltb n.made e.number l in rw (q, t) refl

  -- and leaves any other as it was
  still : (e f : Entry) (log : List Entry) (n : Node) → touches e.changed n.leaves ≡ false → IsCurrent d b (f ∷ log) n → IsCurrent d b (e ∷ f ∷ log) n
  still e f log n t c =
      let two : 2 ≤ c.layer = layer_two d c.layer c.has_layer in
      let leaf : leaves d b (f ∷ log) c.layer c.v ≡ component d b (f ∷ log) c.layer c.v = leaves_node d b valid.layout (f ∷ log) c.layer c.v two in
      let u : touches e.changed (leaves d b (f ∷ log) c.layer c.v) ≡ false = ap (touches e.changed) (leaf ∙ sym c.leaves_are) ∙ t in
      record {
        layer = c.layer;
        v = c.v;
        has_layer = c.has_layer;
        known = c.known;
        leaves_are = c.leaves_are ∙ (sym leaf ∙ (sym (same_leaves d b valid.layout e (f ∷ log) c.layer c.v c.known u) ∙ leaves_node d b valid.layout (e ∷ f ∷ log) c.layer c.v two));
        id_is = c.id_is ∙ sym (same_node_of d b valid.layout e f log c.layer c.v two c.known u);
        made_before = (let m = c.made_before in omega arith);
      }

  older : (e f : Entry) (log : List Entry) → Legal d b (e ∷ f ∷ log) → (row : Row) → Fine (f ∷ log) row → Fine (e ∷ f ∷ log) row
  unfolding rows_of
  older e f log legal (NodeRow n) (inl r) = inl (any_left (retires n) (rows_of d b (f ∷ log)) (entry_rows d b (f ∷ log) e) r)
  older e f log legal (NodeRow n) (inr c) = go (touches e.changed n.leaves) refl
    where
      go : (t : Bool) → touches e.changed n.leaves ≡ t → (list_any (retires n) (rows_of d b (f ∷ log) ++ entry_rows d b (f ∷ log) e) ≡ true) ⊎ IsCurrent d b (e ∷ f ∷ log) n
      go true t = inl (any_right (retires n) (rows_of d b (f ∷ log)) (entry_rows d b (f ∷ log) e) (entry_retires e (f ∷ log) n (let k : e.number ≡ length (f ∷ log) = number_told d b e (f ∷ log) legal in let m = c.made_before in omega arith) t))
      go false t = inr (still e f log n t c)
  older e f log legal row x = tt

  newer : (e : Entry) (log : List Entry) → Legal d b (e ∷ log) → AllByRecursion (Fine (e ∷ log)) (entry_rows d b log e)
  newer e log legal =
      all_entry d b (Fine (e ∷ log)) log e (λ x. tt) (λ i. tt) (λ c. tt)
      (all_more (IsCurrent d b (e ∷ log)) (λ n. Fine (e ∷ log) (NodeRow n)) (new_nodes d b (e ∷ log) e.number) (λ n c. inr c) (news (e ∷ log) e.number (let k : e.number ≡ length log = number_told d b e log legal in omega arith)))
      (all_each (λ l. Unit {0}) (new_links d b (e ∷ log) e.number) (λ l. tt))
      tt

  fine : (log : List Entry) → Legal d b log → AllByRecursion (Fine log) (rows_of d b log)
  unfolding rows_of
  fine [] legal = absurd legal
  fine (e ∷ []) legal =
      all_append (Fine (e ∷ [])) (base_rows d b) (entry_rows d b [] e)
      (all_base d b (Fine (e ∷ [])) tt (all_each (λ v. Unit {0}) b.supervoxels (λ v. tt)) (all_each (λ c. Unit {0}) _ (λ c. tt)))
      (newer e [] legal)
  fine (e ∷ f ∷ log) legal =
      all_append (Fine (e ∷ f ∷ log)) (rows_of d b (f ∷ log)) (entry_rows d b (f ∷ log) e)
      (all_more (Fine (f ∷ log)) (Fine (e ∷ f ∷ log)) (rows_of d b (f ∷ log)) (older e f log legal) (fine (f ∷ log) legal.1))
      (newer e (f ∷ log) legal)

pub unretired : UnretiredAreCurrent
unretired d b valid base log p n legal h none = go (all_at (Fine d b valid base log) (rows_of d b log) (fine d b valid base log legal) p (NodeRow n) h)
  where
    go : (list_any (retires n) (rows_of d b log) ≡ true) ⊎ IsCurrent d b log n → IsCurrent d b log n
    go (inl t) = absurd (false≢true (sym none ∙ t))
    go (inr c) = c

-- this record stands somewhere among these
abbrev Stands : List Row → Row → Type 0
Stands rows row = (p : ℕ) × (slice_get rows p ≡ Some row)

stands_left : (xs ys : List Row) (row : Row) → Stands xs row → Stands (xs ++ ys) row
stands_left xs ys row s = (s.0, slice_get-append xs ys s.0 row s.1)

stands_right : (xs ys : List Row) (row : Row) → Stands ys row → Stands (xs ++ ys) row
stands_right [] ys row s = s
stands_right (x ∷ xs) ys row s = let t = stands_right xs ys row s in (suc t.0, t.1)

stands_map : (n : Node) (ns : List Node) → Among n ns → Stands (map NodeRow ns) (NodeRow n)
stands_map n [] a = absurd a
stands_map n (m ∷ ns) (inl e) = (0, ap (λ x. Some (NodeRow x)) e)
stands_map n (m ∷ ns) (inr a) = let t = stands_map n ns a in (suc t.0, t.1)

none_any : (test : Row → Bool) (rows : List Row) → ((q : ℕ) (row : Row) → slice_get rows q ≡ Some row → test row ≡ true → ⊥) → list_any test rows ≡ false
none_any test [] f = refl
none_any test (r ∷ rows) f = go (test r) refl (none_any test rows (λ q row h t. f (suc q) row h t))
  where
    go : (c : Bool) → test r ≡ c → list_any test rows ≡ false → (c || list_any test rows) ≡ false
    go true e n = absurd (f 0 r refl e)
    go false e n = n

none_both : (test : Row → Bool) (xs ys : List Row) → list_any test xs ≡ false → list_any test ys ≡ false → list_any test (xs ++ ys) ≡ false
none_both test [] ys f g = g
none_both test (x ∷ xs) ys f g = go (test x) f (λ e. none_both test xs ys e g)
  where
    go : (c : Bool) → (c || list_any test xs) ≡ false → (list_any test xs ≡ false → list_any test (xs ++ ys) ≡ false) → (c || list_any test (xs ++ ys)) ≡ false
    go true e h = e
    go false e h = h e

retires_later : (n : Node) (row : Row) → retires n row ≡ true → (e : Entry) × (row ≡ EntryRow e) × (n.made < e.number) × (touches e.changed n.leaves ≡ true)
unfolding retires
retires_later n (EntryRow e) t = let p = and_both (ltb n.made e.number) (touches e.changed n.leaves) t in (e, refl, ltb-true n.made e.number p.0, p.1)
  where
    and_both : (x y : Bool) → (x && y) ≡ true → (x ≡ true) × (y ≡ true)
    and_both true y t = (refl, t)
    and_both false y t = absurd (false≢true t)
retires_later n row t = absurd (false≢true t)

none_map : {X : Type 0} (test : Row → Bool) (f : X → Row) (xs : List X) → ((x : X) → test (f x) ≡ false) → list_any test (map f xs) ≡ false
none_map test f [] h = refl
none_map test f (x ∷ xs) h = rw (h x) (none_map test f xs h)

module _ (d : Dataset) (b : Base) (valid : IsDataset d) (base : IsBase d b) where
  -- what is wanted: a record of the node, which no entry retired
  abbrev Found : List Entry → ℕ → ℕ → Type 0
  Found log layer v =
      (p : ℕ) × (n : Node) × (slice_get (rows_of d b log) p ≡ Some (NodeRow n)) × (n.id ≡ node d b log layer v) × (n.leaves ≡ component d b log layer v) × (list_any (retires n) (rows_of d b log) ≡ false)

  -- a node that the entry doesn't touch isn't retired by its records
  entry_spares : (e : Entry) (log : List Entry) (n : Node) → touches e.changed n.leaves ≡ false → list_any (retires n) (entry_rows d b log e) ≡ false
  unfolding entry_rows retires
  entry_spares e log n t =
      none_both (retires n) (map (EdgeRow e.number) (new_edges d b log e)) _ (none_map (retires n) (EdgeRow e.number) (new_edges d b log e) (λ x. refl))
      (none_both (retires n) (map NodeRow (new_nodes d b (e ∷ log) e.number)) _ (none_map (retires n) NodeRow (new_nodes d b (e ∷ log) e.number) (λ x. refl))
      (none_both (retires n) (map LinkRow (new_links d b (e ∷ log) e.number)) _ (none_map (retires n) LinkRow (new_links d b (e ∷ log) e.number) (λ x. refl))
      (none_both (retires n) (map ItemRow (marks e.number e.asked)) _ (none_map (retires n) ItemRow (marks e.number e.asked) (λ x. refl))
      (none_both (retires n) (map (ChangeRow e.number) e.changed) _ (none_map (retires n) (ChangeRow e.number) e.changed (λ x. refl)) (last (ltb n.made e.number))))))
    where
      last : (c : Bool) → ((c && touches e.changed n.leaves) || false) ≡ false
      last true = rw t refl
      last false = refl

  new_found : (e : Entry) (log : List Entry) (layer v : ℕ) → Legal d b (e ∷ log) → has (layers d) layer ≡ true → has b.supervoxels v ≡ true → is_new d b (e ∷ log) layer v ≡ true → Found (e ∷ log) layer v
  unfolding rows_of entry_rows new_nodes layer_nodes layer_chunks new_node
  new_found e log layer v legal hl hv nv =
      let whole : List Entry = e ∷ log in
      let w : ℕ = least d b whole layer v in
      let c : ℕ = chunk d layer v in
      let k : ℕ = e.number in
      let hw : has b.supervoxels w ≡ true = (members_in d b layer c w (least_member d b whole layer v hv)).0 in
      let in_w = of_component d b valid base whole layer v w (subst (λ vs. has vs w ≡ true) (least_component d b whole layer v hv) (own_component d b whole layer w hw)) in
      let n : Node = new_node d b whole k layer w in
      let among : Among n (new_nodes d b whole k) =
      among_flat (layer_nodes d b whole k) layer n (layers d) (among_has layer (layers d) hl)
      (among_flat (λ x. map (new_node d b whole k layer) (new_among d b whole layer (members d b layer x))) c n (layer_chunks d b layer)
      (among_has c (layer_chunks d b layer) (ascending_has (map (chunk d layer) b.supervoxels) c (map_has (chunk d layer) b.supervoxels v hv)))
      (among_map (new_node d b whole k layer) w (new_among d b whole layer (members d b layer c)) (among_has w (new_among d b whole layer (members d b layer c)) (least_new d b whole layer v hv nv)))) in
      let s : Stands (rows_of d b log ++ entry_rows d b log e) (NodeRow n) =
      stands_right (rows_of d b log) _ (NodeRow n) (stands_right (map (EdgeRow e.number) (new_edges d b log e)) _ (NodeRow n) (stands_left (map NodeRow (new_nodes d b whole k)) _ (NodeRow n) (stands_map n (new_nodes d b whole k) among))) in (
        s.0,
        n,
        s.1,
        sym (same_node d b valid base e log legal layer v w hv in_w.0 in_w.1 in_w.2).0,
        least_component d b whole layer v hv,
        none_any (retires n) (rows_of d b log ++ entry_rows d b log e) (λ q row h t.
            let r = retires_later n row t in
            let m : r.0.number < length (e ∷ log) = number_below d b (e ∷ log) legal q r.0 (subst (λ x. slice_get (rows_of d b (e ∷ log)) q ≡ Some x) r.1 h) in
            let z : e.number ≡ length log = number_told d b e log legal in
            let l : n.made < r.0.number = r.2 in
            omega arith),
      )

  old_found : (e f : Entry) (log : List Entry) (layer v : ℕ) → has (layers d) layer ≡ true → has b.supervoxels v ≡ true → is_new d b (e ∷ f ∷ log) layer v ≡ false → Found (f ∷ log) layer v → Found (e ∷ f ∷ log) layer v
  unfolding rows_of is_new is_empty
  old_found e f log layer v hl hv nv g =
      let two : 2 ≤ layer = layer_two d layer hl in
      let p : ℕ = g.0 in
      let n : Node = g.1 in
      let new_leaf : leaves d b (e ∷ f ∷ log) layer v ≡ component d b (e ∷ f ∷ log) layer v = leaves_node d b valid.layout (e ∷ f ∷ log) layer v two in
      let leaf : leaves d b (f ∷ log) layer v ≡ component d b (f ∷ log) layer v = leaves_node d b valid.layout (f ∷ log) layer v two in
      let u : touches e.changed (leaves d b (f ∷ log) layer v) ≡ false = sym (told_before d b valid.layout e (f ∷ log) layer v hv) ∙ (ap (touches e.changed) new_leaf ∙ nv) in (
        p,
        n,
        slice_get-append (rows_of d b (f ∷ log)) (entry_rows d b (f ∷ log) e) p (NodeRow n) g.2,
        g.3 ∙ sym (same_node_of d b valid.layout e f log layer v two hv u),
        g.4 ∙ (sym leaf ∙ (sym (same_leaves d b valid.layout e (f ∷ log) layer v hv u) ∙ new_leaf)),
        none_both (retires n) (rows_of d b (f ∷ log)) (entry_rows d b (f ∷ log) e) g.5 (entry_spares e (f ∷ log) n (ap (touches e.changed) (g.4 ∙ sym leaf) ∙ u)),
      )

  found : (e : Entry) (log : List Entry) (layer v : ℕ) → Legal d b (e ∷ log) → has (layers d) layer ≡ true → has b.supervoxels v ≡ true → Found (e ∷ log) layer v
  unfolding is_new is_empty
  found e [] layer v legal hl hv = new_found e [] layer v legal hl hv refl
  found e (f ∷ log) layer v legal hl hv = go (is_new d b (e ∷ f ∷ log) layer v) refl (found f log layer v legal.1 hl hv)
    where
      go : (c : Bool) → is_new d b (e ∷ f ∷ log) layer v ≡ c → Found (f ∷ log) layer v → Found (e ∷ f ∷ log) layer v
      go true nv g = new_found e (f ∷ log) layer v legal hl hv nv
      go false nv g = old_found e f log layer v hl hv nv g

pub current : CurrentAreUnretired
current d b valid base e log layer v legal hl hv = found d b valid base e log layer v legal hl hv
