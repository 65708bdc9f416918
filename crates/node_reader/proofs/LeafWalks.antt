-- Nodes opened one by one: what their links' words tell, and what was found and what waits.
use Rattle.std.proofs.Common.{◌≡◌, ℕ, zero, suc, ◌+◌, ◌-◌, ◌*◌, ◌%◌, ◌^◌, ◌<◌, ◌≤◌, true, false, eqb, List, [], ◌∷◌, ◌++◌, length, get_or, Option, Some, None, refl, sym, ◌∙◌, ap, subst, inl, inr, ◌⊎◌, arith, eq-eqb, append-nil, append_assoc}
use Rattle.std.specs.Prelude.{IsPermutation}
use Rattle.std.specs.List.{AllByRecursion, flat_map, filter_map, slice_get, sum_by, cons_option}
use Rattle.std.proofs.lemmas.Bool.{eqb-true, false≢true}
use Rattle.std.proofs.lemmas.Grind.{flat_map-append}
use Rattle.std.proofs.lemmas.List.Elements.{All-from_recursion}
use Rattle.std.proofs.lemmas.List.Sorted.{IsPermutation-refl, IsPermutation-sym, IsPermutation-trans, IsPermutation-middle, IsPermutation-append_left, IsPermutation-append_right, IsPermutation-append_comm}
use Rattle.std.proofs.lemmas.List.Sums.{sum_by_push, sum_by-le}
use Rattle.std.proofs.Math.Nat.{pow-succ', one-le-pow, mul-lt-mul_of_pos_right}
use Rattle.std.proofs.lemmas.Option.{slice_get_within}
use Rattle.op_model.specs.declared.base.Dataset.{Dataset}
use Rattle.op_model.specs.declared.base.Base.{Base}
use Rattle.op_model.specs.declared.entry.Entry.{Entry}
use Rattle.record_rows.specs.Rows.{Row, SupervoxelRow, NodeRow, LinkRow, Node, Link}
use Rattle.record_rows.specs.Chains.{child_of, has_id}
use Rattle.record_rows.specs.Images.{told}
use Rattle.record_rows.specs.LogRows.{rows_of}
use Rattle.record_rows.specs.Readings.{ParentImage, Holds, HoldsId, HoldsNode, HoldsSupervoxel, next_place}
use Rattle.record_rows.specs.Sorted.{id_at}
use Rattle.record_rows.specs.Walks.{child_to, children_in}
use Rattle.record_rows.specs.Words.{fixed_words, place_from}
use Rattle.record_rows.proofs.ImageFacts.{within, below_few, told_fixed}
use Rattle.parent_rows.proofs.NodeWalks.{AtChild, child_step, child_end}
use Rattle.parent_rows.proofs.Told.{Tells}
use Rattle.node_reader.specs.Spreads.{AreNodes, row_leaves, place_leaves, id_leaves, spread, layer_of, weight, weights}
use Rattle.node_reader.proofs.Climbs.{id_at_told}
use Rattle.node_reader.proofs.ChildRows.{child_found, child_holds}
use Rattle.node_reader.proofs.LeafMeaning.{found_leaves}

module _ (d : Dataset) (b : Base) (log : List Entry) (words : List ℕ) (i : ParentImage d b log words) where
  -- word 2 of a link is the place of its child
  pub child_told : (p : ℕ) (l : Link) → Holds d b log p (LinkRow l) → Tells words p 2 (place_from (has_id l.child) 0 (rows_of d b log)) × (place_from (has_id l.child) 0 (rows_of d b log) < 2 ^ 32)
  unfolding told fixed_words
  child_told p l h =
      let c = child_holds d b i.dataset i.base log i.legal p l h in (
        (
          within d b log words i p (LinkRow l) h,
          told_fixed d b log words i p 2 (LinkRow l) h (omega arith) refl ∙ child_found d b i.dataset i.base log i.legal p l h,
        ),
        (let f = below_few d b log words i (place_from (has_id l.child) 0 (rows_of d b log)) c.0 c.1 in omega arith),
      )

  -- word 0 tells a supervoxel from a node
  pub kind_told : (p id : ℕ) → HoldsId d b log p id → ((get_or words (8 * p) 0 ≡ 2) × HoldsSupervoxel d b log p id) ⊎ ((get_or words (8 * p) 0 ≡ 4) × (n : Node) × HoldsNode d b log p n × (n.id ≡ id))
  unfolding has_id told fixed_words
  kind_told p id (SupervoxelRow v, h, t) =
      let z : 8 * p + 0 ≡ 8 * p = omega arith in
      inl (ap (λ k. get_or words k 0) (sym z) ∙ told_fixed d b log words i p 0 (SupervoxelRow v) h (omega arith) refl, subst (HoldsSupervoxel d b log p) (eqb-true v id t) h)
  kind_told p id (NodeRow n, h, t) =
      let z : 8 * p + 0 ≡ 8 * p = omega arith in
      inr (ap (λ k. get_or words k 0) (sym z) ∙ told_fixed d b log words i p 0 (NodeRow n) h (omega arith) refl, n, h, eqb-true n.id id t)
  kind_told p id (row, h, t) = absurd (false≢true t)

  pub is_leaf : (p id : ℕ) → HoldsId d b log p id → eqb (get_or words (8 * p) 0 % 2 ^ 8) 2 ≡ true → HoldsSupervoxel d b log p id
  is_leaf p id h t = go (kind_told p id h)
    where
      go : ((get_or words (8 * p) 0 ≡ 2) × HoldsSupervoxel d b log p id) ⊎ ((get_or words (8 * p) 0 ≡ 4) × (n : Node) × HoldsNode d b log p n × (n.id ≡ id)) → HoldsSupervoxel d b log p id
      go (inl s) = s.1
      go (inr n) = absurd (false≢true (ap (λ k. eqb (k % 2 ^ 8) 2) (sym n.0) ∙ t))

  pub is_open : (p id : ℕ) → HoldsId d b log p id → eqb (get_or words (8 * p) 0 % 2 ^ 8) 2 ≡ false → (n : Node) × HoldsNode d b log p n × (n.id ≡ id)
  is_open p id h t = go (kind_told p id h)
    where
      go : ((get_or words (8 * p) 0 ≡ 2) × HoldsSupervoxel d b log p id) ⊎ ((get_or words (8 * p) 0 ≡ 4) × (n : Node) × HoldsNode d b log p n × (n.id ≡ id)) → (n : Node) × HoldsNode d b log p n × (n.id ≡ id)
      go (inl s) = absurd (false≢true (sym t ∙ ap (λ k. eqb (k % 2 ^ 8) 2) s.0))
      go (inr n) = (n.1, n.2, n.3)

pub node_id_told : (d : Dataset) (b : Base) (log : List Entry) (words : List ℕ) → ParentImage d b log words → (p : ℕ) (n : Node) → HoldsNode d b log p n → id_at words p ≡ n.id
unfolding has_id
node_id_told d b log words i p n h = id_at_told d b log words i p n.id (NodeRow n, h, eq-eqb n.id n.id refl)

-- a supervoxel that is put to those that were found
pub leaf_put : (rows : List Row) (found waiting : List ℕ) (p v id : ℕ) → p ≡ place_from (has_id id) 0 rows → slice_get rows p ≡ Some (SupervoxelRow v) → {more : List ℕ} → more ≡ found ++ v ∷ [] → IsPermutation (id_leaves rows id ++ spread rows found waiting) (spread rows more waiting)
unfolding id_leaves spread row_leaves
leaf_put rows found waiting p v id e h {more = more} m =
    let rest : List ℕ = flat_map (place_leaves rows) waiting in
    let one : place_leaves rows (place_from (has_id id) 0 rows) ≡ v ∷ [] = ap (place_leaves rows) (sym e) ∙ found_leaves rows id p (SupervoxelRow v) h in
    let put : found ++ (v ∷ rest) ≡ more ++ rest = sym (ap (λ xs. xs ++ rest) m ∙ append_assoc found (v ∷ []) rest) in
    subst (λ xs. IsPermutation (xs ++ (found ++ rest)) (more ++ rest)) (sym one)
    (subst (λ xs. IsPermutation (v ∷ (found ++ rest)) xs) put (IsPermutation-sym _ _ (IsPermutation-middle found v rest)))

-- one more node with the others that wait
spread_more : (rows : List Row) (found waiting : List ℕ) (p : ℕ) {more : List ℕ} → more ≡ waiting ++ p ∷ [] → IsPermutation (place_leaves rows p ++ spread rows found waiting) (spread rows found more)
unfolding spread
spread_more rows found waiting p {more = more} m =
    let rest : List ℕ = flat_map (place_leaves rows) waiting in
    let new : List ℕ = place_leaves rows p in
    let put : (found ++ rest) ++ new ≡ found ++ flat_map (place_leaves rows) more =
    append_assoc found rest new ∙ ap (λ xs. found ++ xs) (sym (ap (flat_map (place_leaves rows)) m ∙ (flat_map-append (place_leaves rows) waiting (p ∷ []) ∙ ap (λ xs. rest ++ xs) (append-nil new)))) in
    subst (λ xs. IsPermutation (new ++ (found ++ rest)) xs) put (IsPermutation-append_comm new (found ++ rest))

-- a node that is put to those that wait
pub node_put : (rows : List Row) (found waiting : List ℕ) (p id : ℕ) → p ≡ place_from (has_id id) 0 rows → {more : List ℕ} → more ≡ waiting ++ p ∷ [] → IsPermutation (id_leaves rows id ++ spread rows found waiting) (spread rows found more)
unfolding id_leaves
node_put rows found waiting p id e {more = more} m = subst (λ q. IsPermutation (place_leaves rows q ++ spread rows found waiting) (spread rows found more)) e (spread_more rows found waiting p m)

-- a node that is taken from those that wait, and opened
pub node_opened : (rows : List Row) (leaves found waiting : List ℕ) (p : ℕ) (n : Node) → slice_get rows p ≡ Some (NodeRow n) → {all end : List ℕ} → all ≡ waiting ++ p ∷ []
    → IsPermutation leaves (spread rows found all) → IsPermutation (n.leaves ++ spread rows found waiting) end → IsPermutation leaves end
unfolding row_leaves
node_opened rows leaves found waiting p n h {all = all} {end = end} e q r =
    let own : place_leaves rows p ≡ n.leaves = found_leaves rows n.id p (NodeRow n) h in
    let back : IsPermutation (spread rows found all) (n.leaves ++ spread rows found waiting) =
    IsPermutation-sym _ _ (subst (λ xs. IsPermutation (xs ++ spread rows found waiting) (spread rows found all)) own (spread_more rows found waiting p e)) in
    IsPermutation-trans _ _ _ q (IsPermutation-trans _ _ _ back r)

-- at first the node itself waits, and nothing was found
pub spread_starts : (rows : List Row) (p : ℕ) (n : Node) → slice_get rows p ≡ Some (NodeRow n) → {found none waiting : List ℕ} → found ≡ [] → none ≡ [] → waiting ≡ none ++ p ∷ [] → IsPermutation n.leaves (spread rows found waiting)
unfolding row_leaves spread
spread_starts rows p n h {found = found} {none = none} {waiting = waiting} e f g =
    let own : place_leaves rows p ++ [] ≡ n.leaves = append-nil (place_leaves rows p) ∙ found_leaves rows n.id p (NodeRow n) h in
    let all : found ++ flat_map (place_leaves rows) waiting ≡ n.leaves =
    ap (λ xs. xs ++ flat_map (place_leaves rows) waiting) e ∙ (ap (flat_map (place_leaves rows)) (g ∙ ap (λ xs. xs ++ p ∷ []) f) ∙ own) in
    subst (λ xs. IsPermutation n.leaves xs) (sym all) (IsPermutation-refl n.leaves)

-- at last nothing waits
pub spread_ends : (rows : List Row) (leaves found : List ℕ) (waiting : List ℕ) → length waiting ≡ 0 → IsPermutation leaves (spread rows found waiting) → IsPermutation leaves found
unfolding spread
spread_ends rows leaves found [] e q = subst (λ xs. IsPermutation leaves xs) (append-nil found) q
spread_ends rows leaves found (p ∷ waiting) e q = absurd (omega arith)

pub nodes_put : (d : Dataset) (b : Base) (log : List Entry) (waiting : List ℕ) (p : ℕ) (n : Node) → HoldsNode d b log p n → AreNodes d b log waiting → {more : List ℕ} → more ≡ waiting ++ p ∷ [] → AreNodes d b log more
nodes_put d b log waiting p n h a e = subst (AreNodes d b log) (sym e) (behind waiting a)
  where
    behind : (ps : List ℕ) → AreNodes d b log ps → AreNodes d b log (ps ++ p ∷ [])
    behind [] a = ((n, h), tt)
    behind (q ∷ ps) a = (a.0, behind ps a.1)

pub nodes_taken : (d : Dataset) (b : Base) (log : List Entry) (waiting : List ℕ) (p : ℕ) {all : List ℕ} → all ≡ waiting ++ p ∷ [] → AreNodes d b log all → AreNodes d b log waiting × ((n : Node) × HoldsNode d b log p n)
nodes_taken d b log waiting p e a = behind waiting (subst (AreNodes d b log) e a)
  where
    behind : (ps : List ℕ) → AreNodes d b log (ps ++ p ∷ []) → AreNodes d b log ps × ((n : Node) × HoldsNode d b log p n)
    behind [] a = (tt, a.0)
    behind (q ∷ ps) a = let r = behind ps a.1 in ((a.0, r.0), r.1)

pub weight_put : (words waiting : List ℕ) (p id : ℕ) → id_at words p ≡ id → {more : List ℕ} → more ≡ waiting ++ p ∷ [] → weights words more ≤ weights words waiting + weight (length words) id
unfolding weights
weight_put words waiting p id e m =
    let f : ℕ → ℕ = λ q. weight (length words) (id_at words q) in
    let s = ap (sum_by f) m ∙ sum_by_push f waiting p in
    let w : f p ≡ weight (length words) id = ap (weight (length words)) e in
    omega (arith, s, w)

-- a walk along the links of a node that has put these children
pub record Walked (rows : List Row) (words : List ℕ) (id : ℕ) (found waiting : List ℕ) (at : Option ℕ) (found_now waiting_now : List ℕ) : Type 0 where
  pub before : List ℕ
  pub place : AtChild rows id at before
  pub leaves : IsPermutation (flat_map (id_leaves rows) before ++ spread rows found waiting) (spread rows found_now waiting_now)
  pub few : weights words waiting_now ≤ weights words waiting + sum_by (weight (length words)) before

pub walk_starts : (rows : List Row) (words : List ℕ) (id : ℕ) (found waiting : List ℕ) {at : Option ℕ} → AtChild rows id at [] → Walked rows words id found waiting at found waiting
walk_starts rows words id found waiting a = record { before = []; place = a; leaves = IsPermutation-refl (spread rows found waiting); few = omega arith }

pub walk_goes : (rows : List Row) (words : List ℕ) (id : ℕ) (found waiting : List ℕ) (p : ℕ) (l : Link) → slice_get rows p ≡ Some (LinkRow l) → l.parent ≡ id
    → {at next : Option ℕ} {found_now waiting_now found_next waiting_next : List ℕ} → at ≡ Some p → next ≡ next_place (child_of l.parent) rows p
    → IsPermutation (id_leaves rows l.child ++ spread rows found_now waiting_now) (spread rows found_next waiting_next)
    → weights words waiting_next ≤ weights words waiting_now + weight (length words) l.child
    → Walked rows words id found waiting at found_now waiting_now → Walked rows words id found waiting next found_next waiting_next
walk_goes rows words id found waiting p l h e {found_now = found_now} {waiting_now = waiting_now} {found_next = found_next} {waiting_next = waiting_next} f n q m w =
    let new : List ℕ = id_leaves rows l.child in
    let old : List ℕ = flat_map (id_leaves rows) w.before in
    let start : List ℕ = spread rows found waiting in
    let more : flat_map (id_leaves rows) (w.before ++ l.child ∷ []) ≡ old ++ new = flat_map-append (id_leaves rows) w.before (l.child ∷ []) ∙ ap (λ xs. old ++ xs) (append-nil new) in
    let turned : IsPermutation ((old ++ new) ++ start) (new ++ (old ++ start)) =
    subst (λ xs. IsPermutation ((old ++ new) ++ start) xs) (append_assoc new old start) (IsPermutation-append_left start (old ++ new) (new ++ old) (IsPermutation-append_comm old new)) in
    record {
      before = w.before ++ l.child ∷ [];
      place = child_step rows id p l w.before h e f n l.child refl refl w.place;
      leaves =
          subst (λ xs. IsPermutation (xs ++ start) (spread rows found_next waiting_next)) (sym more)
          (IsPermutation-trans _ _ _ turned (IsPermutation-trans _ _ _ (IsPermutation-append_right new (old ++ start) (spread rows found_now waiting_now) w.leaves) q));
      few = (let s = sum_by_push (weight (length words)) w.before l.child in let o = w.few in omega (arith, s, o, m));
    }

-- at its end the leaves of the node are put
pub walk_ends : (rows : List Row) (words : List ℕ) (n : Node) (found waiting : List ℕ) {at : Option ℕ} {found_now waiting_now : List ℕ} → ((p : ℕ) → at ≡ Some p → ⊥)
    → IsPermutation n.leaves (flat_map (id_leaves rows) (children_in rows n.id)) → Walked rows words n.id found waiting at found_now waiting_now → IsPermutation (n.leaves ++ spread rows found waiting) (spread rows found_now waiting_now)
walk_ends rows words n found waiting {at = at} none all w =
    let e : w.before ≡ children_in rows n.id = child_end rows n.id at w.before none w.place in
    let start : List ℕ = spread rows found waiting in
    IsPermutation-trans _ _ _
    (IsPermutation-append_left start n.leaves (flat_map (id_leaves rows) w.before) (subst (λ cs. IsPermutation n.leaves (flat_map (id_leaves rows) cs)) (sym e) all))
    w.leaves

picked_few : {X Y : Type 0} (pick : X → Option Y) (xs : List X) → length (filter_map pick xs) ≤ length xs
picked_few pick [] = omega arith
picked_few {Y = Y} pick (x ∷ xs) = go (pick x) (picked_few pick xs)
  where
    go : (o : Option Y) → length (filter_map pick xs) ≤ length xs → length (cons_option o (filter_map pick xs)) ≤ length (x ∷ xs)
    go None ih = omega arith
    go (Some y) ih = omega arith

-- the words reach over all records
rows_few : (d : Dataset) (b : Base) (log : List Entry) (words : List ℕ) → ParentImage d b log words → (p : ℕ) (row : Row) → Holds d b log p row → length (rows_of d b log) < length words
rows_few d b log words i p row h =
    let some = slice_get_within (rows_of d b log) p row h in
    let last = get_at (rows_of d b log) (length (rows_of d b log) - 1) (omega arith) in
    let w = within d b log words i (length (rows_of d b log) - 1) last.0 last.1 in
    omega (arith, w, some)
  where
    get_at : (rows : List Row) (k : ℕ) → k < length rows → (r : Row) × (slice_get rows k ≡ Some r)
    get_at [] k l = absurd (omega arith)
    get_at (r ∷ rows) zero l = (r, refl)
    get_at (r ∷ rows) (suc k) l = get_at rows k (omega arith)

-- its children are lighter than the node
pub walk_lightens : (d : Dataset) (b : Base) (log : List Entry) (words : List ℕ) → ParentImage d b log words → (p : ℕ) (n : Node) → HoldsNode d b log p n
    → 1 ≤ layer_of n.id → AllByRecursion (λ c. layer_of c + 1 ≡ layer_of n.id) (children_in (rows_of d b log) n.id)
    → (found waiting : List ℕ) {at : Option ℕ} {found_now waiting_now : List ℕ} → ((q : ℕ) → at ≡ Some q → ⊥) → Walked (rows_of d b log) words n.id found waiting at found_now waiting_now
    → id_at words p ≡ n.id → weights words waiting_now < weights words (waiting ++ p ∷ [])
unfolding weights weight children_in
walk_lightens d b log words i p n h high below found waiting {at = at} none w e =
    let rows : List Row = rows_of d b log in
    let size : ℕ = length words in
    let m : ℕ = layer_of n.id - 1 in
    let end : w.before ≡ children_in rows n.id = child_end rows n.id at w.before none w.place in
    let light : sum_by (weight size) (children_in rows n.id) ≤ length (children_in rows n.id) * size ^ m =
    sum_by-le (weight size) (size ^ m) (children_in rows n.id) (All-from_recursion (λ c. weight size c ≤ size ^ m) (children_in rows n.id) (each (children_in rows n.id) below)) in
    let few : length (children_in rows n.id) < size = (let c = picked_few (child_to n.id) rows in let r = rows_few d b log words i p (NodeRow n) h in omega arith) in
    let push = sum_by_push (λ q. weight size (id_at words q)) waiting p in
    let own : weight size (id_at words p) ≡ weight size n.id = ap (weight size) e in
    let sums : sum_by (weight size) w.before ≡ sum_by (weight size) (children_in rows n.id) = ap (sum_by (weight size)) end in
    let less : sum_by (weight size) (children_in rows n.id) < weight size n.id = smaller size (length (children_in rows n.id)) (layer_of n.id) _ few light high in
    let o = w.few in
    omega (arith, o, push, own, sums, less)
  where
    each : (cs : List ℕ) → AllByRecursion (λ c. layer_of c + 1 ≡ layer_of n.id) cs → AllByRecursion (λ c. weight (length words) c ≤ length words ^ (layer_of n.id - 1)) cs
    each [] a = tt
    each (c ∷ cs) a = ((let q : layer_of c ≡ layer_of n.id - 1 = (let z = a.0 in omega arith) in let s : length words ^ layer_of c ≡ length words ^ (layer_of n.id - 1) = ap (λ k. length words ^ k) q in omega arith), each cs a.1)

    smaller : (size count layer sum : ℕ) → count < size → sum ≤ count * size ^ (layer - 1) → 1 ≤ layer → sum < size ^ layer
    smaller size count layer sum c s l =
        let z : layer ≡ suc (layer - 1) = omega arith in
        let p : size ^ layer ≡ size * size ^ (layer - 1) = ap (λ k. size ^ k) z ∙ pow-succ' size (layer - 1) in
        let pos : 1 ≤ size ^ (layer - 1) = one-le-pow (layer - 1) size (omega arith) in
        let m : count * size ^ (layer - 1) < size * size ^ (layer - 1) = mul-lt-mul_of_pos_right c pos in
        omega arith
