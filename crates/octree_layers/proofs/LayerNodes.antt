-- The nodes of a layer in the order of their records are its least leaves by their chunks, with numbers from 1 on.
use Rattle.std.proofs.Common.{◌≡◌, ℕ, suc, ◌+◌, ◌-◌, ◌*◌, ◌<◌, ◌≤◌, ◌^◌, Bool, true, false, ◌&&◌, eqb, leb, List, [], ◌∷◌, length, map, get_or, None, refl, sym, ◌∙◌, ap, subst, inl, inr, arith, eq-eqb}
use Rattle.std.specs.List.{AllByRecursion, All, filter, flat_map, find, list_any, range_with_len}
use Rattle.std.proofs.lemmas.List.{length-map}
use Rattle.std.proofs.lemmas.List.FromFn.{length-range_with_len}
use Rattle.std.proofs.lemmas.List.Elements.{All-from_recursion, recursion_from_All}
use Rattle.std.proofs.lemmas.List.Sorted.{All-permutation, length_permutation, list_any-IsPermutation}
use Rattle.std.proofs.lemmas.Bool.{eqb-true, leb-false, and_parts, and_from, cases_lt, or_left, or_right, or_cases}
use Rattle.node_ids.specs.Ids.{segments, width, id_of, id_over}
use Rattle.op_model.specs.declared.base.Dataset.{Dataset}
use Rattle.op_model.specs.declared.base.Base.{Base}
use Rattle.graph_model.specs.Lists.{has, head_or}
use Rattle.op_model.specs.Chunks.{chunk, members, top}
use Rattle.op_model.specs.Labels.{is_empty, is_new, component, least, new_among, used, label, node}
use Rattle.op_model.specs.Operations.{first_entry}
use Rattle.op_model.specs.Valid.{IsDataset, IsBase, IsAscending}
use Rattle.graph_model.proofs.ListLemmas.{filter_same, filter_has, filter_only, filter_length, head_same, same_bool}
use Rattle.op_model.proofs.LegalLemmas.{ascending_has, map_has}
use Rattle.op_model.proofs.CutLemmas.{find_none_at}
use Rattle.op_model.proofs.LabelLemmas.{members_in, own_component, label_used}
use Rattle.record_rows.specs.LogRows.{layer_chunks, new_node, layer_nodes}
use Rattle.record_rows.proofs.DifferLemmas.{Differ, all_map, all_more, all_each, all_both, all_flat, all_filter, differ_flat}
use Rattle.record_rows.proofs.OnceLemmas.{all_has_self, all_pairs, ascending_lists}
use Rattle.record_rows.proofs.LinkLemmas.{all_ascending}
use Rattle.record_rows.proofs.LayerIds.{id_parts}
use Rattle.std.proofs.lemmas.Nat.{pow_pos}
use Rattle.layer_laws.specs.Levels.{AreFirsts}
use Rattle.layer_laws.specs.Building.{AreLeastLeaves}
use Rattle.layer_laws.proofs.OrderLemmas.{get_has, filter_ascending, members_ascending, label_at}
use Rattle.layer_laws.proofs.BuildLemmas.{own_place}
use Rattle.op_model.specs.Ingest.{ingested, spent_in}
use Rattle.op_model.proofs.ChunkLemmas.{chunk_small, top_low}
use Rattle.octree_layers.specs.declared.numbering.Owner.{Owner}
use Rattle.octree_layers.specs.declared.numbering.Made.{Made}
use Rattle.octree_layers.specs.Numbers.{owner, owners, AreByChunk, IsOwn, leaves_at, node_of, number_behind, numbered, overflow, told, told_node, LabelsFitIn}
use Rattle.components.proofs.Least.{has_below}
use Rattle.octree_layers.proofs.Joining.{filter_both}
use Rattle.octree_layers.proofs.Leaves.{filter_of_map, map_twice, whole, range_in, leads_to_itself, leaves_stand}
use Rattle.octree_layers.proofs.Grouping.{In, up_from, flat_same, map_flat, grouped, num_groups, over_groups}

numbered_all : (P : ℕ → Type 0) (last l : ℕ) (os : List Owner) → AllByRecursion (λ (o : Owner). P o.least) os → AllByRecursion (λ (m : Made). P m.least) (numbered last l os)
unfolding numbered
numbered_all P last l [] a = tt
numbered_all P last l (o ∷ os) a = (a.0, numbered_all P o.chunk (number_behind last l o.chunk) os a.1)

numbered_has : (j last l : ℕ) (os : List Owner) → list_any (λ (o : Owner). eqb o.least j) os ≡ true → has (map (λ (m : Made). m.least) (numbered last l os)) j ≡ true
unfolding numbered
numbered_has j last l [] h = h
numbered_has j last l (o ∷ os) h = elim (or_cases (eqb o.least j) _ h) [ inl a ↦ or_left _ _ a | inr b ↦ or_right _ _ (numbered_has j o.chunk (number_behind last l o.chunk) os b) ]

owners_has : (d : Dataset) (b : Base) (layer j : ℕ) (is : List ℕ) → has is j ≡ true → list_any (λ (o : Owner). eqb o.least j) (map (owner d b layer) is) ≡ true
owners_has d b layer j [] h = h
owners_has d b layer j (i ∷ is) h = elim (or_cases (eqb i j) _ h) [ inl a ↦ or_left _ _ a | inr c ↦ or_right _ _ (owners_has d b layer j is c) ]

-- ids of numbers from k on are above that of a lesser number, and below those that end behind them
up_above : (c k from : ℕ) (os : List Owner) → In c os → k < from → AllByRecursion (λ (m : Made). c + k < m.id) (up_from from os)
unfolding up_from
up_above c k from [] i l = tt
up_above c k from (o ∷ os) i l = (let e : o.chunk ≡ c = i.0 in omega (arith, e, l), up_above c k (from + 1) os i.1 (omega arith))

up_below : (c from end : ℕ) (os : List Owner) → In c os → from + length os ≤ end → AllByRecursion (λ (m : Made). m.id < c + end) (up_from from os)
unfolding up_from
up_below c from end [] i l = tt
up_below c from end (o ∷ os) i l = (let e : o.chunk ≡ c = i.0 in omega (arith, e, l), up_below c (from + 1) end os i.1 (omega arith))

up_differ : (c from : ℕ) (os : List Owner) → In c os → Differ (λ (m n : Made). m.id < n.id) (up_from from os)
unfolding up_from
up_differ c from [] i = tt
up_differ c from (o ∷ os) i =
    (all_more (λ (m : Made). c + from < m.id) (λ (m : Made). o.chunk + from < m.id) (up_from (from + 1) os) (λ m l. let e : o.chunk ≡ c = i.0 in omega arith) (up_above c from (from + 1) os i.1 (omega arith)), up_differ c (from + 1) os i.1)

pub ids_rise : (ms : List Made) → Differ (λ (m n : Made). m.id < n.id) ms → IsAscending (map (λ (m : Made). m.id) ms)
ids_rise [] a = tt
ids_rise (m ∷ []) a = tt
ids_rise (m ∷ n ∷ ms) a = (a.0.0, ids_rise (n ∷ ms) a.1)

-- the ids of a chunk's nodes end below the next chunk
chunks_apart : (d : Dataset) → IsDataset d → (layer u v : ℕ) → layer < 2 ^ 8 → chunk d layer u < chunk d layer v → chunk d layer u + segments d.layout layer ≤ chunk d layer v
chunks_apart d valid layer u v low less = elim (cases_lt (chunk d layer v) (chunk d layer u + segments d.layout layer)) [
  | inl within ↦
      let n : ℕ = chunk d layer v - chunk d layer u in
      let e : chunk d layer v + 0 ≡ chunk d layer u + n = omega arith in
      let r = id_parts d valid.layout layer layer v u 0 n low low (pow_pos (56 - 3 * width d.layout layer)) (omega arith) e in
      let z : 0 ≡ n = r.2 in
      absurd (omega arith)
  | inr behind ↦ behind
]

module _ (d : Dataset) (b : Base) (valid : IsDataset d) (base : IsBase d b) (now layer : ℕ) (two : 2 ≤ layer) (high : layer ≤ top d)
    (firsts : List ℕ) (are : AreLeastLeaves d b (ingested d b now) layer firsts) where
  places : List ℕ
  places = range_with_len 0 (length b.supervoxels)

  sv : ℕ → ℕ
  sv i = get_or b.supervoxels i 0

  own : ℕ → Bool
  own i = eqb (get_or firsts i 0) i

  here : ℕ → ℕ → Bool
  here c v = eqb (chunk d layer v) c

  first : ℕ → Bool
  first v = eqb (least d b (ingested d b now) layer v) v && is_new d b (ingested d b now) layer v

  group : ℕ → List Owner
  group c = filter (λ (o : Owner). eqb o.chunk c) (owners d b layer firsts)

  news : ℕ → List ℕ
  news c = new_among d b (ingested d b now) layer (members d b layer c)

  group_is : (c : ℕ) → group c ≡ map (owner d b layer) (filter (λ i. own i && here c (sv i)) places)
  unfolding group owners own here sv places
  group_is c =
      filter_of_map (λ (o : Owner). eqb o.chunk c) (owner d b layer) (filter (λ i. eqb (get_or firsts i 0) i) (range_with_len 0 (length b.supervoxels)))
      ∙ ap (map (owner d b layer)) (filter_both (λ i. eqb (chunk d layer (get_or b.supervoxels i 0)) c) (λ i. eqb (get_or firsts i 0) i) (range_with_len 0 (length b.supervoxels)))

  news_is : (c : ℕ) → news c ≡ map sv (filter (λ i. here c (sv i) && first (sv i)) places)
  unfolding news new_among members first here sv places
  news_is c =
      filter_both (λ v. eqb (least d b (ingested d b now) layer v) v && is_new d b (ingested d b now) layer v) (λ v. eqb (chunk d layer v) c) b.supervoxels
      ∙ (ap (filter (λ v. eqb (chunk d layer v) c && (eqb (least d b (ingested d b now) layer v) v && is_new d b (ingested d b now) layer v))) (sym (whole b.supervoxels))
      ∙ filter_of_map (λ v. eqb (chunk d layer v) c && (eqb (least d b (ingested d b now) layer v) v && is_new d b (ingested d b now) layer v)) (λ i. get_or b.supervoxels i 0) (range_with_len 0 (length b.supervoxels)))

  own_first : (i : ℕ) → i < length b.supervoxels → own i ≡ first (sv i)
  unfolding own first sv is_new is_empty
  own_first i l =
      let iff = own_place d b valid.layout base.ascending (ingested d b now) layer firsts i two are l in
      same_bool _ _ (λ e. and_from _ _ (eq-eqb _ _ (iff.0 (eqb-true _ _ e))) refl) (λ e. eq-eqb _ _ (iff.1 (eqb-true _ _ (and_parts _ _ e).0)))

  both_turned : (a c : Bool) → (a && c) ≡ (c && a)
  both_turned true true = refl
  both_turned true false = refl
  both_turned false true = refl
  both_turned false false = refl

  -- the nodes of a chunk stand at its new nodes' least supervoxels
  leaves_are : (c : ℕ) → map (λ (o : Owner). get_or b.supervoxels o.least 0) (group c) ≡ news c
  unfolding sv places
  leaves_are c =
      ap (map (λ (o : Owner). get_or b.supervoxels o.least 0)) (group_is c)
      ∙ (map_twice (λ (o : Owner). get_or b.supervoxels o.least 0) (owner d b layer) (filter (λ i. own i && here c (sv i)) places)
      ∙ (ap (map (λ i. get_or b.supervoxels i 0)) (filter_same (λ i. own i && here c (sv i)) (λ i. here c (sv i) && first (sv i)) places
      (λ i h. ap (λ k. k && here c (sv i)) (own_first i (let l = range_in 0 (length b.supervoxels) i h in omega arith)) ∙ both_turned (first (sv i)) (here c (sv i))))
      ∙ sym (news_is c)))

  news_firsts : (c : ℕ) → AreFirsts d b (ingested d b now) layer c (news c)
  unfolding news new_among
  news_firsts c =
      let t : ℕ → Bool = λ v. eqb (least d b (ingested d b now) layer v) v && is_new d b (ingested d b now) layer v in (
        filter_ascending t (members d b layer c) (members_ascending d b base.ascending layer c),
        λ x. (
          (λ h. let p = filter_only t (members d b layer c) x h in let q = and_parts _ _ p.1 in (p.0, eqb-true _ _ q.0, q.1)),
          (λ p. filter_has t (members d b layer c) x p.0 (and_from _ _ (eq-eqb _ _ p.1) p.2)),
        ),
      )

  -- what is told of the least supervoxel of a chunk's k-th node
  abbrev Fact : ℕ → ℕ → ℕ → Type 0
  Fact c k v = (chunk d layer v ≡ c) × (label d b (ingested d b now) layer v ≡ k) × (head_or 0 (component d b (ingested d b now) layer v) ≡ v)

  fact : (c j : ℕ) → j < length (news c) → Fact c (1 + j) (get_or (news c) j 0)
  unfolding least used
  fact c j l =
      let v : ℕ = get_or (news c) j 0 in
      let p = ((news_firsts c).1 v).0 (get_has (news c) j l) in
      let m = members_in d b layer c v p.0 in
      let n : label d b (ingested d b now) layer v ≡ 0 + (j + 1) = label_at d b base.ascending (first_entry d b now) [] layer c (news c) j v (news_firsts c) l m.0 p.1 in (
        m.1,
        omega (arith, n),
        head_same 0 v (component d b (ingested d b now) layer v) v (own_component d b (ingested d b now) layer v m.0) ∙ p.1,
      )

  tell : (c k : ℕ) (os : List Owner) → In c os → ((j : ℕ) → j < length os → Fact c (k + j) (get_or (map (λ (o : Owner). get_or b.supervoxels o.least 0) os) j 0))
      → map (told b) (up_from k os) ≡ map (λ v. told_node (new_node d b (ingested d b now) 0 layer v)) (map (λ (o : Owner). get_or b.supervoxels o.least 0) os)
  unfolding up_from new_node node
  tell c k [] i f = refl
  tell c k (o ∷ os) i f =
      let v : ℕ = get_or b.supervoxels o.least 0 in
      let p = f 0 (omega arith) in
      let ch : o.chunk ≡ chunk d layer v = i.0 ∙ sym p.0 in
      let lb : label d b (ingested d b now) layer v ≡ k + 0 = p.1 in
      let id : o.chunk + k ≡ chunk d layer v + label d b (ingested d b now) layer v = omega (arith, ch, lb) in
      let one : told b (record { id = o.chunk + k; chunk = o.chunk; least = o.least }) ≡ (chunk d layer v + label d b (ingested d b now) layer v, chunk d layer v, head_or 0 (component d b (ingested d b now) layer v)) =
      λ x. (id x, ch x, sym p.2 x) in
      ap (λ y. y ∷ map (told b) (up_from (k + 1) os)) one
      ∙ ap (λ ys. told_node (new_node d b (ingested d b now) 0 layer v) ∷ ys) (tell c (k + 1) os i.1 (λ j l.
      let e : k + suc j ≡ k + 1 + j = omega arith in
      subst (λ n. Fact c n (get_or (map (λ (o : Owner). get_or b.supervoxels o.least 0) os) j 0)) e (f (suc j) (omega arith))))

  group_in : (c : ℕ) → In c (group c)
  unfolding group
  group_in c =
      all_more (λ (o : Owner). Unit {0} × (eqb o.chunk c ≡ true)) (λ o. o.chunk ≡ c) (group c) (λ o p. eqb-true o.chunk c p.1)
      (all_filter (λ (o : Owner). eqb o.chunk c) (λ o. Unit {0}) (owners d b layer firsts) (all_each (λ o. Unit {0}) (owners d b layer firsts) (λ o. tt)))

  group_facts : (c j : ℕ) → j < length (group c) → Fact c (1 + j) (get_or (map (λ (o : Owner). get_or b.supervoxels o.least 0) (group c)) j 0)
  group_facts c j l =
      subst (λ vs. Fact c (1 + j) (get_or vs j 0)) (sym (leaves_are c)) (fact c j (subst (λ n. j < n) (sym (length-map (group c) (λ (o : Owner). get_or b.supervoxels o.least 0)) ∙ ap length (leaves_are c)) l))

  tell_ids : (c k : ℕ) (os : List Owner) → In c os → ((j : ℕ) → j < length os → Fact c (k + j) (get_or (map (λ (o : Owner). get_or b.supervoxels o.least 0) os) j 0))
      → AllByRecursion (λ (m : Made). m.id ≡ node d b (ingested d b now) layer (get_or b.supervoxels m.least 0)) (up_from k os)
  unfolding up_from node
  tell_ids c k [] i f = tt
  tell_ids c k (o ∷ os) i f =
      let v : ℕ = get_or b.supervoxels o.least 0 in
      let p = f 0 (omega arith) in
      let ch : o.chunk ≡ chunk d layer v = i.0 ∙ sym p.0 in
      let lb : label d b (ingested d b now) layer v ≡ k + 0 = p.1 in (
        omega (arith, ch, lb),
        tell_ids c (k + 1) os i.1 (λ j l.
            let e : k + suc j ≡ k + 1 + j = omega arith in
            subst (λ n. Fact c n (get_or (map (λ (o : Owner). get_or b.supervoxels o.least 0) os) j 0)) e (f (suc j) (omega arith))),
      )

  piece_told : (c : ℕ) → map (told b) (up_from 1 (group c)) ≡ map told_node (map (new_node d b (ingested d b now) 0 layer) (news c))
  piece_told c =
      tell c 1 (group c) (group_in c) (group_facts c)
      ∙ (ap (map (λ v. told_node (new_node d b (ingested d b now) 0 layer v))) (leaves_are c) ∙ sym (map_twice told_node (new_node d b (ingested d b now) 0 layer) (news c)))

  cs : List ℕ
  cs = layer_chunks d b layer

  cs_differ : Differ (λ x y. x < y) cs
  unfolding cs layer_chunks
  cs_differ = ascending_lists (map (chunk d layer) b.supervoxels)

  chunk_some : (v : ℕ) → chunk d layer v ≡ 0 → ⊥
  unfolding chunk id_of id_over
  chunk_some v e = omega arith

  cs_some : AllByRecursion (λ c. c ≡ 0 → ⊥) cs
  unfolding cs layer_chunks
  cs_some =
      all_ascending (λ c. c ≡ 0 → ⊥) (map (chunk d layer) b.supervoxels)
      (all_map (chunk d layer) (λ c. c ≡ 0 → ⊥) b.supervoxels (all_each (λ v. chunk d layer v ≡ 0 → ⊥) b.supervoxels chunk_some))

  known_chunk : (v : ℕ) → has b.supervoxels v ≡ true → has cs (chunk d layer v) ≡ true
  unfolding cs layer_chunks
  known_chunk v h = ascending_has (map (chunk d layer) b.supervoxels) (chunk d layer v) (map_has (chunk d layer) b.supervoxels v h)

  -- what holds of each least leaf holds of each node
  each_owner : (P : Owner → Type 0) → ((i : ℕ) → IsOwn b firsts i → P (owner d b layer i)) → AllByRecursion P (owners d b layer firsts)
  unfolding owners
  each_owner P f =
      all_map (owner d b layer) P (filter (λ i. eqb (get_or firsts i 0) i) (range_with_len 0 (length b.supervoxels)))
      (all_more (λ i. (has (range_with_len 0 (length b.supervoxels)) i ≡ true) × (eqb (get_or firsts i 0) i ≡ true)) (λ i. P (owner d b layer i)) (filter (λ i. eqb (get_or firsts i 0) i) (range_with_len 0 (length b.supervoxels)))
      (λ i p. f i (let l = range_in 0 (length b.supervoxels) i p.0 in omega arith, eqb-true _ _ p.1))
      (all_filter (λ i. eqb (get_or firsts i 0) i) (λ i. has (range_with_len 0 (length b.supervoxels)) i ≡ true) (range_with_len 0 (length b.supervoxels)) (all_has_self (range_with_len 0 (length b.supervoxels)))))

  group_own : (c : ℕ) → AllByRecursion (λ (o : Owner). IsOwn b firsts o.least) (group c)
  unfolding group
  group_own c =
      all_more (λ (o : Owner). IsOwn b firsts o.least × (eqb o.chunk c ≡ true)) (λ o. IsOwn b firsts o.least) (group c) (λ o p. p.0)
      (all_filter (λ (o : Owner). eqb o.chunk c) (λ o. IsOwn b firsts o.least) (owners d b layer firsts) (each_owner (λ (o : Owner). IsOwn b firsts o.least) (λ i p. p)))

  tell_nodes : (c k : ℕ) (os : List Owner) → In c os → AllByRecursion (λ (o : Owner). IsOwn b firsts o.least) os
      → ((j : ℕ) → j < length os → Fact c (k + j) (get_or (map (λ (o : Owner). get_or b.supervoxels o.least 0) os) j 0))
      → map (node_of b firsts) (up_from k os) ≡ map (new_node d b (ingested d b now) 0 layer) (map (λ (o : Owner). get_or b.supervoxels o.least 0) os)
  unfolding up_from new_node node
  tell_nodes c k [] i own f = refl
  tell_nodes c k (o ∷ os) i own f =
      let v : ℕ = get_or b.supervoxels o.least 0 in
      let p = f 0 (omega arith) in
      let ch : o.chunk ≡ chunk d layer v = i.0 ∙ sym p.0 in
      let lb : label d b (ingested d b now) layer v ≡ k + 0 = p.1 in
      let id : o.chunk + k ≡ chunk d layer v + label d b (ingested d b now) layer v = omega (arith, ch, lb) in
      let lv : leaves_at b firsts o.least ≡ component d b (ingested d b now) layer v =
      sym (leaves_stand d b valid base now layer two firsts are o.least own.0.0 ∙ ap (leaves_at b firsts) own.0.1) in
      let one : node_of b firsts (record { id = o.chunk + k; chunk = o.chunk; least = o.least }) ≡ new_node d b (ingested d b now) 0 layer v =
      λ x. record { id = id x; chunk = ch x; leaves = lv x; made = 0 } in
      ap (λ y. y ∷ map (node_of b firsts) (up_from (k + 1) os)) one
      ∙ ap (λ ys. new_node d b (ingested d b now) 0 layer v ∷ ys) (tell_nodes c (k + 1) os i.1 own.1 (λ j l.
      let e : k + suc j ≡ k + 1 + j = omega arith in
      subst (λ n. Fact c n (get_or (map (λ (o : Owner). get_or b.supervoxels o.least 0) os) j 0)) e (f (suc j) (omega arith))))

  piece_nodes : (c : ℕ) → map (node_of b firsts) (up_from 1 (group c)) ≡ map (new_node d b (ingested d b now) 0 layer) (news c)
  piece_nodes c =
      tell_nodes c 1 (group c) (group_in c) (group_own c) (group_facts c)
      ∙ ap (map (new_node d b (ingested d b now) 0 layer)) (leaves_are c)

  module _ (ks : List Owner) (by : AreByChunk (owners d b layer firsts) ks) where
    all_keys : (P : Owner → Type 0) → ((i : ℕ) → IsOwn b firsts i → P (owner d b layer i)) → All P ks
    all_keys P f = All-permutation P (owners d b layer firsts) ks by.moved (All-from_recursion P (owners d b layer firsts) (each_owner P f))

    each_key : (P : ℕ → Type 0) → ((v : ℕ) → has b.supervoxels v ≡ true → P (chunk d layer v)) → All (λ (o : Owner). P o.chunk) ks
    each_key P f = all_keys (λ (o : Owner). P o.chunk) (λ i p. f (get_or b.supervoxels i 0) (get_has b.supervoxels i p.0))

    pub small_keys : All (λ (o : Owner). o.chunk < 2 ^ 62) ks
    small_keys =
        each_key (λ c. c < 2 ^ 62) (λ v h. chunk_small d valid.layout layer (let t = top_low d in omega arith) v)

    pub few_keys : length ks ≤ length b.supervoxels
    unfolding owners
    few_keys =
        let e = length_permutation (owners d b layer firsts) ks by.moved in
        let m = length-map (filter (λ i. eqb (get_or firsts i 0) i) (range_with_len 0 (length b.supervoxels))) (owner d b layer) in
        let f = filter_length (λ i. eqb (get_or firsts i 0) i) (range_with_len 0 (length b.supervoxels)) in
        let r = length-range_with_len 0 (length b.supervoxels) in
        omega (arith, e, m, f, r)

    keys_are : ks ≡ flat_map group cs
    unfolding group
    keys_are =
        sym (grouped (λ (o : Owner). o.chunk) cs cs_differ ks by.rising (each_key (λ c. has cs c ≡ true) known_chunk))
        ∙ flat_same (λ c. filter (λ (o : Owner). eqb o.chunk c) ks) group cs (all_each (λ c. filter (λ (o : Owner). eqb o.chunk c) ks ≡ group c) cs by.same)

    all_in : AllByRecursion (λ c. In c (group c)) cs
    all_in = all_each (λ c. In c (group c)) cs group_in

    pub nodes_told : map (told b) (numbered 0 0 ks) ≡ map told_node (layer_nodes d b (ingested d b now) 0 layer)
    unfolding layer_nodes cs news
    nodes_told =
        ap (λ os. map (told b) (numbered 0 0 os)) keys_are
        ∙ (ap (map (told b)) (num_groups group cs cs_differ all_in 0 0 cs_some)
        ∙ (map_flat (told b) (λ c. up_from 1 (group c)) cs
        ∙ (flat_same (λ c. map (told b) (up_from 1 (group c))) (λ c. map told_node (map (new_node d b (ingested d b now) 0 layer) (news c))) cs
        (all_each (λ c. map (told b) (up_from 1 (group c)) ≡ map told_node (map (new_node d b (ingested d b now) 0 layer) (news c))) cs piece_told)
        ∙ sym (map_flat told_node (λ c. map (new_node d b (ingested d b now) 0 layer) (news c)) cs))))

    pub nodes_are : map (node_of b firsts) (numbered 0 0 ks) ≡ layer_nodes d b (ingested d b now) 0 layer
    unfolding layer_nodes cs news
    nodes_are =
        ap (λ os. map (node_of b firsts) (numbered 0 0 os)) keys_are
        ∙ (ap (map (node_of b firsts)) (num_groups group cs cs_differ all_in 0 0 cs_some)
        ∙ (map_flat (node_of b firsts) (λ c. up_from 1 (group c)) cs
        ∙ flat_same (λ c. map (node_of b firsts) (up_from 1 (group c))) (λ c. map (new_node d b (ingested d b now) 0 layer) (news c)) cs
        (all_each (λ c. map (node_of b firsts) (up_from 1 (group c)) ≡ map (new_node d b (ingested d b now) 0 layer) (news c)) cs piece_nodes)))

    used_is : (c : ℕ) → length (group c) ≡ used d b (ingested d b now) layer c
    unfolding used news
    used_is c = sym (length-map (group c) (λ (o : Owner). get_or b.supervoxels o.least 0)) ∙ (ap length (leaves_are c) ∙ (let e : length (news c) ≡ 0 + length (news c) = omega arith in e))

    numbers_are : numbered 0 0 ks ≡ flat_map (λ c. up_from 1 (group c)) cs
    numbers_are = ap (numbered 0 0) keys_are ∙ num_groups group cs cs_differ all_in 0 0 cs_some

    pub nodes_ids : All (λ (m : Made). m.id ≡ node d b (ingested d b now) layer (get_or b.supervoxels m.least 0)) (numbered 0 0 ks)
    nodes_ids =
        All-from_recursion (λ (m : Made). m.id ≡ node d b (ingested d b now) layer (get_or b.supervoxels m.least 0)) (numbered 0 0 ks)
        (subst (λ ms. AllByRecursion (λ (m : Made). m.id ≡ node d b (ingested d b now) layer (get_or b.supervoxels m.least 0)) ms) (sym numbers_are)
        (all_flat (λ c. up_from 1 (group c)) (λ (m : Made). m.id ≡ node d b (ingested d b now) layer (get_or b.supervoxels m.least 0)) cs
        (all_each (λ c. AllByRecursion (λ (m : Made). m.id ≡ node d b (ingested d b now) layer (get_or b.supervoxels m.least 0)) (up_from 1 (group c))) cs
        (λ c. tell_ids c 1 (group c) (group_in c) (group_facts c)))))

    -- a chunk of a supervoxel, with fewer nodes than there are segments
    abbrev Roomy : ℕ → Type 0
    Roomy c = (v : ℕ) × (chunk d layer v ≡ c) × (length (group c) < segments d.layout layer)

    pub ids_ascend : spent_in d b (ingested d b now) layer ≡ None → Differ (λ (m n : Made). m.id < n.id) (numbered 0 0 ks)
    unfolding spent_in cs layer_chunks
    ids_ascend none =
        subst (λ ms. Differ (λ (m n : Made). m.id < n.id) ms) (sym numbers_are)
        (differ_flat (λ c. up_from 1 (group c)) Roomy (λ x y. x < y) (λ (m n : Made). m.id < n.id) cs
        (λ c p. up_differ c 1 (group c) (group_in c))
        (λ c e p q less.
        let far : c + segments d.layout layer ≤ e =
        subst (λ x. x + segments d.layout layer ≤ e) p.1 (subst (λ y. chunk d layer p.0 + segments d.layout layer ≤ y) q.1
        (chunks_apart d valid layer p.0 q.0 (let t = top_low d in omega arith) (let s = p.1 in let r = q.1 in omega arith))) in
        all_pairs (λ (m : Made). m.id < c + segments d.layout layer) (λ (n : Made). e + 0 < n.id) (λ m n. m.id < n.id) (up_from 1 (group c)) (up_from 1 (group e)) (λ m n x y. omega arith)
        (up_below c 1 (segments d.layout layer) (group c) (group_in c) (let r = p.2 in omega arith)) (up_above e 0 1 (group e) (group_in e) (omega arith)))
        roomy cs_differ)
      where
        known : AllByRecursion (λ c. (v : ℕ) × (chunk d layer v ≡ c)) (layer_chunks d b layer)
        known =
            all_ascending (λ c. (v : ℕ) × (chunk d layer v ≡ c)) (map (chunk d layer) b.supervoxels)
            (all_map (chunk d layer) (λ c. (v : ℕ) × (chunk d layer v ≡ c)) b.supervoxels (all_each (λ u. (v : ℕ) × (chunk d layer v ≡ chunk d layer u)) b.supervoxels (λ u. (u, refl))))

        roomy : AllByRecursion Roomy cs
        roomy =
            all_more (λ c. ((v : ℕ) × (chunk d layer v ≡ c)) × (has cs c ≡ true)) Roomy cs
            (λ c p.
            let l = leb-false _ _ (find_none_at (λ c. leb (segments d.layout layer) (used d b (ingested d b now) layer c)) cs c none p.1) in
            let u = used_is c in
            (p.0.0, p.0.1, omega (arith, l, u)))
            (all_both (λ c. (v : ℕ) × (chunk d layer v ≡ c)) (λ c. has cs c ≡ true) cs known (all_has_self cs))

    pub nodes_own : All (λ (m : Made). IsOwn b firsts m.least) (numbered 0 0 ks)
    nodes_own =
        All-from_recursion (λ (m : Made). IsOwn b firsts m.least) (numbered 0 0 ks)
        (numbered_all (IsOwn b firsts) 0 0 ks (recursion_from_All (λ (o : Owner). IsOwn b firsts o.least) ks (all_keys (λ (o : Owner). IsOwn b firsts o.least) (λ i p. p))))

    pub nodes_each : (i : ℕ) → i < length b.supervoxels → has (map (λ (m : Made). m.least) (numbered 0 0 ks)) (get_or firsts i 0) ≡ true
    unfolding owners
    nodes_each i l =
        let j : ℕ = get_or firsts i 0 in
        let t : ℕ → Bool = λ k. eqb (get_or firsts k 0) k in
        let there = filter_has t (range_with_len 0 (length b.supervoxels)) j (has_below (length b.supervoxels) j (are.small i l)) (eq-eqb _ _ (leads_to_itself d b valid base now layer two firsts are i l)) in
        numbered_has j 0 0 ks (sym (list_any-IsPermutation (λ (o : Owner). eqb o.least j) (owners d b layer firsts) ks by.moved) ∙ owners_has d b layer j (filter t (range_with_len 0 (length b.supervoxels))) there)

    pub spent_is : (limit : ℕ) → 1 ≤ limit → limit ≡ segments d.layout layer → overflow limit 0 0 ks ≡ spent_in d b (ingested d b now) layer
    unfolding spent_in cs layer_chunks
    spent_is limit some e =
        let tests : (λ c. leb limit (length (group c))) ≡ (λ c. leb (segments d.layout layer) (used d b (ingested d b now) layer c)) = λ i c. leb (e i) (used_is c i) in
        ap (overflow limit 0 0) keys_are ∙ (over_groups group limit some cs cs_differ all_in 0 0 cs_some ∙ ap (λ t. find t cs) tests)

  pub labels_fit : spent_in d b (ingested d b now) layer ≡ None → LabelsFitIn d b (ingested d b now) layer
  unfolding spent_in cs layer_chunks
  labels_fit e =
      all_more (λ v. has b.supervoxels v ≡ true) (λ v. label d b (ingested d b now) layer v < segments d.layout layer) b.supervoxels
      (λ v h.
      let n = leb-false _ _ (find_none_at (λ c. leb (segments d.layout layer) (used d b (ingested d b now) layer c)) (layer_chunks d b layer) (chunk d layer v) e (known_chunk v h)) in
      let l = label_used d b (ingested d b now) layer v h in
      omega arith)
      (all_has_self b.supervoxels)
