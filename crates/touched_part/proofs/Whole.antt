-- The touched part, from its supervoxels and its edges.
use Rattle.std.proofs.Common.{◌≡◌, ℕ, ◌+◌, ◌-◌, ◌<◌, ◌≤◌, true, List, [], ◌∷◌, ◌++◌, length, map, refl, sym, subst, inl, inr, arith}
use Rattle.std.specs.List.{AllByRecursion, filter}
use Rattle.std.proofs.lemmas.Bool.{cases_lt}
use Rattle.op_model.specs.declared.base.Dataset.{Dataset}
use Rattle.op_model.specs.declared.base.Base.{Base}
use Rattle.op_model.specs.declared.base.Edge.{Edge}
use Rattle.op_model.specs.declared.entry.Changed.{Changed}
use Rattle.op_model.specs.declared.entry.Entry.{Entry}
use Rattle.graph_model.specs.Lists.{has}
use Rattle.graph_model.proofs.ListLemmas.{has_cases, has_head, has_none, has_tail}
use Rattle.op_model.specs.Cuts.{PairsAscend}
use Rattle.op_model.specs.Labels.{edges}
use Rattle.op_model.specs.Laws.{IsKnown}
use Rattle.op_model.specs.Legal.{Legal}
use Rattle.op_model.specs.Operations.{ends}
use Rattle.op_model.specs.Valid.{IsAscending}
use Rattle.op_model.proofs.MadeLemmas.{ends_known}
use Rattle.layer_laws.proofs.OrderLemmas.{ascending_above, ascending_tail}
use Rattle.record_rows.specs.Rows.{SupervoxelRow}
use Rattle.record_rows.specs.Readings.{ParentImage}
use Rattle.record_rows.proofs.BaseRows.{supervoxel_at}
use Rattle.record_rows.proofs.ImageFacts.{below_few}
use Rattle.node_reader.specs.Readable.{AreKnown}
use Rattle.entry_parts.specs.Parts.{IsPart}
use Rattle.part_laws.specs.Touched.{gained_edges, is_among, kept_edges}
use Rattle.part_laws.proofs.TouchedLemmas.{touched_part}
use Rattle.touched_part.specs.Touching.{AreTouched}

pub first_entry_there : (d : Dataset) (b : Base) (log : List Entry) → Legal d b log → 1 ≤ length log
first_entry_there d b [] legal = absurd legal
first_entry_there d b (e ∷ log) legal = omega arith

pub all_known : (d : Dataset) (b : Base) (log : List Entry) (us ids : List ℕ) → AreTouched d b log us ids → AreKnown b ids
all_known d b log us ids are = from ids (λ v h. ((are v).0 h).0)
  where
    from : (xs : List ℕ) → ((v : ℕ) → has xs v ≡ true → has b.supervoxels v ≡ true) → AreKnown b xs
    from [] f = tt
    from (x ∷ xs) f = (f x (has_head x xs), from xs (λ v h. f v (has_tail x xs v h)))

-- an ascending list of members of another one is no longer
sub_length : (xs ys : List ℕ) → IsAscending xs → IsAscending ys → ((v : ℕ) → has xs v ≡ true → has ys v ≡ true) → length xs ≤ length ys
sub_length [] ys a c f = omega arith
sub_length (x ∷ xs) [] a c f = has_none x (f x (has_head x xs))
sub_length (x ∷ xs) (y ∷ ys) a c f =
    elim (has_cases y ys x (f x (has_head x xs))) [
      | inl e ↦
          let l = sub_length xs ys (ascending_tail x xs a) (ascending_tail y ys c) (λ v h.
          elim (has_cases y ys v (f v (has_tail x xs v h))) [ inl q ↦ (let m = ascending_above xs x v a h in absurd (omega (arith, m, e, q))) | inr k ↦ k ]) in
          omega (arith, l)
      | inr k ↦
          let n = ascending_above ys y x c k in
          let l = sub_length (x ∷ xs) ys a (ascending_tail y ys c) (λ v h.
          elim (has_cases y ys v (f v h)) [
            | inl q ↦ elim (has_cases x xs v h) [ inl r ↦ absurd (omega (arith, n, q, r)) | inr s ↦ (let m = ascending_above xs x v a s in absurd (omega (arith, m, n, q))) ]
            | inr s ↦ s
          ]) in
          omega (arith, l)
    ]

few_supervoxels : (d : Dataset) (b : Base) (log : List Entry) (words : List ℕ) (i : ParentImage d b log words) → length b.supervoxels < 16777216
few_supervoxels d b log words i = elim (cases_lt 0 (length b.supervoxels)) [
  | inl some ↦
      let k : ℕ = length b.supervoxels - 1 in
      let l = below_few d b log words i (1 + k) (SupervoxelRow _) (supervoxel_at d b log words i k (omega arith)) in
      omega (arith, l)
  | inr none ↦ omega (arith, none)
]

pub few_touched : (d : Dataset) (b : Base) (log : List Entry) (words : List ℕ) (i : ParentImage d b log words) (us ids : List ℕ) → IsAscending ids → AreTouched d b log us ids → length ids < 4294967296
few_touched d b log words i us ids a are =
    let l = sub_length ids b.supervoxels a i.base.ascending (λ v h. ((are v).0 h).0) in
    let f = few_supervoxels d b log words i in
    omega (arith, l, f)

pub ends_in : (d : Dataset) (b : Base) (log : List Entry) (cs : List Changed) (ids : List ℕ) → AllByRecursion (λ c. IsKnown b c.pair) cs → AreTouched d b log (ends cs) ids → (v : ℕ) → has (ends cs) v ≡ true → has ids v ≡ true
ends_in d b log cs ids known are v h = (are v).1 (ends_known b cs v known h, (v, h, refl))

pub whole_part : (d : Dataset) (b : Base) (log : List Entry) (words : List ℕ) (i : ParentImage d b log words) (e : Entry) (cs : List Changed) (ids : List ℕ) (es : List Edge) → e.changed ≡ cs
    → AllByRecursion (λ c. IsKnown b c.pair) cs → PairsAscend (map (λ c. c.pair) cs) → IsAscending ids → AreTouched d b log (ends cs) ids
    → es ≡ kept_edges d.merge_affinity cs (filter (is_among ids) (edges d b log)) ++ gained_edges d.merge_affinity cs → IsPart d b (e ∷ log) (record { supervoxels = ids; edges = es })
whole_part d b log words i e cs ids es q known pairs a are k =
    touched_part d b i.dataset i.base e log (record { supervoxels = ids; edges = es }) i.legal
    (subst (λ xs. AllByRecursion (λ c. IsKnown b c.pair) xs) (sym q) known) (subst (λ xs. PairsAscend (map (λ c. c.pair) xs)) (sym q) pairs)
    (record {
      ascending = a;
      touched = subst (λ xs. AreTouched d b log (ends xs) ids) (sym q) are;
      edges = subst (λ xs. es ≡ kept_edges d.merge_affinity xs (filter (is_among ids) (edges d b log)) ++ gained_edges d.merge_affinity xs) (sym q) k;
    })
