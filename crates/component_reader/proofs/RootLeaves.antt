-- The leaves of a node are supervoxels of the base, ascending.
use Rattle.std.proofs.Common.{◌≡◌, ℕ, zero, suc, ◌+◌, ◌<◌, ◌≤◌, true, List, [], ◌∷◌, ◌++◌, length, take, slice_index_or, refl, sym, ◌∙◌, ap, subst, arith}
use Rattle.std.specs.List.{AllByRecursion}
use Rattle.op_model.specs.declared.base.Dataset.{Dataset}
use Rattle.op_model.specs.declared.base.Base.{Base}
use Rattle.op_model.specs.declared.entry.Entry.{Entry}
use Rattle.graph_model.specs.Lists.{has}
use Rattle.op_model.specs.Labels.{component}
use Rattle.op_model.specs.Valid.{IsDataset, IsBase, IsAscending}
use Rattle.op_model.specs.Legal.{Legal}
use Rattle.record_rows.specs.Rows.{Node}
use Rattle.record_rows.specs.Readings.{HoldsNode}
use Rattle.record_rows.proofs.DifferLemmas.{Differ, all_more}
use Rattle.record_rows.proofs.LinkLemmas.{of_component}
use Rattle.record_rows.proofs.OnceLemmas.{all_has_self, ascending_differ}
use Rattle.node_reader.specs.Readable.{AreKnown}
use Rattle.node_reader.proofs.LeafMeaning.{opened}
use Rattle.node_reader.proofs.NodeChildren.{node_raised}

ascends : (xs : List ℕ) → Differ (λ x y. x < y) xs → IsAscending xs
ascends [] a = tt
ascends (x ∷ []) a = tt
ascends (x ∷ y ∷ xs) a = (a.0.0, ascends (y ∷ xs) a.1)

module _ (d : Dataset) (b : Base) (valid : IsDataset d) (base : IsBase d b) (log : List Entry) (legal : Legal d b log) (place : ℕ) (n : Node) (h : HoldsNode d b log place n) where
  pub leaves_ascend : IsAscending n.leaves
  leaves_ascend = ascends n.leaves (opened d b valid base log legal place n h).ascending_leaves

  pub leaves_known : AreKnown b n.leaves
  leaves_known =
      let r = node_raised d b valid base log legal place n h in
      let born = r.born in
      let leaves : List ℕ = component d b (r.entry ∷ r.older) born.layer born.supervoxel in
      subst (AreKnown b) (sym born.holds)
      (all_more (λ v. has leaves v ≡ true) (λ v. has b.supervoxels v ≡ true) leaves (λ v k. (of_component d b valid base (r.entry ∷ r.older) born.layer born.supervoxel v k).0) (all_has_self leaves))

pub at_zero : (vs : List ℕ) (k v : ℕ) → k < length vs → v ≡ slice_index_or vs k v → v ≡ slice_index_or vs k 0
at_zero [] k v l q = absurd (omega arith)
at_zero (x ∷ vs) zero v l q = q
at_zero (x ∷ vs) (suc k) v l q = at_zero vs k v (omega arith) q

-- the supervoxel at a place of the list
pub known_at : (b : Base) (vs : List ℕ) (k v : ℕ) → AreKnown b vs → k < length vs → v ≡ slice_index_or vs k 0 → has b.supervoxels v ≡ true
known_at b [] k v a l q = absurd (omega arith)
known_at b (x ∷ vs) zero v a l q = subst (λ y. has b.supervoxels y ≡ true) (sym q) a.0
known_at b (x ∷ vs) (suc k) v a l q = known_at b vs k v a.1 (omega arith) q

-- those before a place are less than the one there, where they ascend
pub below_at : (vs : List ℕ) (k v : ℕ) → IsAscending vs → k < length vs → v ≡ slice_index_or vs k 0 → AllByRecursion (λ x. x < v) (take k vs)
below_at vs k v a l q = go vs k (ascending_differ vs a) l q
  where
    at_all : (x : ℕ) (us : List ℕ) (j : ℕ) → AllByRecursion (λ y. x < y) us → j < length us → x < slice_index_or us j 0
    at_all x [] j h m = absurd (omega arith)
    at_all x (u ∷ us) zero h m = h.0
    at_all x (u ∷ us) (suc j) h m = at_all x us j h.1 (omega arith)

    go : (us : List ℕ) (j : ℕ) → Differ (λ x y. x < y) us → j < length us → v ≡ slice_index_or us j 0 → AllByRecursion (λ x. x < v) (take j us)
    go [] j h m e = absurd (omega arith)
    go (u ∷ us) zero h m e = tt
    go (u ∷ us) (suc j) h m e = ((let s = at_all u us j h.0 (omega arith) in subst (λ y. u < y) (sym e) s), go us j h.1 (omega arith) e)

-- one more of a list
pub one_more : (vs : List ℕ) (k : ℕ) → k < length vs → take (k + 1) vs ≡ take k vs ++ slice_index_or vs k 0 ∷ []
one_more vs k l = let e : k + 1 ≡ suc k = omega arith in ap (λ n. take n vs) e ∙ go vs k l
  where
    go : (us : List ℕ) (j : ℕ) → j < length us → take (suc j) us ≡ take j us ++ slice_index_or us j 0 ∷ []
    go [] j m = absurd (omega arith)
    go (u ∷ us) zero m = refl
    go (u ∷ us) (suc j) m = ap (λ xs. u ∷ xs) (go us j (omega arith))

pub all_taken : (vs : List ℕ) (k : ℕ) → length vs ≤ k → take k vs ≡ vs
all_taken [] zero l = refl
all_taken [] (suc k) l = refl
all_taken (x ∷ vs) zero l = absurd (omega arith)
all_taken (x ∷ vs) (suc k) l = ap (λ xs. x ∷ xs) (all_taken vs k (omega arith))
