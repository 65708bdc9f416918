-- The labels of a small base fit.
use Rattle.std.proofs.Common.{◌≡◌, ℕ, ◌+◌, ◌-◌, ◌*◌, ◌^◌, max, ◌<◌, ◌≤◌, true, ◌&&◌, eqb, ltb, List, [], ◌∷◌, length, refl, arith}
use Rattle.std.specs.List.{AllByRecursion}
use Rattle.std.proofs.Math.Pow.{pow_mono}
use Rattle.std.proofs.lemmas.Bool.{cond_both, ltb-true, and_parts}
use Rattle.graph_model.specs.Lists.{has}
use Rattle.graph_model.proofs.ListLemmas.{has_head, has_tail, filter_length}
use Rattle.node_ids.specs.Ids.{IsLayout, LayoutForm, width, segments}
use Rattle.op_model.specs.declared.base.Dataset.{Dataset}
use Rattle.op_model.specs.declared.base.Base.{Base}
use Rattle.op_model.specs.Chunks.{chunk, members, layers}
use Rattle.op_model.specs.Labels.{is_new, label, least, new_among, used}
use Rattle.op_model.specs.Legal.{Legal, LabelsFit}
use Rattle.op_model.specs.Operations.{first_entry}
use Rattle.op_model.specs.Valid.{IsDataset}
use Rattle.op_model.proofs.LabelLemmas.{label_used}
use Rattle.op_model.specs.Ingest.{ingested}

width_most : (f : LayoutForm) → IsLayout f → (l : ℕ) → width f l ≤ 16
unfolding width
width_most f is l = cond_both (eqb f.version 2 && ltb 2 l) (max 1 (f.bits + 2 - l)) f.bits (λ w. w ≤ 16) high (λ e. is.3)
  where
    high : (eqb f.version 2 && ltb 2 l) ≡ true → max 1 (f.bits + 2 - l) ≤ 16
    high e = let k : 2 < l = ltb-true 2 l (and_parts (eqb f.version 2) (ltb 2 l) e).1 in let m : f.bits ≤ 16 = is.3 in omega arith

segments_most : (f : LayoutForm) → IsLayout f → (l : ℕ) → 256 ≤ segments f l
segments_most f is l =
    let w : width f l ≤ 16 = width_most f is l in
    let low : 8 ≤ 56 - 3 * width f l = omega arith in
    let p : 2 ^ 8 ≤ 2 ^ (56 - 3 * width f l) = pow_mono low in
    omega arith

all_from : (P : ℕ → Type 0) (xs : List ℕ) → ((x : ℕ) → has xs x ≡ true → P x) → AllByRecursion P xs
all_from P [] f = tt
all_from P (x ∷ xs) f = (f x (has_head x xs), all_from P xs (λ y h. f y (has_tail x xs y h)))

module _ (d : Dataset) (b : Base) (at : ℕ) where
  label_low : (l v : ℕ) → has b.supervoxels v ≡ true → label d b (ingested d b at) l v ≤ length b.supervoxels
  unfolding used new_among members
  label_low l v h =
      let u = label_used d b (ingested d b at) l v h in
      let n = filter_length (λ w. eqb (least d b (ingested d b at) l w) w && is_new d b (ingested d b at) l w) (members d b l (chunk d l v)) in
      let m = filter_length (λ w. eqb (chunk d l w) (chunk d l v)) b.supervoxels in
      omega (arith, u, n, m)

  pub legal_small : IsDataset d → length b.supervoxels ≤ 255 → at < 2 ^ 62 → Legal d b (first_entry d b at ∷ [])
  unfolding first_entry
  legal_small valid few low = (refl, low, fit)
    where
      fit : LabelsFit d b (ingested d b at)
      fit = all_from _ (layers d) (λ l k. all_from _ b.supervoxels (λ v h.
          let a = label_low l v h in
          let s = segments_most d.layout valid.layout l in
          omega (arith, a, s)))
