-- What the records of an image tell of the chains of edges and changes.
use Rattle.std.proofs.Common.{◌≡◌, ℕ, ◌+◌, ◌*◌, ◌<◌, ◌≤◌, ◌^◌, true, eqb, List, length, get_or, refl, sym, ◌∙◌, ap, subst, arith, inl, inr}
use Rattle.std.proofs.lemmas.Bool.{or_cases, eqb-true}
use Rattle.op_model.specs.declared.base.Dataset.{Dataset}
use Rattle.op_model.specs.declared.base.Base.{Base}
use Rattle.op_model.specs.declared.base.Edge.{Edge}
use Rattle.op_model.specs.declared.entry.Changed.{Changed}
use Rattle.op_model.specs.declared.entry.Entry.{Entry}
use Rattle.record_rows.specs.Rows.{Row, SupervoxelRow, EdgeRow, ChangeRow}
use Rattle.record_rows.specs.Chains.{aims, edge_at, change_of}
use Rattle.record_rows.specs.Words.{fixed_words}
use Rattle.record_rows.specs.LogRows.{rows_of}
use Rattle.record_rows.specs.Readings.{Image, Holds, HoldsSupervoxel, HoldsEdge, HoldsChange, place_of, first_place, next_place}
use Rattle.record_rows.proofs.ImageFacts.{parent_image, within, image_fixed, image_small, image_first, image_next}

-- the image that words are stays as long as they do
pub image_kept : {A : Type 0} (words : A → List ℕ) (d : Dataset) (b : Base) (log : List Entry) {v w : A} → v ≡ w → Image d b log (words w) → Image d b log (words v)
image_kept words d b log e i = subst (λ x. Image d b log (words x)) (sym e) i

module _ (d : Dataset) (b : Base) (log : List Entry) (words : List ℕ) (i : Image d b log words) where
  -- the words reach over each record
  pub reach : (p : ℕ) (row : Row) → Holds d b log p row → 8 * p + 8 ≤ length words
  reach p row h = within d b log words (parent_image d b log words i) p row h

  pub small : (p k : ℕ) (row : Row) → Holds d b log p row → k < 4 → get_or words (8 * p + (4 + k)) 0 < 2 ^ 32
  small p k row h l = image_small d b log words i p k row h l

  pub first_edge_is : (p v : ℕ) → HoldsSupervoxel d b log p v → place_of (get_or words (8 * p + 4) 0) ≡ first_place (edge_at v) (rows_of d b log)
  unfolding aims
  first_edge_is p v h = image_first d b log words i p 0 (SupervoxelRow v) (edge_at v) h (omega arith) refl

  pub lesser_is : (p made : ℕ) (e : Edge) → HoldsEdge d b log p made e → get_or words (8 * p + 1) 0 ≡ e.pair.a
  unfolding fixed_words
  lesser_is p made e h = image_fixed d b log words i p 1 (EdgeRow made e) h (omega arith)

  -- the next edge of the lesser end
  pub next_lesser : (p made : ℕ) (e : Edge) (v : ℕ) → HoldsEdge d b log p made e → get_or words (8 * p + 1) 0 ≡ v → place_of (get_or words (8 * p + 5) 0) ≡ next_place (edge_at v) (rows_of d b log) p
  unfolding aims
  next_lesser p made e v h q =
      image_next d b log words i p 1 (EdgeRow made e) (edge_at e.pair.a) h (omega arith) refl
      ∙ ap (λ x. next_place (edge_at x) (rows_of d b log) p) (sym (lesser_is p made e h) ∙ q)

  -- the next edge of the greater end
  pub next_greater : (p made : ℕ) (e : Edge) (v : ℕ) → HoldsEdge d b log p made e → edge_at v (EdgeRow made e) ≡ true → (get_or words (8 * p + 1) 0 ≡ v → ⊥)
      → place_of (get_or words (8 * p + 6) 0) ≡ next_place (edge_at v) (rows_of d b log) p
  unfolding aims edge_at
  next_greater p made e v h t n =
      let s : e.pair.b ≡ v = elim (or_cases (eqb e.pair.a v) (eqb e.pair.b v) t) [ inl q ↦ absurd (n (lesser_is p made e h ∙ eqb-true e.pair.a v q)) | inr q ↦ eqb-true e.pair.b v q ] in
      image_next d b log words i p 2 (EdgeRow made e) (edge_at e.pair.b) h (omega arith) refl
      ∙ ap (λ x. next_place (edge_at x) (rows_of d b log) p) s

  pub first_change_is : (p made : ℕ) (e : Edge) → HoldsEdge d b log p made e → place_of (get_or words (8 * p + 4) 0) ≡ first_place (change_of e.pair) (rows_of d b log)
  unfolding aims
  first_change_is p made e h = image_first d b log words i p 0 (EdgeRow made e) (change_of e.pair) h (omega arith) refl

  pub next_change_is : (p entry : ℕ) (c : Changed) → HoldsChange d b log p entry c → place_of (get_or words (8 * p + 5) 0) ≡ next_place (change_of c.pair) (rows_of d b log) p
  unfolding aims
  next_change_is p entry c h = image_next d b log words i p 1 (ChangeRow entry c) (change_of c.pair) h (omega arith) refl

  pub supervoxel_is : (p v : ℕ) → HoldsSupervoxel d b log p v → get_or words (8 * p + 1) 0 ≡ v
  unfolding fixed_words
  supervoxel_is p v h = image_fixed d b log words i p 1 (SupervoxelRow v) h (omega arith)
