-- The live roots of a legal log are the roots of its supervoxels, each once.
use Rattle.std.proofs.Common.{◌≡◌, ℕ, ◌+◌, Bool, true, false, not, List, [], ◌∷◌, ◌++◌, map, length, length-append, sym, ◌∙◌, ap, subst, inl, inr, ◌⊎◌, arith, eqb, eq-eqb}
use Rattle.std.specs.List.{filter}
use Rattle.std.proofs.lemmas.Bool.{cases_Bool, eqb-true, not-true}
use Rattle.op_model.specs.declared.base.Dataset.{Dataset}
use Rattle.op_model.specs.declared.base.Base.{Base}
use Rattle.op_model.specs.declared.entry.Entry.{Entry}
use Rattle.graph_model.specs.Lists.{has}
use Rattle.graph_model.proofs.ListLemmas.{contra, filter_has, filter_only}
use Rattle.op_model.specs.Answers.{leaves_at}
use Rattle.op_model.specs.Labels.{root}
use Rattle.op_model.specs.Operations.{ends}
use Rattle.op_model.specs.Valid.{IsDataset, IsBase}
use Rattle.op_model.specs.Legal.{Legal}
use Rattle.op_model.proofs.LinkLemmas.{append_cases, append_left, append_right}
use Rattle.op_model.proofs.LocalLemmas.{end_retired, leaves_kept, retired_are, root_kept}
use Rattle.change_laws.proofs.NearEnds.{known_end, made_end, made_roots, retired_end}
use Rattle.histories.specs.Histories.{IsCounted, live_roots}
use Rattle.histories.proofs.Counts.{Once, append_once, ascending_once, drop_each, filter_once}
use Rattle.histories.proofs.Roots.{first_made, first_made_root, first_retires, first_roots, not_retired, root_left}

module _ (d : Dataset) (b : Base) (valid : IsDataset d) (base : IsBase d b) where
  -- the root of a supervoxel is live
  root_lives : (log : List Entry) (v : ℕ) → Legal d b log → has b.supervoxels v ≡ true → has (live_roots log) (root d b log v) ≡ true
  unfolding live_roots
  root_lives [] v legal hv = absurd legal
  root_lives (e ∷ []) v legal hv = first_made d b e v legal hv
  root_lives (e ∷ f ∷ log) v legal hv = go (cases_Bool (has e.made (root d b (e ∷ f ∷ log) v))) (root_lives (f ∷ log) v legal.1 hv)
    where
      kept : List ℕ
      kept = filter (λ r. not (has e.retired r)) (live_roots (f ∷ log))

      go : (has e.made (root d b (e ∷ f ∷ log) v) ≡ true) ⊎ (has e.made (root d b (e ∷ f ∷ log) v) ≡ false) → has (live_roots (f ∷ log)) (root d b (f ∷ log) v) ≡ true → has (kept ++ e.made) (root d b (e ∷ f ∷ log) v) ≡ true
      go (inl h) ih = append_right kept e.made (root d b (e ∷ f ∷ log) v) h
      go (inr n) ih =
          append_left kept e.made (root d b (e ∷ f ∷ log) v)
          (subst (λ r. has kept r ≡ true) (sym (root_left d b valid base e f log v legal hv n))
          (filter_has (λ r. not (has e.retired r)) (live_roots (f ∷ log)) (root d b (f ∷ log) v) ih (ap not (not_retired d b valid base e f log v legal hv n))))

  -- a live root that an entry didn't retire is still that of a supervoxel
  live_root : (log : List Entry) (r : ℕ) → Legal d b log → has (live_roots log) r ≡ true → (v : ℕ) × (has b.supervoxels v ≡ true) × (root d b log v ≡ r)
  unfolding live_roots
  live_root [] r legal h = absurd legal
  live_root (e ∷ []) r legal h = first_made_root d b e r legal h
  live_root (e ∷ f ∷ log) r legal h = go (append_cases kept e.made r h) (live_root (f ∷ log) r legal.1)
    where
      kept : List ℕ
      kept = filter (λ x. not (has e.retired x)) (live_roots (f ∷ log))

      go : (has kept r ≡ true) ⊎ (has e.made r ≡ true) → (has (live_roots (f ∷ log)) r ≡ true → (v : ℕ) × (has b.supervoxels v ≡ true) × (root d b (f ∷ log) v ≡ r))
          → (v : ℕ) × (has b.supervoxels v ≡ true) × (root d b (e ∷ f ∷ log) v ≡ r)
      go (inl k) ih =
          let p = filter_only (λ x. not (has e.retired x)) (live_roots (f ∷ log)) r k in
          let v = ih p.0 in
          let n : has e.retired (root d b (f ∷ log) v.0) ≡ false = subst (λ x. has e.retired x ≡ false) (sym v.2) (not-true (has e.retired r) p.1) in
          (v.0, v.1, root_kept d b e f log v.0 valid.layout legal n ∙ v.2)
      go (inr m) ih =
          let u = made_end d b valid base e f log r legal m in
          (u.0, known_end d b valid base e (f ∷ log) u.0 legal u.1, u.2)

  -- a root that an entry made was no supervoxel's before it, or the entry retired it
  not_before : (e f : Entry) (log : List Entry) (w r : ℕ) → Legal d b (e ∷ f ∷ log) → has b.supervoxels w ≡ true → root d b (f ∷ log) w ≡ r → has e.retired r ≡ false → has e.made r ≡ true → ⊥
  unfolding leaves_at
  not_before e f log w r legal hw q n m =
      let u = made_end d b valid base e f log r legal m in
      let hu = known_end d b valid base e (f ∷ log) u.0 legal u.1 in
      let same = leaves_kept d b e f log w valid.layout legal hw (subst (λ x. has e.retired x ≡ false) (sym q) n) in
      let now : has (leaves_at d b (e ∷ f ∷ log) (root d b (f ∷ log) w)) u.0 ≡ true = filter_has (λ x. eqb (root d b (e ∷ f ∷ log) x) (root d b (f ∷ log) w)) b.supervoxels u.0 hu (eq-eqb _ _ (u.2 ∙ sym q)) in
      let then = filter_only (λ x. eqb (root d b (f ∷ log) x) (root d b (f ∷ log) w)) b.supervoxels u.0 (subst (λ ls. has ls u.0 ≡ true) same now) in
      contra (has e.retired r) (subst (λ x. has e.retired x ≡ true) (eqb-true _ _ then.1 ∙ q) (end_retired d b e f log u.0 legal u.1)) n

  live_once : (log : List Entry) → Legal d b log → Once (live_roots log)
  unfolding live_roots
  live_once [] legal = absurd legal
  live_once (e ∷ []) legal = subst Once (sym (first_roots d b e legal)) (ascending_once _)
  live_once (e ∷ f ∷ log) legal =
      let test : ℕ → Bool = λ r. not (has e.retired r) in
      append_once (filter test (live_roots (f ∷ log))) e.made (filter_once test (live_roots (f ∷ log)) (live_once (f ∷ log) legal.1))
      (subst Once (made_roots d b valid base e f log legal) (ascending_once (map (root d b (e ∷ f ∷ log)) (ends e.changed))))
      (λ r h m.
      let p = filter_only test (live_roots (f ∷ log)) r h in
      let w = live_root (f ∷ log) r legal.1 p.0 in
      not_before e f log w.0 r legal w.1 w.2 (not-true (has e.retired r) p.1) m)

  -- an entry retires live roots alone
  retired_lives : (e f : Entry) (log : List Entry) (r : ℕ) → Legal d b (e ∷ f ∷ log) → has e.retired r ≡ true → has (live_roots (f ∷ log)) r ≡ true
  retired_lives e f log r legal h =
      let u = retired_end d b valid base e f log r legal h in
      subst (λ x. has (live_roots (f ∷ log)) x ≡ true) u.2 (root_lives (f ∷ log) u.0 legal.1 (known_end d b valid base e (f ∷ log) u.0 legal u.1))

  dropped : (e : Entry) (log : List Entry) → Legal d b (e ∷ log) → length (filter (λ r. not (has e.retired r)) (live_roots log)) + length e.retired ≡ length (live_roots log)
  unfolding live_roots
  dropped e [] legal = let n : length e.retired ≡ 0 = ap length (first_retires d b e legal) in omega arith
  dropped e (f ∷ log) legal =
      drop_each e.retired (live_roots (f ∷ log)) (subst Once (sym (retired_are d b e f log legal)) (ascending_once (map (root d b (f ∷ log)) (ends e.changed)))) (live_once (f ∷ log) legal.1)
      (λ r h. retired_lives e f log r legal h)

  pub counted : (e : Entry) (log : List Entry) → Legal d b (e ∷ log) → IsCounted e log
  unfolding live_roots
  counted e log legal =
      let kept : List ℕ = filter (λ r. not (has e.retired r)) (live_roots log) in
      let n : length (kept ++ e.made) ≡ length kept + length e.made = length-append kept e.made in
      let m : length kept + length e.retired ≡ length (live_roots log) = dropped e log legal in
      omega arith
