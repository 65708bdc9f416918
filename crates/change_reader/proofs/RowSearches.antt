-- A search of a log's records by a test that the header doesn't pass.
use Rattle.std.proofs.Common.{◌≡◌, ℕ, zero, suc, Bool, true, false, cond, eqb, List, length, Option, Some, None, refl, sym, ◌∙◌, ap, subst, arith}
use Rattle.std.specs.List.{slice_get, list_any}
use Rattle.std.proofs.lemmas.Bool.{cond-false, ne_eqb, false≢true}
use Rattle.std.specs.Option.{IsSome}
use Rattle.std.proofs.lemmas.Option.{same_Some}
use Rattle.op_model.specs.declared.base.Dataset.{Dataset}
use Rattle.op_model.specs.declared.base.Base.{Base}
use Rattle.op_model.specs.declared.entry.Entry.{Entry}
use Rattle.record_rows.specs.Rows.{Row, HeaderRow}
use Rattle.record_rows.specs.LogRows.{chunks, rows_of}
use Rattle.record_rows.specs.Words.{place_from}
use Rattle.record_rows.specs.Readings.{place_of, first_place}
use Rattle.record_rows.proofs.WalkLemmas.{LeadsTo, first_leads}
use Rattle.record_rows.proofs.ToldLaws.{headed}
use Rattle.record_rows.proofs.NodePlaces.{found_from}

module _ (d : Dataset) (b : Base) (log : List Entry) (test : Row → Bool) (skips : test (HeaderRow d (length b.supervoxels) (length (chunks d b))) ≡ false) where
  -- where it ends stands a record that passes
  pub stands_there : (p : ℕ) → first_place test (rows_of d b log) ≡ Some p → (row : Row) × (slice_get (rows_of d b log) p ≡ Some row) × (test row ≡ true)
  stands_there p h = from (Some p) (subst (LeadsTo test (rows_of d b log)) h (first_leads test (rows_of d b log) (HeaderRow d (length b.supervoxels) (length (chunks d b))) (headed d b log) skips)) p refl
    where
      from : (at : Option ℕ) → LeadsTo test (rows_of d b log) at → (q : ℕ) → at ≡ Some q → (row : Row) × (slice_get (rows_of d b log) q ≡ Some row) × (test row ≡ true)
      from None l q e = cc
      from (Some r) (low, row, g, t) q e = (row, subst (λ x. slice_get (rows_of d b log) x ≡ Some row) (same_Some _ _ e) g, t)

  -- where it ends nowhere, no record passes
  pub none_passes : first_place test (rows_of d b log) ≡ None → list_any test (rows_of d b log) ≡ true → ⊥
  unfolding first_place place_of
  none_passes h a = let f = found_from test (rows_of d b log) 0 (rows_of d b log) refl a in at_zero (place_from test 0 (rows_of d b log)) h f.0 f.1 f.2
    where
      at_zero : (n : ℕ) → cond (eqb n 0) None (Some n) ≡ None → (row : Row) → slice_get (rows_of d b log) n ≡ Some row → test row ≡ true → ⊥
      at_zero zero e row s t = let q : Some row ≡ Some (HeaderRow d (length b.supervoxels) (length (chunks d b))) = sym s ∙ headed d b log in let w : row ≡ HeaderRow d (length b.supervoxels) (length (chunks d b)) = cc in false≢true (sym skips ∙ (ap test (sym w) ∙ t))
      at_zero (suc n) e row s t =
          let q : Some (suc n) ≡ None = sym (cond-false (eqb (suc n) 0) None (Some (suc n)) (ne_eqb (suc n) 0 (λ y. absurd (let w : suc n ≡ 0 = y in omega arith)))) ∙ e in
          false≢true (subst IsSome q refl)
