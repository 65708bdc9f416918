-- Words of records that aren't told of nodes and parents may be anything.
use Rattle.std.proofs.Common.{◌≡◌, ℕ, zero, suc, ◌+◌, ◌*◌, ◌%◌, ◌^◌, ◌<◌, Bool, false, List, [], ◌∷◌, length, get_or, set, Some, refl, sym, ap, subst, inl, inr, ◌⊎◌, arith}
use Rattle.std.specs.List.{AllByRecursion, slice_get}
use Rattle.op_model.specs.declared.base.Dataset.{Dataset}
use Rattle.op_model.specs.declared.base.Base.{Base}
use Rattle.op_model.specs.declared.entry.Entry.{Entry}
use Rattle.record_rows.specs.Images.{told}
use Rattle.record_rows.specs.Rows.{Row}
use Rattle.record_rows.specs.Readings.{Holds, IsOtherKind, ParentImage}
use Rattle.record_rows.specs.Ascending.{kind_at}
use Rattle.record_rows.proofs.TellLemmas.{length-told}
use Rattle.record_rows.proofs.ToldLaws.{other_stores}

false_at : (ts : List Bool) → AllByRecursion (λ t. t ≡ false) ts → (n : ℕ) → n < length ts → slice_get ts n ≡ Some false
false_at [] a n m = absurd (omega arith)
false_at (t ∷ ts) a zero m = ap (λ x. Some x) a.0
false_at (t ∷ ts) a (suc n) m = false_at ts a.1 n (omega arith)

zero_or : (xs : List ℕ) (i j : ℕ) → (get_or (set xs i 0) j 0 ≡ get_or xs j 0) ⊎ (get_or (set xs i 0) j 0 ≡ 0)
zero_or [] i j = inl refl
zero_or (x ∷ xs) zero zero = inr refl
zero_or (x ∷ xs) zero (suc j) = inl refl
zero_or (x ∷ xs) (suc i) zero = inl refl
zero_or (x ∷ xs) (suc i) (suc j) = zero_or xs i j

no_kind : (k : ℕ) → k ≡ 0 → IsOtherKind k
no_kind k z = ((λ e. absurd (omega arith)), (λ e. absurd (omega arith)), (λ e. absurd (omega arith)), (λ e. absurd (omega arith)), (λ e. absurd (omega arith)), (λ e. absurd (omega arith)))

-- with 0 for a word of such a record the words tell of the same nodes
pub word_cleared : (d : Dataset) (b : Base) (log : List Entry) (words : List ℕ) (place k : ℕ) (row : Row) → ParentImage d b log words → Holds d b log place row → AllByRecursion (λ t. t ≡ false) (told row) → k < 8
    → ParentImage d b log (set words (8 * place + k) 0)
unfolding kind_at
word_cleared d b log words place k row i h u l =
    let n = length-told row in
    record {
      dataset = i.dataset;
      base = i.base;
      legal = i.legal;
      numbers = i.numbers;
      fits = i.fits;
      parents = other_stores d b words log place k 0 row i.parents h l (false_at (told row) u k (omega (arith, n, l)));
      apart = λ p r held o.
          elim (zero_or words (8 * place + k) (8 * p)) [
            | inl e ↦ subst (λ w. IsOtherKind (w % 2 ^ 8)) (sym e) (i.apart p r held o)
            | inr e ↦ subst (λ w. IsOtherKind (w % 2 ^ 8)) (sym e) (no_kind _ refl)
          ];
    }
