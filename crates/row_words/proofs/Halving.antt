-- What halving keeps: the ids below the part that is left are lesser, and those above it are greater.
use Rattle.std.proofs.Common.{◌≡◌, ◌≢◌, ℕ, ◌+◌, ◌*◌, ◌<◌, ◌≤◌, List, length, subst, inl, inr, ◌⊎◌, arith}
use Rattle.std.proofs.lemmas.Bool.{cases_lt}
use Rattle.record_rows.specs.Sorted.{Sorted, id_at}

abbrev pub Lesser : List ℕ → ℕ → ℕ → ℕ → Type 0
Lesser words first low id = (p : ℕ) → first ≤ p → p < first + low → id_at words p < id

abbrev pub Greater : List ℕ → ℕ → ℕ → ℕ → ℕ → Type 0
Greater words first count high id = (p : ℕ) → first + high ≤ p → p < first + count → id < id_at words p

pub lesser_none : (words : List ℕ) (first id : ℕ) → Lesser words first 0 id
lesser_none words first id = λ p l h. absurd (omega arith)

pub greater_none : (words : List ℕ) (first count id : ℕ) → Greater words first count count id
greater_none words first count id = λ p l h. absurd (omega arith)

-- a lesser id in the middle: so are all below it
pub lesser_more : (words : List ℕ) (first count middle id : ℕ) → Sorted words first count → middle < count → id_at words (first + middle) < id → Lesser words first (middle + 1) id
lesser_more words first count middle id s m l = λ p low high. go p low high (cases_lt p (first + middle))
  where
    go : (p : ℕ) → first ≤ p → p < first + (middle + 1) → (p < first + middle) ⊎ (first + middle ≤ p) → id_at words p < id
    go p low high (inl h) = let a : id_at words p < id_at words (first + middle) = s.ascending p (first + middle) low h (omega arith) in omega arith
    go p low high (inr h) = let e : first + middle ≡ p = omega arith in subst (λ q. id_at words q < id) e l

-- a greater id in the middle: so are all above it
pub greater_more : (words : List ℕ) (first count middle id : ℕ) → Sorted words first count → id < id_at words (first + middle) → Greater words first count middle id
greater_more words first count middle id s l = λ p low high. go p low high (cases_lt (first + middle) p)
  where
    go : (p : ℕ) → first + middle ≤ p → p < first + count → (first + middle < p) ⊎ (p ≤ first + middle) → id < id_at words p
    go p low high (inl h) = let a : id_at words (first + middle) < id_at words p = s.ascending (first + middle) p (omega arith) h high in omega arith
    go p low high (inr h) = let e : first + middle ≡ p = omega arith in subst (λ q. id < id_at words q) e l

-- nothing is left: none has the id
pub absent : (words : List ℕ) (first count low high id : ℕ) → Lesser words first low id → Greater words first count high id → high ≤ low
    → (p : ℕ) → first ≤ p → p < first + count → id_at words p ≢ id
absent words first count low high id l g h p from to e = go (cases_lt p (first + low))
  where
    go : (p < first + low) ⊎ (first + low ≤ p) → ⊥
    go (inl q) = let a : id_at words p < id = l p from q in absurd (omega arith)
    go (inr q) = let a : id < id_at words p = g p (omega arith) to in absurd (omega arith)

-- the record in the middle lies within the words
pub within_middle : (words : List ℕ) (first count middle : ℕ) → Sorted words first count → middle < count → 8 * (first + middle) + 8 ≤ length words
within_middle words first count middle s m = let w : 8 * (first + count) ≤ length words = s.within in omega arith
