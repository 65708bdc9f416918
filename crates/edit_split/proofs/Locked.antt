-- The lock of the root of a split's marks.
use Rattle.std.proofs.Common.{◌≡◌, ℕ, ◌<◌, Bool, true, false, ◌||◌, eqb, List, [], ◌∷◌, ◌++◌, length, map, get_or, None, refl, sym, ◌∙◌, ap, ap₂, arith}
use Rattle.std.specs.List.{AllByRecursion}
use Rattle.op_model.specs.declared.base.Dataset.{Dataset}
use Rattle.op_model.specs.declared.base.Base.{Base}
use Rattle.op_model.specs.declared.request.Edit.TheVariants.{Split}
use Rattle.op_model.specs.declared.entry.Entry.{Entry}
use Rattle.graph_model.specs.Lists.{has}
use Rattle.op_model.specs.Labels.{root}
use Rattle.op_model.specs.Locks.{lock_of}
use Rattle.op_model.specs.Operations.{touched}
use Rattle.op_model.specs.Refusals.{refuse_early}
use Rattle.root_masks.specs.Masks.{has_bit}
use Rattle.root_masks.specs.Plans.{AreLocks}
use Rattle.root_masks.proofs.Asked.{no_bits}
use Rattle.edit_split.proofs.Refused.{passes}

all_append : (P : ℕ → Type 0) (xs ys : List ℕ) → AllByRecursion P xs → AllByRecursion P ys → AllByRecursion P (xs ++ ys)
all_append P [] ys a b = b
all_append P (x ∷ xs) ys a b = (a.0, all_append P xs ys a.1 b)

-- marks of one root have one lock
one_lock : (f : ℕ → ℕ) (k : ℕ) (xs : List ℕ) → 0 < length xs → AllByRecursion (λ v. f v ≡ k) xs → (l : ℕ) → has (map f xs) l ≡ eqb k l
one_lock f k [] s a l = absurd (omega arith)
one_lock f k (x ∷ []) s a l = ap (λ n. eqb n l || false) a.0 ∙ go (eqb k l)
  where
    go : (t : Bool) → (t || false) ≡ t
    go true = refl
    go false = refl
one_lock f k (x ∷ y ∷ xs) s a l = ap₂ (λ (n : ℕ) (t : Bool). eqb n l || t) a.0 (one_lock f k (y ∷ xs) (omega arith) a.1 l) ∙ go (eqb k l)
  where
    go : (t : Bool) → (t || t) ≡ t
    go true = refl
    go false = refl

map_twice : (f g : ℕ → ℕ) (xs : List ℕ) → map f (map g xs) ≡ map (λ x. f (g x)) xs
map_twice f g [] = refl
map_twice f g (x ∷ xs) = ap (λ ys. f (g x) ∷ ys) (map_twice f g xs)

all_locks : (f g : ℕ → ℕ) (k : ℕ) (xs : List ℕ) → AllByRecursion (λ v. g v ≡ k) xs → AllByRecursion (λ v. f (g v) ≡ f k) xs
all_locks f g k [] a = tt
all_locks f g k (x ∷ xs) a = (ap f a.0, all_locks f g k xs a.1)

some_more : (xs ys : List ℕ) → 0 < length xs → 0 < length (xs ++ ys)
some_more [] ys l = absurd (omega arith)
some_more (x ∷ xs) ys l = omega arith

pub split_locks : (d : Dataset) (b : Base) (log : List Entry) (sources sinks : List ℕ) (mask : ℕ) → refuse_early d b log (Split sources sinks) ≡ None
    → ((l : ℕ) → has_bit mask l ≡ (has_bit 0 l || eqb (lock_of d.layout (root d b log (get_or sources 0 0))) l)) → AreLocks d b log (Split sources sinks) mask
unfolding touched
split_locks d b log sources sinks mask h is =
    let p = passes d b log sources sinks h in
    let r : ℕ = root d b log (get_or sources 0 0) in
    let one : AllByRecursion (λ v. root d b log v ≡ root d b log (get_or sources 0 0)) (sources ++ sinks) = all_append (λ v. root d b log v ≡ root d b log (get_or sources 0 0)) sources sinks p.rooted_sources p.rooted_sinks in (
      h,
      λ l. is l ∙ (ap (λ t. t || eqb (lock_of d.layout r) l) (no_bits l)
          ∙ sym (ap (λ xs. has xs l) (map_twice (lock_of d.layout) (root d b log) (sources ++ sinks))
          ∙ one_lock (λ v. lock_of d.layout (root d b log v)) (lock_of d.layout r) (sources ++ sinks) (some_more sources sinks p.some_sources) (all_locks (lock_of d.layout) (root d b log) r (sources ++ sinks) one) l)),
    )
