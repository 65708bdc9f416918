-- Records read in turn, each with the meanings of those before it.
use Rattle.std.proofs.Common.{◌≡◌, ◌∙◌, ℕ, ◌+◌, List, [], ◌∷◌, ◌++◌, map, Result, Ok, sym, ap, subst, append_assoc, append-nil}
use Rattle.std.specs.List.{AllByRecursion}
use Rattle.table_ingest.specs.Tables.{at_record, meanings}
use Rattle.table_ingest.specs.declared.errors.Cause.{Cause}
use Rattle.table_ingest.specs.declared.errors.Table.{Table}

module _ {X A : Type 0} (t : Table) (read : List A → List (List ℕ) → Result A Cause) (f : X → List (List ℕ)) (v : X → A) where
  abbrev pub AllRead : List A → List X → Type 0
  AllRead before [] = Unit {0}
  AllRead before (x ∷ xs) = (read before (f x) ≡ Ok (v x)) × AllRead (before ++ v x ∷ []) xs

  pub all_meant : (xs : List X) (before : List A) (n : ℕ) → AllRead before xs → meanings t read before n (map f xs) ≡ Ok (before ++ map v xs)
  unfolding meanings
  all_meant [] before n h = ap (λ (ys : List A). Ok ys) (sym (append-nil before))
  all_meant (x ∷ xs) before n h =
      ap (λ m. at_record t n m (λ y. meanings t read (before ++ y ∷ []) (n + 1) (map f xs))) h.0
      ∙ all_meant xs (before ++ v x ∷ []) (n + 1) h.1
      ∙ ap (λ (ys : List A). Ok ys) (append_assoc before (v x ∷ []) (map v xs))

  -- one more at the end
  pub all_last : (xs : List X) (x : X) (before : List A) → AllRead before xs → read (before ++ map v xs) (f x) ≡ Ok (v x) → AllRead before (xs ++ x ∷ [])
  all_last [] x before a h = (subst (λ ys. read ys (f x) ≡ Ok (v x)) (append-nil before) h, tt)
  all_last (y ∷ ys) x before a h = (a.0, all_last ys x (before ++ v y ∷ []) a.1 (subst (λ zs. read zs (f x) ≡ Ok (v x)) (sym (append_assoc before (v y ∷ []) (map v ys))) h))

pub each_last : {X : Type 0} (P : X → Type 0) (xs : List X) (x : X) → AllByRecursion P xs → P x → AllByRecursion P (xs ++ x ∷ [])
each_last P [] x a p = (p, tt)
each_last P (y ∷ ys) x a p = (a.0, each_last P ys x a.1 p)

pub each_as : {X : Type 0} (P Q : X → Type 0) (xs : List X) → ((x : X) → P x → Q x) → AllByRecursion P xs → AllByRecursion Q xs
each_as P Q [] f a = tt
each_as P Q (x ∷ xs) f a = (f x a.0, each_as P Q xs f a.1)
