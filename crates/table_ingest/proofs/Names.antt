-- Ids in a set, and in a list.
use Rattle.std.proofs.Common.{◌≡◌, ℕ, Bool, true, false, not, cond, ◌||◌, eqb, List, [], ◌∷◌, ◌++◌, nat_eq, Ok, Err, refl, sym, ap, ◌∙◌, arith}
use Rattle.std.specs.List.{list_any}
use Rattle.indexmap.specs.IndexSet.{insert_key}
use Rattle.op_model.specs.Lists.{has}
use Rattle.op_model.specs.declared.base.Dataset.{Dataset}
use Rattle.table_ingest.specs.Faults.{◌>>=◌, only_if}
use Rattle.table_ingest.specs.Supervoxels.{placed_id, supervoxel_of}
use Rattle.table_ingest.specs.declared.errors.Cause.TheVariants as cause

eqb_sym : (x y : ℕ) → eqb x y ≡ eqb y x
eqb_sym x y = grind arith

-- the set asks the other way round
pub has_name : (ids : List ℕ) (id : ℕ) → list_any (nat_eq id) ids ≡ has ids id
has_name [] id = refl
has_name (x ∷ xs) id = ap (λ b. b || list_any (nat_eq id) xs) (eqb_sym id x) ∙ ap (λ b. eqb x id || b) (has_name xs id)

pub added_is : (b added : Bool) → added ≡ not b → added ≡ true → b ≡ false
added_is false added is there = refl
added_is true added is there = cc (is, there)

pub there_is : (b added : Bool) → added ≡ not b → added ≡ false → b ≡ true
there_is true added is there = refl
there_is false added is there = cc (is, there)

-- a key that isn't there goes last
pub goes_last : {T : Type 0} (eq : T → T → Bool) (keys : List T) (k : T) → list_any (eq k) keys ≡ false → insert_key eq keys k ≡ keys ++ k ∷ []
goes_last eq keys k e = ap (λ b. cond b keys (keys ++ k ∷ [])) e

supervoxel_is : (d : Dataset) (before : List ℕ) (fields : List (List ℕ)) (id : ℕ) (b : Bool) → Ok id ≡ placed_id d fields → list_any (nat_eq id) before ≡ b
    → supervoxel_of d before fields ≡ cond (not b) (Ok id) (Err cause.DoubleSupervoxel)
unfolding supervoxel_of
supervoxel_is d before fields id b is seen =
    ap (λ m. m >>= only_if (λ v. not (has before v)) cause.DoubleSupervoxel) (sym is)
    ∙ ap (λ (x : Bool). cond (not x) (Ok id) (Err cause.DoubleSupervoxel)) (sym (has_name before id) ∙ seen)

-- an id that isn't there yet is taken
pub took_id : (d : Dataset) (before after : List ℕ) (fields : List (List ℕ)) (id : ℕ) (added : Bool) → Ok id ≡ placed_id d fields → added ≡ not (list_any (nat_eq id) before)
    → after ≡ insert_key nat_eq before id → added ≡ true → (x : ℕ) × (supervoxel_of d before fields ≡ Ok x) × (after ≡ before ++ x ∷ [])
took_id d before after fields id added is new keys there =
    let seen = added_is _ added new there in
    (id, supervoxel_is d before fields id false is seen, keys ∙ goes_last nat_eq before id seen)

-- one that is there has its cause
pub double_id : (d : Dataset) (before : List ℕ) (fields : List (List ℕ)) (id : ℕ) (added : Bool) → Ok id ≡ placed_id d fields → added ≡ not (list_any (nat_eq id) before)
    → added ≡ false → supervoxel_of d before fields ≡ Err cause.DoubleSupervoxel
double_id d before fields id added is new there = supervoxel_is d before fields id true is (there_is _ added new there)
