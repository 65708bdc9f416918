-- What was put twice at one name.
use Rattle.std.proofs.Common.{◌≡◌, ℕ, Bool, true, false, List, cond, Some, refl, sym, ◌∙◌, ap}
use Rattle.std.specs.FinMap.{get, insert, get-insert, same_map, slice_cmp-IsAntisymmetric, nat_cmp-IsAntisymmetric}
use Rattle.std.specs.Ordering.{nat_cmp, eq_by_cmp}
use Rattle.std.specs.Cmp.Lexicographic.{slice_cmp, nat_list_cmp_total}
use Rattle.pcg_base.specs.Told.{Files}

shadowed : {A : Type 0} (b : Bool) (x y z : A) → cond b x (cond b y z) ≡ cond b x z
shadowed true x y z = refl
shadowed false x y z = refl

-- what is put last at a name counts
pub put_twice : (m : Files) (name old new : List ℕ) → insert (insert m name old) name new ≡ insert m name new
put_twice m name old new =
    same_map nat_list_cmp_total (slice_cmp-IsAntisymmetric nat_cmp-IsAntisymmetric) (insert (insert m name old) name new) (insert m name new)
    (λ q. get-insert nat_list_cmp_total (insert m name old) name new q
    ∙ ap (λ z. cond (eq_by_cmp (slice_cmp nat_cmp) q name) (Some new) z) (get-insert nat_list_cmp_total m name old q)
    ∙ shadowed (eq_by_cmp (slice_cmp nat_cmp) q name) (Some new) (Some old) (get m q)
    ∙ sym (get-insert nat_list_cmp_total m name new q))
