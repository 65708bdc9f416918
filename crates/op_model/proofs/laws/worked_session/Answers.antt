use Rattle.std.proofs.Common.{◌≡◌, ℕ, ◌+◌, ◌<◌, ◌≤◌, Bool, true, false, cond, ltb, leb, nat_eq, [], ◌∷◌, refl, arith, ◌||◌}
use Rattle.std.proofs.lemmas.Bool.{leb-true, ltb-true}
use Rattle.op_model.specs.declared.request.Edit.TheVariants.{Split}
use Rattle.op_model.specs.Cuts.{IsShown, part}
use Rattle.op_model.proofs.Opened.{definitions}
use Rattle.op_model.specs.Samples.{p, q, r, s, join, base, data_a, first_told, shown}
use Rattle.op_model.proofs.laws.worked_session.Goals as goal

-- a vertex that is neither end of the path has as much in as out
balanced : (vp vq vr vs : Bool) → (vp || false) ≡ false → (vs || false) ≡ false
    → 0 + cond vq 5 0 + cond vr 5 0 + cond vs 5 0 ≡ 0 + cond vp 5 0 + cond vq 5 0 + cond vr 5 0
balanced false true true false g h = refl
balanced false true false false g h = refl
balanced false false true false g h = refl
balanced false false false false g h = refl
balanced true vq vr vs g h = cc
balanced vp vq vr true g h = cc

at_most : (m n : ℕ) → leb m n ≡ true → m ≤ n
at_most m n e = leb-true m n e

below : (m n : ℕ) → ltb m n ≡ true → m < n
below m n e = ltb-true m n e

split_shown : IsShown (part data_a base first_told (p ∷ [])) (p ∷ []) (s ∷ []) shown
unfolding definitions
split_shown = record {
  cut = refl;
  total = refl;
  ascending = (refl, (refl, tt));
  within = (refl, (refl, (refl, tt)));
  balanced = λ v no_source no_sink. balanced (nat_eq p v) (nat_eq q v) (nat_eq r v) (nat_eq s v) no_source no_sink;
  value = refl;
}

pub returns : goal.returns
unfolding definitions
returns c = record {
  dataset = record {
    layout = (omega arith, omega arith, omega arith, omega arith);
    x = (omega arith, omega arith, omega arith);
    y = (omega arith, omega arith, omega arith);
    z = (omega arith, omega arith, omega arith);
    merge_affinity = (omega arith, omega arith);
    capacity = (omega arith, omega arith);
  };
  base_is_one = record {
    ascending = (below p q refl, (below q r refl, (below r s refl, tt)));
    supervoxels = ((refl, below _ _ refl, below _ _ refl, below _ _ refl, at_most _ _ refl), ((refl, below _ _ refl, below _ _ refl, below _ _ refl, at_most _ _ refl), ((refl, below _ _ refl, below _ _ refl, below _ _ refl, at_most _ _ refl), ((refl, below _ _ refl, below _ _ refl, below _ _ refl, at_most _ _ refl), tt))));
    edges = ((below _ _ refl, refl, refl, (at_most _ _ refl, below _ _ refl)), ((below _ _ refl, refl, refl, (at_most _ _ refl, below _ _ refl)), ((below _ _ refl, refl, refl, (at_most _ _ refl, below _ _ refl)), tt)));
    once = (refl, (refl, (refl, tt)));
  };
  legal = (
    (Split (p ∷ []) (s ∷ []), refl, refl, below _ _ refl, below _ _ refl),
    (
      (join r s, refl, refl, below _ _ refl, below _ _ refl),
      (refl, below _ _ refl, ((below _ _ refl, (below _ _ refl, (below _ _ refl, (below _ _ refl, tt)))), ((below _ _ refl, (below _ _ refl, (below _ _ refl, (below _ _ refl, tt)))), tt))),
    ),
  );
  replied = (
    1,
    at_most _ _ refl,
    at_most _ _ refl,
    at_most _ _ refl,
    refl,
    (
      refl,
      (
        below _ _ refl,
        at_most _ _ refl,
        (refl, refl, refl, refl, refl, refl, refl, refl, refl),
        (
          at_most _ _ refl,
          at_most _ _ refl,
          at_most _ _ refl,
          refl,
          (
            below _ _ refl,
            at_most _ _ refl,
            (refl, refl, refl, refl, refl, refl, refl, refl, split_shown),
            refl,
          ),
        ),
      ),
    ),
  );
  silent = refl;
  untold = λ t. cc;
}
