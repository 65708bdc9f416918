-- The locks of the roots that an entry retires are pinned if those of the roots that its edit touches are.
use Rattle.std.proofs.Common.{◌≡◌, ℕ, Bool, true, false, true≢false, ◌||◌, ◌⊎◌, inl, inr, ⊎_elim, eqb, List, [], ◌∷◌, refl, sym, subst}
use Rattle.std.specs.List.{AllByRecursion}
use Rattle.std.proofs.lemmas.Bool.{eqb-true}
use Rattle.node_ids.specs.Ids.{LayoutForm}
use Rattle.graph_model.specs.Lists.{has}
use Rattle.op_model.specs.Locks.{lock_of}
use Rattle.op_model.specs.Operations.{touched, next_entry}
use Rattle.op_model.proofs.RetiresLemmas.{retires}
use Rattle.root_locks.specs.Laws.{RetiredAreTouched}

or-one : (p q : Bool) → (p || q) ≡ true → (p ≡ true) ⊎ (q ≡ true)
or-one true q h = inl refl
or-one false q h = inr h

-- the lock of one of these roots
one-pinned : (f : LayoutForm) (pinned roots : List ℕ) (r : ℕ) → AllByRecursion (λ root. has pinned (lock_of f root) ≡ true) roots → has roots r ≡ true → has pinned (lock_of f r) ≡ true
one-pinned f pinned [] r all h = absurd (true≢false (sym h))
one-pinned f pinned (x ∷ xs) r all h =
    ⊎_elim (λ e. subst (λ y. has pinned (lock_of f y) ≡ true) (eqb-true x r e) all.0) (λ later. one-pinned f pinned xs r all.1 later) (or-one (eqb x r) (has xs r) h)

all-pinned : (f : LayoutForm) (pinned roots rs : List ℕ) → AllByRecursion (λ root. has pinned (lock_of f root) ≡ true) roots → AllByRecursion (λ r. has roots r ≡ true) rs → AllByRecursion (λ r. has pinned (lock_of f r) ≡ true) rs
all-pinned f pinned roots [] all h = tt
all-pinned f pinned roots (r ∷ rs) all h = (one-pinned f pinned roots r all h.0, all-pinned f pinned roots rs all h.1)

pub retired_are_touched : RetiredAreTouched
retired_are_touched d b log client line time edit pinned valid base legal early pins =
    all-pinned d.layout pinned (touched d b log edit) (next_entry d b log client line time edit).retired pins (retires d b valid base log client line time edit legal early)
