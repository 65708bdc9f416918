-- What pinned locks keep.
use Rattle.std.proofs.Common.{◌≡◌, ℕ, true, false, true≢false, List, [], ◌∷◌, ◌++◌, refl, sym, ap, ◌∙◌, subst, ◌||◌, ne_eqb}
use mathlib.Core.Logic.{dite}
use native.Mathlib.Decide.{ℕ_discrete}
use Rattle.std.specs.List.{AllByRecursion}
use Rattle.node_ids.specs.Ids.{LayoutForm}
use Rattle.graph_model.specs.Lists.{has}
use Rattle.op_model.specs.declared.entry.Entry.{Entry}
use Rattle.op_model.specs.Operations.{touched}
use Rattle.op_model.specs.Legal.{Legal, LegalPlan}
use Rattle.op_model.specs.Laws.{Lasts}
use Rattle.op_model.proofs.LastingLemmas.{lasts, legal_plan_lasts}
use Rattle.op_model.specs.Locks.{lock_of}
use Rattle.shared_rows.specs.Locks.{Spares}
use Rattle.root_locks.specs.Laws.{PinsKeepEdits, PinsKeepPlans}

-- a root whose lock is pinned isn't among those that an entry retired
not-retired : (f : LayoutForm) (pinned : List ℕ) (r : ℕ) → has pinned (lock_of f r) ≡ true → (retired : List ℕ) → AllByRecursion (λ root. has pinned (lock_of f root) ≡ false) retired → has retired r ≡ false
not-retired f pinned r held [] s = refl
not-retired f pinned r held (x ∷ xs) s = dite (ℕ_discrete x r)
    (λ same. absurd (true≢false (sym held ∙ ap (λ y. has pinned (lock_of f y)) (sym same) ∙ s.0)))
    (λ apart. ap (λ c. c || has xs r) (ne_eqb x r apart) ∙ not-retired f pinned r held xs s.1)

one-spared : (f : LayoutForm) (pinned roots : List ℕ) (e : Entry) → AllByRecursion (λ r. has pinned (lock_of f r) ≡ true) roots → Spares f pinned e → AllByRecursion (λ r. has e.retired r ≡ false) roots
one-spared f pinned [] e h s = tt
one-spared f pinned (r ∷ rs) e h s = (not-retired f pinned r h.0 e.retired s, one-spared f pinned rs e h.1 s)

all-spared : (f : LayoutForm) (pinned roots : List ℕ) (newer : List Entry) → AllByRecursion (λ r. has pinned (lock_of f r) ≡ true) roots → AllByRecursion (Spares f pinned) newer
    → AllByRecursion (λ (e : Entry). AllByRecursion (λ r. has e.retired r ≡ false) roots) newer
all-spared f pinned roots [] h s = tt
all-spared f pinned roots (e ∷ es) h s = (one-spared f pinned roots e h s.0, all-spared f pinned roots es h s.1)

pub pins_keep_edits : PinsKeepEdits
pins_keep_edits d b later [] edit pinned bits before legal early pins follows = absurd before
pins_keep_edits d b later (e ∷ log) edit pinned bits before legal early pins follows =
    let there : Legal d b (follows.newer ++ e ∷ log) = subst (Legal d b) follows.is legal in
    let kept : Lasts d b (e ∷ log) (follows.newer ++ e ∷ log) edit = lasts d b follows.newer e log edit bits there early (all-spared d.layout pinned (touched d b (e ∷ log) edit) follows.newer pins follows.spared) in
    let same : Lasts d b (e ∷ log) later edit = subst (λ l. Lasts d b (e ∷ log) l edit) (sym follows.is) kept in
    (same, subst (AllByRecursion (λ root. has pinned (lock_of d.layout root) ≡ true)) (sym same.touched) pins)

pub pins_keep_plans : PinsKeepPlans
pins_keep_plans d b later [] edit changed pinned bits before legal plan pins follows = absurd before
pins_keep_plans d b later (e ∷ log) edit changed pinned bits before legal plan pins follows =
    let there : Legal d b (follows.newer ++ e ∷ log) = subst (Legal d b) follows.is legal in
    subst (λ l. LegalPlan d b l edit changed) (sym follows.is) (legal_plan_lasts d b follows.newer e log edit changed bits there plan (all-spared d.layout pinned (touched d b (e ∷ log) edit) follows.newer pins follows.spared))
