-- Inner: no clause of `run` is made of it.
-- What pinned locks keep.
use Rattle.std.specs.Prelude.{◌≡◌, true, List, ℕ, None}
use Rattle.std.specs.List.{AllByRecursion}
use Rattle.node_ids.specs.Ids.{IsLayout, LayoutForm}
use Rattle.graph_model.specs.Lists.{has}
use Rattle.op_model.specs.declared.base.Dataset.{Dataset}
use Rattle.op_model.specs.declared.base.Base.{Base}
use Rattle.op_model.specs.declared.request.Edit.{Edit}
use Rattle.op_model.specs.declared.entry.Changed.{Changed}
use Rattle.op_model.specs.declared.entry.Entry.{Entry}
use Rattle.op_model.specs.Valid.{IsDataset, IsBase}
use Rattle.op_model.specs.Operations.{touched, next_entry}
use Rattle.op_model.specs.Refusals.{refuse_early}
use Rattle.op_model.specs.Legal.{Legal, LegalPlan}
use Rattle.op_model.specs.Laws.{Lasts}
use Rattle.op_model.specs.Locks.{lock_of}
use Rattle.shared_rows.specs.Locks.{Covers, Follows}
use Rattle.root_locks.specs.Masks.{has_bit, locks_below}

-- the locks of all roots that an edit touches at the log are pinned
abbrev pub TouchedPinned : Dataset → Base → List Entry → Edit → List ℕ → Type 0
TouchedPinned d b log edit pinned = AllByRecursion (λ root. has pinned (lock_of d.layout root) ≡ true) (touched d b log edit)

-- what is not refused early and has its roots' locks pinned at a log stays as it is at a later one that the pins allow
abbrev pub PinsKeepEdits : Type 0
PinsKeepEdits =
    (d : Dataset) (b : Base) (later log : List Entry) (edit : Edit) (pinned : List ℕ) → IsLayout d.layout → Legal d b log → Legal d b later → refuse_early d b log edit ≡ None
    → TouchedPinned d b log edit pinned → Follows d.layout later log pinned → Lasts d b log later edit × TouchedPinned d b later edit pinned

-- and a legal plan stays legal
abbrev pub PinsKeepPlans : Type 0
PinsKeepPlans =
    (d : Dataset) (b : Base) (later log : List Entry) (edit : Edit) (changed : List Changed) (pinned : List ℕ) → IsLayout d.layout → Legal d b log → Legal d b later → LegalPlan d b log edit changed
    → TouchedPinned d b log edit pinned → Follows d.layout later log pinned → LegalPlan d b later edit changed

-- the locks of the roots that the next entry retires are pinned if those of the roots that its edit touches are
abbrev pub RetiredAreTouched : Type 0
RetiredAreTouched =
    (d : Dataset) (b : Base) (log : List Entry) (client line at : ℕ) (edit : Edit) (pinned : List ℕ) → IsDataset d → IsBase d b → Legal d b log → refuse_early d b log edit ≡ None
    → TouchedPinned d b log edit pinned → Covers d.layout pinned (next_entry d b log client line at edit)

-- a mask that has the locks of some roots: once they are taken, all of these locks are held
abbrev pub MasksHold : Type 0
MasksHold =
    (layout : LayoutForm) (roots : List ℕ) (mask : ℕ) → AllByRecursion (λ root. has_bit mask (lock_of layout root) ≡ true) roots
    → AllByRecursion (λ root. has (locks_below mask 64) (lock_of layout root) ≡ true) roots
