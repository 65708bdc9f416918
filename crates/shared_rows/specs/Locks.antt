-- Inner: no clause of `run` is made of it.
-- Which roots' locks an entry touches, and logs that grow beside them.
use Rattle.std.specs.Prelude.{◌≡◌, ℕ, ◌==◌, true, false, if◌then◌else◌, List, [], ◌∷◌, ◌++◌}
use Rattle.std.specs.List.{AllByRecursion}
use Rattle.node_ids.specs.Ids.{LayoutForm}
use Rattle.graph_model.specs.Lists.{has}
use Rattle.op_model.specs.declared.entry.Entry.{Entry}
use Rattle.op_model.specs.Locks.{lock_of}

-- the entry retired no root with one of these locks
abbrev pub Spares : LayoutForm → List ℕ → Entry → Type 0
Spares layout locks e = AllByRecursion (λ root. has locks (lock_of layout root) ≡ false) e.retired

-- these are the locks of all roots that the entry retired, and perhaps more
abbrev pub Covers : LayoutForm → List ℕ → Entry → Type 0
Covers layout locks e = AllByRecursion (λ root. has locks (lock_of layout root) ≡ true) e.retired

-- the list without l
abbrev pub without : ℕ → List ℕ → List ℕ
without l [] = []
without l (x ∷ xs) = if x == l then without l xs else x ∷ without l xs

-- the log before its newest entries is the one seen, and these retired no root with one of these locks
pub record Follows (layout : LayoutForm) (log seen : List Entry) (locks : List ℕ) : Type 0 where
  pub newer : List Entry
  pub is : log ≡ newer ++ seen
  pub spared : AllByRecursion (Spares layout locks) newer
