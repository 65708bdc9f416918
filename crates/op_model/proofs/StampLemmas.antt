-- The timestamp of a next entry.
use Rattle.std.proofs.Common.{◌≡◌, ℕ, ◌-◌, ◌^◌, ◌<◌, List, arith}
use Rattle.op_model.specs.declared.entry.Entry.{Entry}
use Rattle.op_model.specs.Refusals.{last_at}
use Rattle.op_model.specs.Stamps.{stamp}

pub stamps : (log : List Entry) (clock : ℕ)
    → (last_at log < stamp log clock)
    × (last_at log < 2 ^ 62 - 1 → stamp log clock < 2 ^ 62)
    × (last_at log < clock → clock < 2 ^ 62 → stamp log clock ≡ clock)
unfolding stamp
stamps log clock = (omega arith, λ l. omega arith, λ l m. omega arith)
