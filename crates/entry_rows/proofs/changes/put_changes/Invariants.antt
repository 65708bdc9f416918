use Rattle.std.proofs.Common.{◌≡◌, ◌+◌, ◌*◌, List, ◌++◌, length, take, None}
use Rattle.record_rows.specs.Rows.{Row}
use Rattle.grown_rows.specs.Aimed.{ChangesEnd}
use Rattle.grown_rows.specs.Growths.{IsGrowth}
use Rattle.entry_rows.specs.Changes.{AreChanges}
use Rattle.entry_rows.proofs.ChangeSteps.{rows_by}
use Rattle.entry_rows.proofs.changes.put_changes.Given as goal

abbrev pub invariant-loop-change : goal.invariant-loop-change
invariant-loop-change l =
    ((old more : List Row) → IsGrowth old more l.fn.growth → ChangesEnd l.entry (old ++ more) None → AreChanges (old ++ more) l.changes
    → IsGrowth old (more ++ rows_by l.entry (take l.change-index l.changes)) l.growth × ChangesEnd l.entry (old ++ (more ++ rows_by l.entry (take l.change-index l.changes))) l.before)
    × (length l.growth.more ≡ length l.fn.growth.more + 8 * l.change-index) × (l.growth.tail ≡ l.fn.growth.tail)
