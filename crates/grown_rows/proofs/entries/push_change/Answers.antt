use Rattle.std.proofs.Common.{rules, subst, ◌++◌, ◌∷◌, []}
use Rattle.record_rows.specs.Rows.{ChangeRow}
use Rattle.grown_rows.specs.Aimed.{tails_before}
use Rattle.grown_rows.specs.Growths.{IsGrowth}
use Rattle.grown_rows.proofs.FillLemmas.{place_is, filled_first}
use Rattle.grown_rows.proofs.EntryLemmas.{change_grown}
use Rattle.grown_rows.proofs.entries.push_change.Goals as goal

pub returns-clause-pushed : goal.returns-clause-pushed
returns-clause-pushed c old more is at ends before =
    subst (IsGrowth old (more ++ ChangeRow c.args.entry c.args.changed ∷ []))
    (filled_first c.args.growth.now c.put.new.self c.fill.new.self c.fill_before.new.growth (c.change_word.result ∷ c.args.changed.pair.a ∷ c.args.changed.pair.b ∷ c.args.entry ∷ c.args.edge ∷ 0 ∷ 0 ∷ 0 ∷ [])
    c.args.last (tails_before 6 c.args.before) c.next_place-place.result (search rules) c.in_ok-fill.ensures.filled c.in_ok-fill_before.ensures.filled)
    (change_grown old more c.args.growth.now is c.next_place-place.result (place_is old more c.args.growth.now is _ c.next_place-place.ensures.whole) c.args.entry c.args.changed c.change_word.result c.args.edge c.args.last c.args.before
    (search rules) c.requires.last.1 at ends before)

pub returns-clause-place : goal.returns-clause-place
returns-clause-place c old more is = place_is old more c.args.growth.now is _ c.next_place-place.ensures.whole
