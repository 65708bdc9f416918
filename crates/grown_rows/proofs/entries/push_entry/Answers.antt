use Rattle.std.proofs.Common.{rules, subst, sym, ◌≡◌, ◌∙◌, ap, ◌++◌, ◌∷◌, [], arith}
use Rattle.record_rows.specs.Rows.{EntryRow}
use Rattle.grown_rows.specs.Aimed.{tails_at}
use Rattle.grown_rows.specs.Growths.{IsGrowth, filled_by, with_words}
use Rattle.grown_rows.proofs.FillLemmas.{place_is}
use Rattle.grown_rows.proofs.EntryLemmas.{entry_grown}
use Rattle.grown_rows.proofs.Told.{entry_told, told_words}
use Rattle.grown_rows.proofs.entries.push_entry.Goals as goal

pub returns-clause-pushed : goal.returns-clause-pushed
returns-clause-pushed c old more e is new items changes before none retired =
    subst (IsGrowth old (more ++ EntryRow e ∷ []))
    (sym (c.in_ok-fill_retired.ensures.filled ∙ ap (filled_by c.next_place-place.result (tails_at c.args.retired.now)) (let q : c.put.new.self ≡ with_words c.args.growth.now (told_words c.args.entry) = search rules in q)))
    (entry_grown old more c.args.growth.now is c.next_place-place.result (place_is old more c.args.growth.now is _ c.next_place-place.ensures.whole) e (told_words c.args.entry) c.args.retired.now (omega arith)
    (entry_told (old ++ more) e c.args.entry new items changes before) none retired)

pub returns-clause-place : goal.returns-clause-place
returns-clause-place c old more is = place_is old more c.args.growth.now is _ c.next_place-place.ensures.whole
