use Rattle.std.proofs.Common.{sym, ◌∙◌, subst}
use Rattle.record_rows.specs.Readings.{Image}
use Rattle.log_rows.specs.Entries.{IsFirstChange}
use Rattle.log_rows.proofs.TurnWalks.{all_below, unchanged_end}
use Rattle.log_rows.proofs.WalkBack.{entry_there}
use Rattle.log_rows.proofs.turning.last_about_by_changes.Goals as goal

pub last_from-requires-clause-entry : goal.last_from-requires-clause-entry
last_from-requires-clause-entry g c =
    let i = c.requires.entry in
    (i.0, i.1, i.2, subst (λ w. Image i.0 i.1 i.2 (g.W.Words.words w)) (sym c.first_change.ensures.same) i.3, i.4)

pub last_from-requires-clause-change : goal.last_from-requires-clause-change
last_from-requires-clause-change g c =
    let starts : IsFirstChange (g.W.Words.words c.args.w.now) c.args.op c.in-Some.change = λ d b log i. sym c.in-Some.is ∙ c.first_change.ensures.is d b log i in
    subst (λ w. IsFirstChange (g.W.Words.words w) c.args.op c.in-Some.change) (sym c.first_change.ensures.same) starts

pub returns-in-Some-clause-is : goal.returns-in-Some-clause-is
returns-in-Some-clause-is g c = λ d b log i. c.last_from.ensures.is d b log (subst (λ w. Image d b log (g.W.Words.words w)) (sym c.first_change.ensures.same) i)

pub returns-in-None-clause-is : goal.returns-in-None-clause-is
returns-in-None-clause-is g c = λ d b log i.
    let r = c.requires.entry in
    let x = entry_there d b log c.args.op i.legal (all_below r.0 r.1 r.2 _ c.args.op r.3 r.4 d b log i) in
    unchanged_end d b log _ i c.args.op x.0 x.1 (sym c.in-None.is ∙ c.first_change.ensures.is d b log i)
