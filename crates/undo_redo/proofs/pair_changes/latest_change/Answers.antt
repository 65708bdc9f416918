use Rattle.std.proofs.Common.{◌∙◌, sym, ap, subst}
use Rattle.record_rows.specs.Readings.{Image}
use Rattle.undo_redo.proofs.LastChanges.{last_state_is, last_entry_is}
use Rattle.undo_redo.proofs.pair_changes.latest_change.Goals as goal

pub changer-entry-requires : goal.changer-entry-requires
changer-entry-requires g c =
    let (d, b, log, entry, x, i, h) = c.requires.change in
    let last = c.last_of_pair-last.ensures.is d b log entry x i h in
    record { change = (d, b, log, last.0.0, last.0.1, subst (λ w. Image d b log (g.W.Words.words w)) (sym c.last_of_pair-last.ensures.same) i, last.0.2) }

pub changed-active-requires : goal.changed-active-requires
changed-active-requires g c =
    let (d, b, log, entry, x, i, h) = c.requires.change in
    let last = c.last_of_pair-last.ensures.is d b log entry x i h in
    record { change = (d, b, log, last.0.0, last.0.1, subst (λ w. Image d b log (g.W.Words.words w)) (sym (c.changer-entry.ensures.same ∙ c.last_of_pair-last.ensures.same)) i, last.0.2) }

pub returns-clause-entry : goal.returns-clause-entry
returns-clause-entry g c = λ d b log entry x i h.
    let last = c.last_of_pair-last.ensures.is d b log entry x i h in
    c.changer-entry.ensures.is d b log last.0.0 last.0.1 (subst (λ w. Image d b log (g.W.Words.words w)) (sym c.last_of_pair-last.ensures.same) i) last.0.2
    ∙ last_entry_is d b log i.legal x.pair c.last_of_pair-last.result last last.0.0 last.0.1 last.0.2 last.0.3

pub returns-clause-state : goal.returns-clause-state
returns-clause-state g c = λ d b log entry x i h.
    let last = c.last_of_pair-last.ensures.is d b log entry x i h in
    ap (λ y. y.active) (c.changed-active.ensures.is d b log last.0.0 last.0.1 (subst (λ w. Image d b log (g.W.Words.words w)) (sym (c.changer-entry.ensures.same ∙ c.last_of_pair-last.ensures.same)) i) last.0.2)
    ∙ last_state_is d b log i.legal x.pair c.last_of_pair-last.result last last.0.0 last.0.1 last.0.2 last.0.3
