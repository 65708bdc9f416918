use Rattle.std.proofs.Common.{sym, subst}
use Rattle.record_rows.specs.Readings.{Image}
use Rattle.record_rows.proofs.ImageFacts.{parent_image}
use Rattle.log_rows.specs.Entries.{AtEntry, InEntry, IsNumberAt}
use Rattle.log_rows.proofs.changing.all_changed_at.Goals as goal

pub number-n-requires : goal.number-n-requires
number-n-requires g c =
    let r = c.requires.entry in
    let a : AtEntry (g.W.Words.words c.args.w.now) c.args.entry = record { dataset = r.dataset; base = r.base; log = r.log; entry = r.entry; image = parent_image r.dataset r.base r.log _ r.image; stands = r.stands } in
    record { entry = a }

pub changes_of-requires-clause-entry : goal.changes_of-requires-clause-entry
changes_of-requires-clause-entry g c = subst (λ w. InEntry (g.W.Words.words w) c.args.entry) (sym c.number-n.ensures.same) c.requires.entry

pub changes_of-requires-clause-number : goal.changes_of-requires-clause-number
changes_of-requires-clause-number g c = subst (λ w. IsNumberAt (g.W.Words.words w) c.args.entry c.number-n.result) (sym c.number-n.ensures.same) c.number-n.ensures.is

pub returns-clause-is : goal.returns-clause-is
returns-clause-is g c = λ d b log e i h. c.changes_of.ensures.is d b log e (subst (λ w. Image d b log (g.W.Words.words w)) (sym c.number-n.ensures.same) i) h
