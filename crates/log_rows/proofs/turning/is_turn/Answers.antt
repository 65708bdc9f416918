use Rattle.std.proofs.Common.{sym, subst}
use Rattle.record_rows.specs.Readings.{ParentImage}
use Rattle.log_rows.specs.Entries.{AtEntry}
use Rattle.log_rows.proofs.WalkBack.{entry_there}
use Rattle.log_rows.proofs.turning.is_turn.Goals as goal

pub is_about-requires : goal.is_about-requires
is_about-requires g c =
    let i = c.requires.entry in
    let e = entry_there i.0 i.1 i.2 _ i.3.legal i.4 in
    let a : AtEntry (g.W.Words.words c.args.w.now) c.entry_spot-spot.result =
    record { dataset = i.0; base = i.1; log = i.2; entry = e.0; image = i.3; stands = c.entry_spot-spot.ensures.is i.0 i.1 i.2 e.0 i.3 e.1 } in
    record { entry = subst (λ w. AtEntry (g.W.Words.words w) c.entry_spot-spot.result) (sym c.entry_spot-spot.ensures.same) a }

pub returns-clause-is : goal.returns-clause-is
returns-clause-is g c = λ d b log e i found.
    c.is_about.ensures.is d b log e (subst (λ w. ParentImage d b log (g.W.Words.words w)) (sym c.entry_spot-spot.ensures.same) i) (c.entry_spot-spot.ensures.is d b log e i found)
