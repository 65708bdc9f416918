use Rattle.std.proofs.Common.{sym, subst}
use Rattle.record_rows.specs.Readings.{Image}
use Rattle.record_rows.proofs.ImageFacts.{parent_image}
use Rattle.log_rows.specs.Entries.{InEntry}
use Rattle.log_rows.proofs.WalkBack.{entry_there}
use Rattle.timestamp_reader.proofs.entries.entry.Goals as goal

pub entry_spot-spot-requires : goal.entry_spot-spot-requires
entry_spot-spot-requires g c = let r = c.requires.entry in record { entry = (r.0, r.1, r.2, parent_image r.0 r.1 r.2 _ r.3, r.4) }

pub entry_at_spot-requires : goal.entry_at_spot-requires
entry_at_spot-requires g c =
    let r = c.requires.entry in
    let e = entry_there r.0 r.1 r.2 c.args.n r.3.legal r.4 in
    let a : InEntry (g.W.Words.words c.args.w.now) c.entry_spot-spot.result = record { dataset = r.0; base = r.1; log = r.2; entry = e.0; image = r.3; stands = c.entry_spot-spot.ensures.is r.0 r.1 r.2 e.0 (parent_image r.0 r.1 r.2 _ r.3) e.1 } in
    record { entry = subst (λ w. InEntry (g.W.Words.words w) c.entry_spot-spot.result) (sym c.entry_spot-spot.ensures.same) a }

pub returns-clause-is : goal.returns-clause-is
returns-clause-is g c d b log e i at =
    c.entry_at_spot.ensures.is d b log e (subst (λ w. Image d b log (g.W.Words.words w)) (sym c.entry_spot-spot.ensures.same) i) (c.entry_spot-spot.ensures.is d b log e (parent_image d b log _ i) at)
