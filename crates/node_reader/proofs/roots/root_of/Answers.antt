use Rattle.std.proofs.Common.{sym, subst}
use Rattle.record_rows.specs.Readings.{ParentImage}
use Rattle.node_reader.proofs.roots.root_of.Goals as goal

pub supervoxel_of-spot-requires : goal.supervoxel_of-spot-requires
supervoxel_of-spot-requires g c = let r = c.requires.readable in record { known = (r.0, r.1, r.2, r.3.image, r.4) }

pub root_at-requires : goal.root_at-requires
root_at-requires g c =
    let r = c.requires.readable in
    record {
      supervoxel = (
        r.0,
        r.1,
        r.2,
        c.args.sv,
        subst (λ w. ParentImage r.0 r.1 r.2 (g.W.Words.words w)) (sym c.supervoxel_of-spot.ensures.same) r.3.image,
        c.supervoxel_of-spot.ensures.is r.0 r.1 r.2 r.3.image r.4,
        r.3.low,
        r.3.high,
      );
    }

pub returns-clause-is : goal.returns-clause-is
returns-clause-is g c d b log r known =
    c.root_at.ensures.is d b log c.args.sv
    (subst (λ w. ParentImage d b log (g.W.Words.words w)) (sym c.supervoxel_of-spot.ensures.same) r.image)
    (c.supervoxel_of-spot.ensures.is d b log r.image known)
    r.high
