use Rattle.job_files.proofs.Openings.{opening_same, source_later}
use Rattle.job_files.proofs.opening.open_request.Goals as goal

pub returns-clause-same : goal.returns-clause-same
returns-clause-same g c =
    let e = c.source_of.ensures in
    opening_same c.source_of.result c.as_str.result.now (g.P.Place.state c.args.place.now) (g.P.Place.state c.source_of.new.self)
    e.files e.left e.still e.other_kind e.still_here e.only_here

pub returns-clause-later : goal.returns-clause-later
returns-clause-later g c =
    let e = c.source_of.ensures in
    source_later c.as_str.result.now (g.P.Place.state c.args.place.now) (g.P.Place.state c.source_of.new.self)
    e.later e.other_kind e.only_kind e.only_here
