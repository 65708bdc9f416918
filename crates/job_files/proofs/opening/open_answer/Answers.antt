use Rattle.std.proofs.Common.{rules}
use Rattle.job_files.proofs.AnswerOpenings.{answer_opens, sink_later}
use Rattle.job_files.proofs.opening.open_answer.Goals as goal

pub returns-clause-empties : goal.returns-clause-empties
returns-clause-empties g c =
    let e = c.in-Ok.ensures in
    answer_opens c.args.name.now c.as_str.result.now (g.P.Place.state c.args.place.now) (g.P.Place.state c.sink_of.new.self)
    (search rules) e.made e.left e.other_kind e.still e.still_here e.only_here

pub returns-clause-later : goal.returns-clause-later
returns-clause-later g c =
    let e = c.sink_of.ensures in
    sink_later c.as_str.result.now (g.P.Place.state c.args.place.now) (g.P.Place.state c.sink_of.new.self)
    e.later e.other_kind e.only_kind e.only_here

pub returns-in-Err-clause-later : goal.returns-in-Err-clause-later
returns-in-Err-clause-later g c =
    let e = c.sink_of.ensures in
    sink_later c.as_str.result.now (g.P.Place.state c.args.place.now) (g.P.Place.state c.sink_of.new.self)
    e.later e.other_kind e.only_kind e.only_here
