use Rattle.job_files.proofs.ReadLines.{reads_one}
use Rattle.job_files.proofs.reading.read_next.Goals as goal

pub returns-in-Ok-clause-reads : goal.returns-in-Ok-clause-reads
returns-in-Ok-clause-reads g c =
    let back = c.read_source-source.result.source in
    let e = c.read_source-source.ensures in
    reads_one g.P.In.Source.left g.P.In.Source.faults c.args.name.now c.args.source back c.read_source-source.result.lines c.in-Ok.lines c.args.read.now.items c.put.new.list.items
    (g.P.Place.state c.args.place.now) (g.P.Place.state c.keep_request.new.place)
    c.in-Ok.is e.lines e.few e.front c.requires.fresh c.keep_request.ensures.step c.put.ensures.items
