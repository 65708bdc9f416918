use Rattle.job_files.proofs.ReadLines.{each_count, each_read, some_begun}
use Rattle.job_files.proofs.reading.read_requests.Goals as goal

pub returns-in_default-clause-begun : goal.returns-in_default-clause-begun
returns-in_default-clause-begun g c =
    some_begun g.P.In.Source.left g.P.In.Source.faults c.args.names.now c.args.sources.items (g.P.Place.state c.args.place.now) (g.P.Place.state c.keep_requests.new.place) c.keep_requests.ensures.each

pub returns-then-read_each-clause-read : goal.returns-then-read_each-clause-read
returns-then-read_each-clause-read g c =
    each_read g.P.In.Source.left c.args.names.now c.args.sources.items c.read_each.result c.read_each.new.read.items (g.P.Place.state c.args.place.now) (g.P.Place.state c.read_each.new.place) c.read_each.ensures.reads c.if-read_each.true

pub returns-then-read_each-clause-count : goal.returns-then-read_each-clause-count
returns-then-read_each-clause-count g c =
    each_count g.P.In.Source.left c.args.names.now c.args.sources.items c.read_each.result c.read_each.new.read.items (g.P.Place.state c.args.place.now) (g.P.Place.state c.read_each.new.place) c.read_each.ensures.reads c.if-read_each.true c.requires.each
