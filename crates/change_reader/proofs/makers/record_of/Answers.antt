use Rattle.std.proofs.Common.{◌∙◌, sym}
use Rattle.change_reader.proofs.RootRows.{record_is, record_there}
use Rattle.change_reader.proofs.makers.record_of.Goals as goal

pub unwrap-requires : goal.unwrap-requires
unwrap-requires g c = let r = c.requires.root in record_there r.0 r.1 r.2 _ c.args.root r.3 r.4 c.find.result (c.find.ensures.found r.0 r.1 r.2 r.4.image)

pub returns-clause-is : goal.returns-clause-is
returns-clause-is g c d b log prefix i = record_is d b log _ c.args.root prefix i c.unwrap.result (sym c.unwrap.ensures ∙ c.find.ensures.found d b log i.image)
