use Rattle.std.proofs.Common.{◌∷◌, [], get_or}
use Rattle.pcg_words.specs.Job.{request_file}
use Rattle.made_input.specs.Texts.{stream_of}
use Rattle.made_files.proofs.Parts.{none_wrote}
use Rattle.made_files.proofs.making.write_stream.Goals as goal

pub returns-in_default-clause-wrote : goal.returns-in_default-clause-wrote
returns-in_default-clause-wrote g c =
    none_wrote c.args.job.now (g.P.Place.state c.args.place.now)
    ((request_file (get_or c.args.job.now.stems c.args.index []), (stream_of c.args.wish.now c.args.from c.args.wish.now.requests).0) ∷ [])
