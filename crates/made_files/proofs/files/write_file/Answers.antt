use Rattle.made_files.proofs.Written.{file_part, file_unmade, file_whole, on_err_so, on_ok_so}
use Rattle.made_files.proofs.files.write_file.Goals as goal

pub returns-in-Err-clause-part : goal.returns-in-Err-clause-part
returns-in-Err-clause-part g c = file_unmade (g.P.Place.state c.args.place.now).files (g.P.Place.state c.sink_of.new.self).files _ c.in-Err.ensures.unmade

pub returns-clause-whole : goal.returns-clause-whole
returns-clause-whole g c =
    on_ok_so c.write_text-done.result (file_whole (g.P.Place.state c.args.place.now).files (g.P.Place.state c.sink_of.new.self).files (g.P.Place.state c.keep_out.new.self).files _ _ c.args.name.now (g.T.Pieces.text c.args.text.now)
    c.in-Ok.ensures.made c.in-Ok.ensures.empty c.keep_out.ensures.bytes) c.write_text-done.ensures.whole

pub returns-clause-part : goal.returns-clause-part
returns-clause-part g c =
    on_err_so c.write_text-done.result (file_part (g.P.Place.state c.args.place.now).files (g.P.Place.state c.sink_of.new.self).files (g.P.Place.state c.keep_out.new.self).files _ _ c.args.name.now (g.T.Pieces.text c.args.text.now)
    c.in-Ok.ensures.made c.in-Ok.ensures.empty c.keep_out.ensures.bytes) c.write_text-done.ensures.front
