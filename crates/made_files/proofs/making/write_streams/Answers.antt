use Rattle.std.proofs.Common.{rules, ◌≡◌, ◌∙◌, length, refl}
use Rattle.made_files.proofs.Parts.{last_all, none_upto, start_state, step_all, step_some, step_state}
use Rattle.made_files.proofs.Written.{later_same, later_then, stops_then}
use Rattle.made_files.proofs.making.write_streams.Goals as goal

pub loop-index-init : goal.loop-index-init
loop-index-init g c = record {
  all = none_upto c.args.wish.now c.args.job.now.stems (g.P.Place.state c.args.place.now).files;
  still = refl;
  later = later_same (g.P.Place.state c.args.place.now);
  reads = refl;
  state = start_state c.args.wish.now c.args.from c.requires.behind;
}

pub loop-index-preserved : goal.loop-index-preserved
loop-index-preserved g c =
    let w = c.args.wish.now in
    let stems = c.args.job.now.stems in
    let i = c.loop-index.index in
    let before = c.loop-index.invariant in
    record {
      all = step_all w stems i c.loop-index.state (g.P.Place.state c.args.place.now).files (g.P.Place.state c.loop-index.place).files (g.P.Place.state c.write_stream.new.place).files (search rules) before.state before.all c.in-Ok.ensures.wrote.0;
      still = c.in-Ok.ensures.wrote.1 ∙ before.still;
      later = later_then (g.P.Place.state c.args.place.now) (g.P.Place.state c.loop-index.place) (g.P.Place.state c.write_stream.new.place) before.later c.write_stream.ensures.later;
      reads = c.write_stream.ensures.reads ∙ before.reads;
      state = step_state w i c.loop-index.state c.in-Ok.behind before.state c.in-Ok.ensures.state;
    }

pub returns-in-Err-clause-wrote : goal.returns-in-Err-clause-wrote
returns-in-Err-clause-wrote g c =
    let w = c.args.wish.now in
    let before = c.loop-index.invariant in (
      step_some w c.args.job.now.stems c.loop-index.index c.loop-index.state (g.P.Place.state c.args.place.now).files (g.P.Place.state c.loop-index.place).files (g.P.Place.state c.write_stream.new.place).files (search rules) before.state before.all c.in-Err.ensures.wrote.0,
      stops_then c.args.job.now (g.P.Place.state c.args.place.now) (g.P.Place.state c.loop-index.place) (g.P.Place.state c.write_stream.new.place) c.in-Err.stop before.later c.in-Err.ensures.wrote.1,
    )

pub returns-in-Err-clause-later : goal.returns-in-Err-clause-later
returns-in-Err-clause-later g c = later_then (g.P.Place.state c.args.place.now) (g.P.Place.state c.loop-index.place) (g.P.Place.state c.write_stream.new.place) c.loop-index.invariant.later c.write_stream.ensures.later

pub returns-clause-wrote : goal.returns-clause-wrote
returns-clause-wrote g c =
    let all : c.loop-index.index ≡ length c.args.job.now.stems = search rules in (
      last_all c.args.wish.now c.args.job.now.stems c.loop-index.index (g.P.Place.state c.args.place.now).files (g.P.Place.state c.loop-index.place).files all c.loop-index.invariant.all,
      c.loop-index.invariant.still,
    )
