use Rattle.std.proofs.Common.{◌≡◌}
use Rattle.made_input.specs.Texts.{streams_of}
use Rattle.made_files.specs.Files.{IsLater}
use Rattle.made_files.specs.Writing.{PutsAll}
use Rattle.made_files.proofs.Parts.{upto}
use Rattle.made_files.proofs.making.write_streams.Given as goal

abbrev pub invariant-loop-index : goal.invariant-loop-index
invariant-loop-index g l = record {
  all : PutsAll (g.P.Place.state l.fn.place).files (g.P.Place.state l.place).files (upto l.wish l.job.stems l.index);
  still : (g.P.Place.state l.place).writes ≡ (g.P.Place.state l.fn.place).writes;
  later : IsLater (g.P.Place.state l.fn.place) (g.P.Place.state l.place);
  reads : (g.P.Place.state l.place).reads ≡ (g.P.Place.state l.fn.place).reads;
  state : l.state ≡ (streams_of l.wish l.index).1;
}
