use Rattle.std.proofs.Common.{refl}
use Rattle.trials.proofs.Beginnings.{same_grid, same_layout, started, stopped}
use Rattle.trials.specs.declared.starting.Start.{Start}
use Rattle.trials.proofs.starting.make_start.Goals as goal

pub base_and_streams-requires-clause-layout : goal.base_and_streams-requires-clause-layout
base_and_streams-requires-clause-layout c = same_layout c.args.job.now c.wish_of-wish.result c.dataset_with-dataset.result c.wish_of-wish.ensures.is c.dataset_with-dataset.ensures.is

pub base_and_streams-requires-clause-grid : goal.base_and_streams-requires-clause-grid
base_and_streams-requires-clause-grid c = same_grid c.args.job.now c.wish_of-wish.result c.dataset_with-dataset.result c.wish_of-wish.ensures.is c.dataset_with-dataset.ensures.is

pub returns-in-Ok-words_of-clause-started : goal.returns-in-Ok-words_of-clause-started
returns-in-Ok-words_of-clause-started c =
    let s : Start = record { dataset = c.dataset_with-dataset.result; words = c.in-Ok-words_of.words; streams = c.in-Ok.made.streams } in
    started c.args.job.now c.wish_of-wish.result c.dataset_with-dataset.result c.in-Ok.made.base c.wish_of-wish.ensures.is c.dataset_with-dataset.ensures.is c.in-Ok.ensures.base
    s refl c.in-Ok.ensures.streams c.in-Ok-words_of.ensures.image c.in-Ok-words_of.ensures.room c.in-Ok-words_of.ensures.fits

pub returns-in-Err-clause-stop : goal.returns-in-Err-clause-stop
returns-in-Err-clause-stop c =
    stopped c.args.job.now c.wish_of-wish.result c.dataset_with-dataset.result c.in-Ok.made.base c.wish_of-wish.ensures.is c.dataset_with-dataset.ensures.is c.in-Ok.ensures.base c.in-Err.stop c.in-Err.ensures.stop
