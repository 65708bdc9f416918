use Rattle.std.proofs.Common.{◌≡◌, refl, sym, subst, rules}
use Rattle.job_tables.specs.Inputs.{clock_time}
use Rattle.op_model.specs.Ingest.{ingested}
use Rattle.op_model.specs.declared.base.Dataset.{Dataset}
use Rattle.record_rows.specs.Readings.{Image}
use Rattle.trials.specs.Trials.{base_of, dataset_of}
use Rattle.trials.proofs.Tried.{few_streams, is_tried, played_over, room_of}
use Rattle.trials.proofs.trial.try_out.Goals as goal

pub play-requires-clause-room : goal.play-requires-clause-room
play-requires-clause-room c = room_of c.args.job.now c.in-Ok.start c.in-Ok.ensures.started

pub play-requires-clause-clients : goal.play-requires-clause-clients
play-requires-clause-clients c = few_streams c.args.job.now c.in-Ok.start c.requires c.in-Ok.ensures.started

pub returns-in-Ok-summary_from-clause-tried : goal.returns-in-Ok-summary_from-clause-tried
returns-in-Ok-summary_from-clause-tried c =
    let job = c.args.job.now in
    let s = c.in-Ok.start in
    let h = c.in-Ok.ensures.started in
    let done = c.in-Ok-play.done in
    let image = subst (λ (d : Dataset). Image d (base_of job) (ingested d (base_of job) (clock_time job.clock 0)) s.words.words) (sym h.dataset) h.image in
    let p = played_over job s done h (c.in-Ok-play.ensures (base_of job) image) in
    is_tried job s done job.clients _ h p refl (c.in-Ok-summary_from.ensures (dataset_of job) (base_of job) p.log p.image)
