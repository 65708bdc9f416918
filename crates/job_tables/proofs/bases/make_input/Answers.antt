use Rattle.std.proofs.Common.{subst}
use Rattle.job_tables.specs.declared.tables.JobBase.{JobBase}
use Rattle.job_tables.specs.Made.{Named, schedule_text}
use Rattle.job_tables.proofs.MadeLemmas.{is_made}
use Rattle.job_tables.proofs.bases.make_input.Goals as goal

pub returns-in-Ok-words_of-clause-made : goal.returns-in-Ok-words_of-clause-made
returns-in-Ok-words_of-clause-made c =
    let r : JobBase = record { dataset = c.dataset_of-dataset.result; words = c.in-Ok-words_of.words; schedule = c.in-Ok-numbers_of.schedule } in
    let named = subst (λ n. Named n (schedule_text c.args.texts) c.in-Ok-numbers_of.schedule.items) c.count_of.ensures c.in-Ok-numbers_of.ensures.named in
    is_made c.args.job.now c.args.texts c.in-Ok.base r c.dataset_of-dataset.ensures.is c.in-Ok.ensures.spells named c.in-Ok-words_of.ensures.image c.in-Ok-words_of.ensures.room
    c.in-Ok-words_of.ensures.fits
