use Rattle.std.proofs.Common.{◌≡◌, ℕ, List, subst}
use Rattle.job_tables.specs.Made.{IsOther, ScheduleStop}
use Rattle.job_tables.specs.Stops.{ScheduleRead}
use Rattle.job_tables.proofs.TextLemmas.{all_read, third_stop}
use Rattle.job_tables.proofs.texts.read_texts.Goals as goal

pub returns-in-Ok-read_schedule_text-clause-read : goal.returns-in-Ok-read_schedule_text-clause-read
returns-in-Ok-read_schedule_text-clause-read g c =
    let at = g.P.Place.state in
    let before = (g.P.Place.state c.read_tables.new.place).left in
    let after = (g.P.Place.state c.read_schedule_text.new.place).left in
    let same = subst (λ s. (n : List ℕ) → IsOther s n → after n ≡ before n) c.as_ref.ensures.value c.read_schedule_text.ensures.only_left in
    let read = subst (ScheduleRead (g.P.Place.state c.read_tables.new.place).files after) c.as_ref.ensures.value c.in-Ok-read_schedule_text.ensures.read in
    all_read c.args.job.now (at c.args.place.now) (at c.read_tables.new.place) (at c.read_schedule_text.new.place) c.requires c.read_tables.ensures.files c.in-Ok.ensures.read same read

pub returns-in-Err-read_schedule_text-clause-stop : goal.returns-in-Err-read_schedule_text-clause-stop
returns-in-Err-read_schedule_text-clause-stop g c =
    let at = g.P.Place.state in
    let before = (g.P.Place.state c.read_tables.new.place).left in
    let after = (g.P.Place.state c.read_schedule_text.new.place).left in
    let same = subst (λ s. (n : List ℕ) → IsOther s n → after n ≡ before n) c.as_ref.ensures.value c.read_schedule_text.ensures.only_left in
    let stop =
    subst (λ s. ScheduleStop (g.P.Place.state c.read_tables.new.place).files s (at c.read_tables.new.place) (at c.read_schedule_text.new.place) c.in-Err-read_schedule_text.stop) c.as_ref.ensures.value
    c.in-Err-read_schedule_text.ensures.stop in
    third_stop c.args.job.now (at c.args.place.now) (at c.read_tables.new.place) (at c.read_schedule_text.new.place) c.in-Err-read_schedule_text.stop c.requires c.read_tables.ensures.files c.read_tables.ensures.later
    c.in-Ok.ensures.read same stop
