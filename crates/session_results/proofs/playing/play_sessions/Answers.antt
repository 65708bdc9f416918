use Rattle.std.proofs.Common.{◌≡◌, ◌≤◌, ◌<◌, length, map, sum_by, sym, ◌∙◌, subst, ap, vec_capacity, arith}
use Rattle.std.specs.List.{AllByRecursion}
use Rattle.client_answers.specs.declared.answers.AllAnswers.{AllAnswers}
use Rattle.client_answers.specs.Plays.{IsPlayed}
use Rattle.session_results.specs.Begun.{asked_of, faults_told}
use Rattle.session_results.proofs.StartFacts.{core_count, ends_count}
use Rattle.session_results.proofs.Machines.{are_done}
use Rattle.session_results.proofs.playing.play_sessions.Goals as goal

pub play-requires-clause-few : goal.play-requires-clause-few
play-requires-clause-few g c =
    let i = c.requires.image in
    let n = core_count c.args.dataset i.0 i.1 c.in-Ok.begun.core c.args.read.items (c.in-Ok.ensures.is i.0 i.1 i.2 c.requires.room) in
    let k = c.requires.clients in
    omega (arith, n, k)

pub play-requires-clause-numbers : goal.play-requires-clause-numbers
play-requires-clause-numbers g c =
    let i = c.requires.image in
    let n = core_count c.args.dataset i.0 i.1 c.in-Ok.begun.core c.args.read.items (c.in-Ok.ensures.is i.0 i.1 i.2 c.requires.room) in
    subst (λ k. AllByRecursion (λ n. (0 < n) × (n ≤ k)) c.args.schedule.now) (sym n) c.requires.numbers

pub play-requires-clause-sound : goal.play-requires-clause-sound
play-requires-clause-sound g c =
    let i = c.requires.image in
    let at = c.in-Ok.ensures.is i.0 i.1 i.2 c.requires.room in
    (c.args.dataset, i.0, _, at.0, at.1)

pub play-requires-clause-each : goal.play-requires-clause-each
play-requires-clause-each g c =
    let i = c.requires.image in
    c.requires.each ∙ sym (core_count c.args.dataset i.0 i.1 c.in-Ok.begun.core c.args.read.items (c.in-Ok.ensures.is i.0 i.1 i.2 c.requires.room))

pub told-done-requires-clause-few : goal.told-done-requires-clause-few
told-done-requires-clause-few g c =
    let i = c.requires.image in
    let at = c.in-Ok.ensures.is i.0 i.1 i.2 c.requires.room in
    let n = (c.play.ensures.played c.args.dataset i.0 i.1 (map asked_of c.args.read.items) at.0 at.1).2.count in
    let list : length c.as_slice.result.now ≡ length c.play.new.answers.list.items = ap length c.as_slice.ensures.value in
    let each = c.requires.each in
    let few = c.requires.clients in
    omega (arith, n, list, each, few)

pub told-done-requires-clause-each : goal.told-done-requires-clause-each
told-done-requires-clause-each g c =
    let i = c.requires.image in
    let at = c.in-Ok.ensures.is i.0 i.1 i.2 c.requires.room in
    let n = (c.play.ensures.played c.args.dataset i.0 i.1 (map asked_of c.args.read.items) at.0 at.1).2.count in
    ends_count c.args.read.items c.in-Ok.begun.ends.items c.in-Ok.ensures.ends ∙ (sym (n ∙ c.requires.each) ∙ ap length (sym c.as_slice.ensures.value))

pub told-done-requires-clause-room : goal.told-done-requires-clause-room
told-done-requires-clause-room g c =
    let i = c.requires.image in
    let at = c.in-Ok.ensures.is i.0 i.1 i.2 c.requires.room in
    let n = (c.play.ensures.played c.args.dataset i.0 i.1 (map asked_of c.args.read.items) at.0 at.1).2.count in
    subst (λ k. k ≤ vec_capacity c.in-Ok.begun.faults) (sym (n ∙ c.requires.each) ∙ ap length (sym c.as_slice.ensures.value)) c.in-Ok.ensures.room

pub returns-clause-done : goal.returns-clause-done
returns-clause-done g c = λ b at sources image are.
    let seen = g.K.Sink.state in
    let read = c.args.read.items in
    let old : AllAnswers g.row.K.Denot = record { list = c.args.answers } in
    let start = c.in-Ok.ensures.is b at image c.requires.room in
    let p = c.play.ensures.played c.args.dataset b at (map asked_of read) start.0 start.1 in
    let played = subst (λ t. IsPlayed seen c.args.dataset b at (map asked_of read) t c.args.schedule.now old c.play.new.answers p.0) c.in-Ok.ensures.clock p.2 in
    let list = c.as_slice.ensures.value in
    let done = c.told-done.ensures in
    are_done seen c.args.dataset b at c.args.clock c.args.schedule.now read old c.play.new.answers p.0 played sources c.play.new.core.rows c.told-done.result are c.requires.few c.requires.each p.1.rows
    done.words
    (done.faults ∙ (ap (λ xs. faults_told 1 xs c.in-Ok.begun.ends.items) list ∙ ap (λ es. faults_told 1 c.play.new.answers.list.items es) c.in-Ok.ensures.ends))
    (done.lines ∙ ap (λ xs. sum_by (λ x. x.lines) xs) list)
    (done.refused ∙ ap (λ xs. sum_by (λ x. x.refused) xs) list)

pub returns-clause-count : goal.returns-clause-count
returns-clause-count g c =
    let i = c.requires.image in
    let at = c.in-Ok.ensures.is i.0 i.1 i.2 c.requires.room in
    (c.play.ensures.played c.args.dataset i.0 i.1 (map asked_of c.args.read.items) at.0 at.1).2.count
