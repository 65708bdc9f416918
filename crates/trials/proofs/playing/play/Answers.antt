use Rattle.std.proofs.Common.{◌≡◌, ◌∙◌, ℕ, List, [], Vec, Global, Option, None, length, map, refl, subst, arith, rules}
use Rattle.std.specs.Prelude.{IfSome}
use Rattle.pcg_base.specs.States.{SinkState}
use Rattle.stream_lines.specs.declared.taking.NoAnswers.{NoAnswers}
use Rattle.job_tables.specs.Inputs.{clock_time}
use Rattle.session_results.specs.Ended.{AreDone}
use Rattle.session_results.specs.declared.playing.SessionsDone.{SessionsDone}
use Rattle.rehearsal.proofs.Zips.{length_map}
use Rattle.trials.proofs.Sessions.{are_played}
use Rattle.trials.proofs.WholeTexts.{whole, whole_count, whole_few, whole_lines}
use Rattle.trials.proofs.playing.play.Goals as goal

pub play_sessions-end-requires-clause-clients : goal.play_sessions-end-requires-clause-clients
play_sessions-end-requires-clause-clients c =
    let items : Vec ℕ Global → List ℕ = λ v. v.items in
    let streams = c.args.start.streams.items in
    let count = whole_count (map items streams) c.in_ok-read.read.items c.in_ok-read.ensures in
    let same = length_map items streams in
    let few = c.requires.clients in
    omega (arith, count, same, few)

pub play_sessions-end-requires-clause-few : goal.play_sessions-end-requires-clause-few
play_sessions-end-requires-clause-few c =
    let items : Vec ℕ Global → List ℕ = λ v. v.items in
    whole_few (map items c.args.start.streams.items) c.in_ok-read.read.items c.in_ok-read.ensures

pub returns-in-Some : goal.returns-in-Some
returns-in-Some c = λ b image.
    let items : Vec ℕ Global → List ℕ = λ v. v.items in
    let seen : NoAnswers → SinkState = λ _. record { held = None; flushed = None; faults = 0 } in
    let texts = map items c.args.start.streams.items in
    let read = c.in_ok-read.read.items in
    let old = c.in_ok-answers.answers.items in
    let new = c.play_sessions-end.result.answers.items in
    let d = c.args.start.dataset in
    let clock = c.args.clock in
    let at = clock_time clock 0 in
    let len : c.len.result ≡ length read = search rules in
    let each : length old ≡ length texts = c.in_ok-answers.ensures.count ∙ len ∙ whole_count texts read c.in_ok-read.ensures in
    let done = c.play_sessions-end.ensures.done b at (map whole texts) image (whole_lines texts read c.in_ok-read.ensures) in
    are_played seen (λ k. refl) d b clock texts read old new c.in-Some.done c.in_ok-read.ensures each c.play_sessions-end.ensures.count
    (subst (λ (o : Option SessionsDone). IfSome o (λ x. AreDone seen d b at clock [] (map whole texts) old new x)) c.in-Some.is done)
