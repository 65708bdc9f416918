use Rattle.std.proofs.Common.{◌≡◌, ◌∙◌, ℕ, List, true, length, map, subst, sym, ap, arith, rules, Option}
use Rattle.std.specs.List.{AllByRecursion}
use Rattle.pcg_base.specs.States.{PlaceState}
use Rattle.job_files.specs.Places.{EachStep, KeepsIn}
use Rattle.job_files.specs.Clients.{AnswersShut, AreEmpty, AreOpened, RequestsShut}
use Rattle.job_files.proofs.Counting.{all_then, later_then}
use Rattle.rehearsal.proofs.Emptied.{empty_behind, requests_stop}
use Rattle.rehearsal.proofs.Left.{left_elsewhere}
use Rattle.rehearsal.proofs.Serving.{opened_count}
use Rattle.rehearsal.proofs.Unplayed.{answers_stop, shut_left}
use Rattle.rehearsal.proofs.Whole.{answers_behind}
use Rattle.rehearsal.proofs.clients.open_all.Goals as goal

pub keep_requests-requires-clause-enough : goal.keep_requests-requires-clause-enough
keep_requests-requires-clause-enough g c κs within =
    let e : c.as_slice.result.now ≡ c.args.files.now.requests = search rules in
    let f : c.as_slice-in-Err-open_answers.result.now ≡ c.args.files.now.requests = search rules in
    let n = opened_count g.P.In.Source.left g.P.In.Source.faults (g.P.Place.state c.args.place.now).files c.as_slice.result.now c.in-Ok.sources.items c.in-Ok.ensures.ok in
    let m : length c.as_slice-in-Err-open_answers.result.now ≡ length c.as_slice.result.now = ap length (f ∙ sym e) in
    omega (arith, n, m)

pub keep_requests-requires-clause-opened : goal.keep_requests-requires-clause-opened
keep_requests-requires-clause-opened g c κs within =
    let e : c.as_slice.result.now ≡ c.args.files.now.requests = search rules in
    let f : c.as_slice-in-Err-open_answers.result.now ≡ c.args.files.now.requests = search rules in
    subst (AllByRecursion (λ n. (g.P.Place.state c.open_answers.new.place).opened_in n ≡ true)) (e ∙ sym f)
    (all_then (λ n. (g.P.Place.state c.open_requests.new.place).opened_in n ≡ true) (λ n. (g.P.Place.state c.open_answers.new.place).opened_in n ≡ true) c.open_answers.ensures.stays c.as_slice.result.now c.in-Ok.ensures.opened)

pub returns-in-Ok-open_answers-clause-answers : goal.returns-in-Ok-open_answers-clause-answers
returns-in-Ok-open_answers-clause-answers g c =
    let e : c.as_slice-2.result.now ≡ c.args.files.now.answers = search rules in
    subst (λ ns. AreEmpty g.P.Out.Sink.state (g.P.Place.state c.args.place.now).files ns c.in-Ok-open_answers.answers.items) e
    (empty_behind g.P.Out.Sink.state (g.P.Place.state c.args.place.now).files (g.P.Place.state c.open_requests.new.place).files c.as_slice-2.result.now c.in-Ok-open_answers.answers.items c.in-Ok.ensures.same.files c.in-Ok-open_answers.ensures.ok)

pub returns-in-Ok-open_answers-clause-opened_in : goal.returns-in-Ok-open_answers-clause-opened_in
returns-in-Ok-open_answers-clause-opened_in g c =
    let e : c.as_slice.result.now ≡ c.args.files.now.requests = search rules in
    subst (AllByRecursion (λ n. (g.P.Place.state c.open_answers.new.place).opened_in n ≡ true)) e
    (all_then (λ n. (g.P.Place.state c.open_requests.new.place).opened_in n ≡ true) (λ n. (g.P.Place.state c.open_answers.new.place).opened_in n ≡ true) c.open_answers.ensures.stays c.as_slice.result.now c.in-Ok.ensures.opened)

pub returns-in-Ok-open_answers-clause-opened_out : goal.returns-in-Ok-open_answers-clause-opened_out
returns-in-Ok-open_answers-clause-opened_out g c =
    let e : c.as_slice-2.result.now ≡ c.args.files.now.answers = search rules in
    subst (AllByRecursion (λ n. (g.P.Place.state c.open_answers.new.place).opened_out n ≡ true)) e c.in-Ok-open_answers.ensures.opened

pub returns-in-Err-open_answers-clause-stop : goal.returns-in-Err-open_answers-clause-stop
returns-in-Err-open_answers-clause-stop g c =
    let rs = c.args.files.now.requests in
    let S : PlaceState = g.P.Place.state c.args.place.now in
    let T : PlaceState = g.P.Place.state c.open_requests.new.place in
    let U : PlaceState = g.P.Place.state c.open_answers.new.place in
    let V : PlaceState = g.P.Place.state c.keep_requests.new.place in
    let e : c.as_slice.result.now ≡ rs = search rules in
    let f : c.as_slice-in-Err-open_answers.result.now ≡ rs = search rules in
    let h : c.as_slice-2.result.now ≡ c.args.files.now.answers = search rules in
    let xs : List (Option (List ℕ) × ℕ) = map (λ x. (g.P.In.Source.left x, g.P.In.Source.faults x)) c.in-Ok.sources.items in
    answers_stop g.P.In.Source.left g.P.In.Source.faults rs c.args.files.now.answers c.in-Ok.sources.items S T U V c.in-Err-open_answers.fault c.no_answers.result c.in-Ok.ensures.same
    (subst (λ ns. AreOpened g.P.In.Source.left g.P.In.Source.faults (g.P.Place.state c.args.place.now).files ns c.in-Ok.sources.items) e c.in-Ok.ensures.ok)
    (subst (λ ns. AnswersShut ns T U c.in-Err-open_answers.fault) h c.in-Err-open_answers.ensures.shut)
    (c.sources_are_kept.ensures rs xs U V c.requires.differ (subst (λ ns. EachStep KeepsIn ns xs U V) f c.keep_requests.ensures.each))
    c.answers_are_emptied.ensures c.no_answers.ensures.failed c.no_answers.ensures.memory

pub returns-in-Err-open_answers-clause-elsewhere : goal.returns-in-Err-open_answers-clause-elsewhere
returns-in-Err-open_answers-clause-elsewhere g c = λ n away.
    let rs = c.args.files.now.requests in
    let T : PlaceState = g.P.Place.state c.open_requests.new.place in
    let U : PlaceState = g.P.Place.state c.open_answers.new.place in
    let V : PlaceState = g.P.Place.state c.keep_requests.new.place in
    let f : c.as_slice-in-Err-open_answers.result.now ≡ rs = search rules in
    let xs : List (Option (List ℕ) × ℕ) = map (λ x. (g.P.In.Source.left x, g.P.In.Source.faults x)) c.in-Ok.sources.items in
    left_elsewhere rs xs U V (subst (λ ns. EachStep KeepsIn ns xs U V) f c.keep_requests.ensures.each) n away
    ∙ shut_left c.as_slice-2.result.now T U c.in-Err-open_answers.fault c.in-Err-open_answers.ensures.shut n ∙ c.in-Ok.ensures.same.left n

pub returns-in-Err-clause-stop : goal.returns-in-Err-clause-stop
returns-in-Err-clause-stop g c =
    let S : PlaceState = g.P.Place.state c.args.place.now in
    let T : PlaceState = g.P.Place.state c.open_requests.new.place in
    let e : c.as_slice.result.now ≡ c.args.files.now.requests = search rules in
    requests_stop c.args.files.now.requests c.args.files.now.answers S T c.in-Err.fault c.no_requests.result (subst (λ ns. RequestsShut ns S T c.in-Err.fault) e c.in-Err.ensures.shut) c.no_requests.ensures.failed c.no_requests.ensures.memory

pub returns-in-Ok-open_answers-clause-open : goal.returns-in-Ok-open_answers-clause-open
returns-in-Ok-open_answers-clause-open g c =
    let h : c.as_slice-2.result.now ≡ c.args.files.now.answers = search rules in
    answers_behind c.args.files.now.answers c.as_slice-2.result.now (g.P.Place.state c.args.place.now)
    (g.P.Place.state c.open_requests.new.place) (g.P.Place.state c.open_answers.new.place)
    h c.in-Ok.ensures.same c.in-Ok-open_answers.ensures.open

pub returns-in-Ok-open_answers-clause-later : goal.returns-in-Ok-open_answers-clause-later
returns-in-Ok-open_answers-clause-later g c =
    later_then (g.P.Place.state c.args.place.now)
    (g.P.Place.state c.open_requests.new.place) (g.P.Place.state c.open_answers.new.place)
    c.open_requests.ensures.later c.open_answers.ensures.later

pub returns-in-Err-open_answers-clause-later : goal.returns-in-Err-open_answers-clause-later
returns-in-Err-open_answers-clause-later g c =
    let rs = c.args.files.now.requests in
    let S : PlaceState = g.P.Place.state c.args.place.now in
    let T : PlaceState = g.P.Place.state c.open_requests.new.place in
    let U : PlaceState = g.P.Place.state c.open_answers.new.place in
    let V : PlaceState = g.P.Place.state c.keep_requests.new.place in
    let f : c.as_slice-in-Err-open_answers.result.now ≡ rs = search rules in
    let xs : List (Option (List ℕ) × ℕ) = map (λ x. (g.P.In.Source.left x, g.P.In.Source.faults x)) c.in-Ok.sources.items in
    let kept = c.sources_are_kept.ensures rs xs U V c.requires.differ (subst (λ ns. EachStep KeepsIn ns xs U V) f c.keep_requests.ensures.each) in
    later_then S T V c.open_requests.ensures.later (later_then T U V c.open_answers.ensures.later kept.later)
