use Rattle.std.proofs.Common.{◌≡◌, length, map, take, refl, subst, arith, rules}
use Rattle.job_files.specs.Clients.{kept_of}
use Rattle.job_files.specs.Places.{EachStep, KeepsOut}
use Rattle.job_files.proofs.AnswerOpenings.{back_later, answers_shut}
use Rattle.job_files.proofs.Emptying.{empties_none}
use Rattle.job_files.proofs.Openings.{take_same}
use Rattle.job_files.proofs.opening.open_answers.Goals as goal

pub returns-in-Err-clause-shut : goal.returns-in-Err-clause-shut
returns-in-Err-clause-shut g c =
    let names = c.args.names.now in
    let count : c.len.result ≡ length c.open_each_answer.new.answers.items = search rules in
    let front : c.split_at.result.0.now ≡ take (length c.open_each_answer.new.answers.items) names = take_same names c.split_at.result.0.now c.len.result (length c.open_each_answer.new.answers.items) c.split_at.ensures.front count in
    let step = subst (λ ns. EachStep KeepsOut ns (map (kept_of g.P.Out.Sink.state) c.open_each_answer.new.answers.items) (g.P.Place.state c.open_each_answer.new.place) (g.P.Place.state c.keep_answers.new.place)) front c.keep_answers.ensures.each in
    answers_shut g.P.Out.Sink.state (g.P.Place.state c.open_each_answer.new.place).opened_out names c.open_each_answer.new.answers.items (g.P.Place.state c.args.place.now) (g.P.Place.state c.open_each_answer.new.place) (g.P.Place.state c.keep_answers.new.place) step c.in-Err.fault c.in-Err.ensures.front

pub returns-in-Err-clause-later : goal.returns-in-Err-clause-later
returns-in-Err-clause-later g c =
    let names = c.args.names.now in
    let count : c.len.result ≡ length c.open_each_answer.new.answers.items = search rules in
    let front : c.split_at.result.0.now ≡ take (length c.open_each_answer.new.answers.items) names = take_same names c.split_at.result.0.now c.len.result (length c.open_each_answer.new.answers.items) c.split_at.ensures.front count in
    let step = subst (λ ns. EachStep KeepsOut ns (map (kept_of g.P.Out.Sink.state) c.open_each_answer.new.answers.items) (g.P.Place.state c.open_each_answer.new.place) (g.P.Place.state c.keep_answers.new.place)) front c.keep_answers.ensures.each in
    back_later g.P.Out.Sink.state (g.P.Place.state c.open_each_answer.new.place).opened_out names c.open_each_answer.new.answers.items (g.P.Place.state c.args.place.now) (g.P.Place.state c.open_each_answer.new.place) (g.P.Place.state c.keep_answers.new.place) step c.in-Err.ensures.front.later

pub returns-in_default-clause-shut : goal.returns-in_default-clause-shut
returns-in_default-clause-shut g c = (0, omega arith, empties_none (g.P.Place.state c.args.place.now).files, refl, λ n. refl)
