use Rattle.std.proofs.Common.{◌≡◌, length, map, take, subst, rules}
use Rattle.job_files.specs.Places.{EachStep, KeepsIn}
use Rattle.job_files.proofs.Openings.{front_later, front_left, requests_shut, take_same}
use Rattle.job_files.proofs.Steps.{of_source}
use Rattle.job_files.proofs.opening.open_requests.Goals as goal

pub returns-in-Err-clause-shut : goal.returns-in-Err-clause-shut
returns-in-Err-clause-shut g c =
    let names = c.args.names.now in
    let count : c.len.result ≡ length c.open_each_request.new.sources.items = search rules in
    let front : c.split_at.result.0.now ≡ take (length c.open_each_request.new.sources.items) names = take_same names c.split_at.result.0.now c.len.result (length c.open_each_request.new.sources.items) c.split_at.ensures.front count in
    let step = subst (λ ns. EachStep KeepsIn ns (map (of_source g.P.In.Source.left g.P.In.Source.faults) c.open_each_request.new.sources.items) (g.P.Place.state c.open_each_request.new.place) (g.P.Place.state c.keep_requests.new.place)) front c.keep_requests.ensures.each in
    requests_shut g.P.In.Source.left g.P.In.Source.faults (g.P.Place.state c.open_each_request.new.place).opened_in names c.open_each_request.new.sources.items (g.P.Place.state c.args.place.now) (g.P.Place.state c.open_each_request.new.place) (g.P.Place.state c.keep_requests.new.place) c.requires.differ step c.in-Err.fault c.in-Err.ensures.front

pub returns-in-Err-clause-later : goal.returns-in-Err-clause-later
returns-in-Err-clause-later g c =
    let names = c.args.names.now in
    let count : c.len.result ≡ length c.open_each_request.new.sources.items = search rules in
    let front : c.split_at.result.0.now ≡ take (length c.open_each_request.new.sources.items) names = take_same names c.split_at.result.0.now c.len.result (length c.open_each_request.new.sources.items) c.split_at.ensures.front count in
    let step = subst (λ ns. EachStep KeepsIn ns (map (of_source g.P.In.Source.left g.P.In.Source.faults) c.open_each_request.new.sources.items) (g.P.Place.state c.open_each_request.new.place) (g.P.Place.state c.keep_requests.new.place)) front c.keep_requests.ensures.each in
    front_later g.P.In.Source.left g.P.In.Source.faults (g.P.Place.state c.open_each_request.new.place).opened_in names c.open_each_request.new.sources.items (g.P.Place.state c.args.place.now) (g.P.Place.state c.open_each_request.new.place) (g.P.Place.state c.keep_requests.new.place) c.requires.differ step c.in-Err.ensures.front.later

pub returns-in-Err-clause-elsewhere : goal.returns-in-Err-clause-elsewhere
returns-in-Err-clause-elsewhere g c =
    let names = c.args.names.now in
    let count : c.len.result ≡ length c.open_each_request.new.sources.items = search rules in
    let front : c.split_at.result.0.now ≡ take (length c.open_each_request.new.sources.items) names = take_same names c.split_at.result.0.now c.len.result (length c.open_each_request.new.sources.items) c.split_at.ensures.front count in
    let step = subst (λ ns. EachStep KeepsIn ns (map (of_source g.P.In.Source.left g.P.In.Source.faults) c.open_each_request.new.sources.items) (g.P.Place.state c.open_each_request.new.place) (g.P.Place.state c.keep_requests.new.place)) front c.keep_requests.ensures.each in
    front_left g.P.In.Source.left g.P.In.Source.faults (g.P.Place.state c.open_each_request.new.place).opened_in names c.open_each_request.new.sources.items (g.P.Place.state c.args.place.now) (g.P.Place.state c.open_each_request.new.place) (g.P.Place.state c.keep_requests.new.place) c.requires.differ step c.in-Err.ensures.front.lefts
