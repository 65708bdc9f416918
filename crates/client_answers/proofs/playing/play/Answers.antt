use Rattle.std.proofs.Common.{sym, ◌∙◌, refl}
use Rattle.session_machine.specs.Machine.{start}
use Rattle.client_answers.specs.Answers.{IsMissed, IsPut, fault_sum}
use Rattle.client_answers.specs.Plays.{IsPlay, IsPlayed}
use Rattle.client_answers.proofs.Ends.{each_replied}
use Rattle.client_answers.proofs.Owners.{led_log, led_owned}
use Rattle.client_answers.proofs.PlaySteps.{steps_all, steps_least}
use Rattle.client_answers.proofs.WrittenRuns.{finishes, runs, started}
use Rattle.client_answers.proofs.playing.play.Goals as goal

pub returns : goal.returns
returns g c = record {
  played = λ d b at clients good is.
      let state = g.K.Sink.state in
      let answers = c.args.answers.now in
      let old = answers.list.items in
      let clock = c.args.core.now.clock in
      let p = c.play.ensures.played d b at clients good is in
      let v = p.0 in
      let new = c.play.new.outlet in
      let plays = p.3 in
      let first = started state old clients (c.requires.each ∙ sym is.count) c.requires.fresh in
      let after = runs state d b clock old c.args.schedule.now _ plays.1 answers plays.0 (first, refl) plays.2 in
      let all = finishes state d b clock old plays.3.0 plays.1 v plays.0 new after plays.3.1 in
      let kept : IsPlay d b clock c.args.schedule.now (start d b at clients) v = record {
        mid = plays.1;
        scheduled = steps_all (λ a. fault_sum state a.list.items) (IsPut state) (IsMissed state) d b clock c.args.schedule.now (start d b at clients) plays.1 answers plays.0 plays.2;
        turns = plays.3.0;
        rest = steps_least (λ a. fault_sum state a.list.items) (IsPut state) (IsMissed state) d b clock plays.3.0 plays.1 v plays.0 new plays.3.1;
        ended = p.2.ended;
      } in
      let found : IsPlayed state d b at clients clock c.args.schedule.now answers new v = record {
        played = p.2;
        answered = all.0;
        count = all.1;
        play = kept;
        owned = led_owned d b at clients v good p.2.leads;
        each = each_replied d b state old new.list.items at clients v p.2 (led_log d b (start d b at clients) v good p.2.leads) all.0;
        runs = plays;
      } in
      (v, p.1, found);
}
