use Rattle.std.proofs.Common.{◌+◌, ◌∙◌, sym, ap, arith}
use Rattle.schedules.specs.Schedules.{clients_from, schedule_of}
use Rattle.schedules.specs.Words.{words_of}
use Rattle.schedules.proofs.NumberLemmas.{all_read, bad_read, begun, one_read, onto}
use Rattle.schedules.proofs.reading.read_schedule.Goals as goal

pub loop-first-init : goal.loop-first-init
unfolding schedule_of
loop-first-init c =
    (begun (clients_from c.args.clients 1 (words_of c.args.text.now)) ∙ ap (λ ns. onto ns (clients_from c.args.clients 1 (words_of c.args.text.now))) (sym c.new-numbers.ensures.items), omega arith)

pub returns-in_default-client_of-clause-bad : goal.returns-in_default-client_of-clause-bad
returns-in_default-client_of-clause-bad c =
    c.loop-first.invariant.0
    ∙ (ap (λ ws. onto c.loop-first.numbers.items (clients_from c.args.clients (c.loop-first.word + 1) ws)) c.in-Some.ensures.some
    ∙ bad_read c.args.clients (c.loop-first.word + 1) c.loop-first.numbers.items c.in-Some.first.now (words_of c.in-Some.next.now) (sym c.in_default-client_of.ensures))

pub loop-first-preserved : goal.loop-first-preserved
loop-first-preserved c = (
  c.loop-first.invariant.0
      ∙ (ap (λ ws. onto c.loop-first.numbers.items (clients_from c.args.clients (c.loop-first.word + 1) ws)) c.in-Some.ensures.some
      ∙ (one_read c.args.clients (c.loop-first.word + 1) c.loop-first.numbers.items c.in-Some.first.now (words_of c.in-Some.next.now) c.in-Some-client_of.client (sym c.in-Some-client_of.ensures)
      ∙ ap (λ ns. onto ns (clients_from c.args.clients (c.loop-first.word + 1 + 1) (words_of c.in-Some.next.now))) (sym c.in-Ok.ensures))),
  (let l = c.in-Some.ensures.shorter in let m = c.loop-first.invariant.1 in omega (arith, l, m)),
)

pub returns-clause-ok : goal.returns-clause-ok
returns-clause-ok c =
    c.loop-first.invariant.0
    ∙ (ap (λ ws. onto c.loop-first.numbers.items (clients_from c.args.clients (c.loop-first.word + 1) ws)) c.in_default.ensures.none
    ∙ all_read c.args.clients (c.loop-first.word + 1) c.loop-first.numbers.items)
