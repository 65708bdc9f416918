use Rattle.std.proofs.Common.{◌+◌, subst, sym}
use Rattle.session_machine.specs.Machine.{is_able, is_ended}
use Rattle.client_events.specs.Masks.{numbers}
use Rattle.client_events.specs.Phases.{phase_of}
use Rattle.core_steps.specs.Ways.{IsWay}
use Rattle.core_steps.proofs.ways.way_of.Goals as goal

pub returns-in-Ready : goal.returns-in-Ready
returns-in-Ready c = λ sh s client line t n f.
    subst (λ p. IsWay p (is_able sh s (phase_of client line p)) (is_ended s (phase_of client line p)) c.ready_way.result) (sym c.in-Ready.is) (c.ready_way.ensures sh s n f)

pub returns-in-Locking : goal.returns-in-Locking
returns-in-Locking c = λ sh s client line t n f.
    subst (λ p. IsWay p (is_able sh s (phase_of client line p)) (is_ended s (phase_of client line p)) c.lock_way.result) (sym c.in-Locking.is)
    (c.lock_way.ensures sh s c.in-Locking.edit c.in-Locking.wanted (numbers c.in-Locking.wanted (c.in-Locking.next + 1)) t)

pub returns-in-Waiting : goal.returns-in-Waiting
returns-in-Waiting c = λ sh s client line t n f.
    subst (λ p. IsWay p (is_able sh s (phase_of client line p)) (is_ended s (phase_of client line p)) c.turn_way.result) (sym c.in-Waiting.is) (c.turn_way.ensures sh s c.in-Waiting.field-0 t)
