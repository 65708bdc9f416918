use Rattle.client_events.proofs.ReleaseLemmas.{released_none, released_last, released_more}
use Rattle.client_events.proofs.releasing.release.Goals as goal

pub returns-in_default : goal.returns-in_default
returns-in_default c = released_none c.args.locks.now c.args.client c.args.after c.unlocked.result c.requires.table c.requires.client c.in_default.ensures.none c.unlocked.ensures

pub returns-in-Some-greatest_held : goal.returns-in-Some-greatest_held
returns-in-Some-greatest_held c =
    released_more c.args.locks.now c.args.client c.args.after c.in-Some.greatest c.in-Some-greatest_held.field-0 c.requires.table c.requires.client c.in-Some.ensures.some.0 c.in-Some.ensures.some.1
    c.in-Some.ensures.some.2 c.in-Some-greatest_held.ensures.some.1

pub returns-in-None : goal.returns-in-None
returns-in-None c =
    released_last c.args.locks.now c.args.client c.args.after c.unlocked-in-None.result c.in-Some.greatest c.requires.table c.requires.client c.in-Some.ensures.some.0 c.in-Some.ensures.some.1
    c.in-Some.ensures.some.2 c.in-None.ensures.none c.unlocked-in-None.ensures
