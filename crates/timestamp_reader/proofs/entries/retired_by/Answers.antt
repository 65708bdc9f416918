use Rattle.std.proofs.Common.{◌≡◌, ◌∙◌, subst}
use Rattle.std.specs.Result.{IfOk}
use Rattle.change_reader.proofs.EntryFacts.{known_ends, readable_before, retired_is, retired_none}
use Rattle.timestamp_reader.proofs.entries.retired_by.Goals as goal

pub roots_of-requires : goal.roots_of-requires
roots_of-requires g c =
    let r = c.requires.entry in
    record { readable = (r.0, r.1, r.2, readable_before r.0 r.1 r.2 _ c.args.n r.3 c.args.changed.now r.4 c.if-n-eq0.false, known_ends r.0 r.1 r.2 _ c.args.n r.3 c.args.changed.now r.4) }

pub returns-then-n-eq0-clause-is : goal.returns-then-n-eq0-clause-is
returns-then-n-eq0-clause-is g c d b log e i = c.new.ensures.items ∙ retired_none d b log _ c.args.n e c.args.changed.now i c.if-n-eq0.true

pub returns-else-n-eq0-clause-is : goal.returns-else-n-eq0-clause-is
returns-else-n-eq0-clause-is g c d b log e i =
    subst (λ xs. IfOk c.roots_of.result (λ ids. ids ≡ xs)) (retired_is d b log _ c.args.n e c.args.changed.now i c.if-n-eq0.false)
    (c.roots_of.ensures.is d b log (readable_before d b log _ c.args.n e c.args.changed.now i c.if-n-eq0.false) (known_ends d b log _ c.args.n e c.args.changed.now i))
