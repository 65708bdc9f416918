use Rattle.std.proofs.Common.{◌≡◌, arith, subst}
use Rattle.std.specs.Result.{IfOk}
use Rattle.record_rows.specs.Readings.{ParentImage}
use Rattle.change_reader.proofs.EntryFacts.{count_few, first_is, known_ends, made_is, readable_with}
use Rattle.timestamp_reader.proofs.entries.made_by.Goals as goal

pub overflow_add-n : goal.overflow_add-n
overflow_add-n g c = let r = c.requires.entry in let q = count_few r.0 r.1 r.2 _ c.args.n r.3 c.args.changed.now r.4 in omega (arith, q)

pub roots_of-requires : goal.roots_of-requires
roots_of-requires g c =
    let r = c.requires.entry in
    record { readable = (r.0, r.1, r.2, readable_with r.0 r.1 r.2 _ c.args.n r.3 c.args.changed.now r.4, known_ends r.0 r.1 r.2 _ c.args.n r.3 c.args.changed.now r.4) }

pub returns-then-n-eq0-clause-is : goal.returns-then-n-eq0-clause-is
returns-then-n-eq0-clause-is g c d b log e i =
    let f = first_is d b log _ c.args.n e c.args.changed.now i c.if-n-eq0.true in
    c.first_roots.ensures.is d b f.0 e (subst (λ l. ParentImage d b l (g.W.Words.words c.args.w.now)) f.1 i.image)

pub returns-else-n-eq0-clause-is : goal.returns-else-n-eq0-clause-is
returns-else-n-eq0-clause-is g c d b log e i =
    subst (λ xs. IfOk c.roots_of.result (λ ids. ids ≡ xs)) (made_is d b log _ c.args.n e c.args.changed.now i c.if-n-eq0.false)
    (c.roots_of.ensures.is d b log (readable_with d b log _ c.args.n e c.args.changed.now i) (known_ends d b log _ c.args.n e c.args.changed.now i))
