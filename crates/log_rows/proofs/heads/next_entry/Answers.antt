use Rattle.std.proofs.Common.{◌+◌, subst, arith}
use Rattle.log_rows.proofs.Halves.{NoneOwn}
use Rattle.log_rows.proofs.NextEntries.{next_none, next_found}
use Rattle.log_rows.proofs.Seeks.{ascends}
use Rattle.log_rows.proofs.heads.next_entry.Goals as goal

pub count-count-requires : goal.count-count-requires
count-count-requires g c = let r = c.requires.entry in record { image = (r.dataset, r.base, r.log, r.image) }

pub next_own-own-requires-clause-ascend : goal.next_own-own-requires-clause-ascend
next_own-own-requires-clause-ascend g c = let r = c.requires.entry in ascends r.dataset r.base r.log _ r.image _ (c.count-count.ensures.is r.dataset r.base r.log r.image)

pub returns-then-from-count-clause-is : goal.returns-then-from-count-clause-is
returns-then-from-count-clause-is g c = λ d b log e i h.
    let view = c.entry.view_is in
    let l = c.if-from-count.true in
    next_none d b log _ i c.args.entry c.count-count.result e h (c.count-count.ensures.is d b log i) (omega (arith, view, l))

pub returns-clause-is : goal.returns-clause-is
returns-clause-is g c = λ d b log e i h.
    let view = c.entry.view_is in
    let own = c.next_own-own in
    let from = own.ensures.next.0 in
    next_found d b log _ i c.args.entry c.count-count.result e h (c.count-count.ensures.is d b log i) own.result own.ensures.own (omega (arith, view, from)) own.ensures.next.1
    (subst (λ p. NoneOwn (g.W.Words.words c.args.w.now) (p + 1) own.result) c.entry.view_is own.ensures.none)
