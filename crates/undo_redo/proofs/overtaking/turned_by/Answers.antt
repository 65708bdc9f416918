use Rattle.std.proofs.Common.{◌∙◌, Some, None, cond, sym, ap}
use Rattle.undo_redo.specs.Turns.{changer}
use Rattle.undo_redo.proofs.PairFacts.{overtaken_by_state}
use Rattle.undo_redo.proofs.Turning.{same_way, other_way}
use Rattle.undo_redo.proofs.overtaking.turned_by.Goals as goal

pub returns-then-last-own-clause-is : goal.returns-then-last-own-clause-is
returns-then-last-own-clause-is g c = λ d b log entry i h known.
    let s = overtaken_by_state d b log c.args.own.now c.latest_change-last.result.active i.base i.legal known (c.latest_change-last.ensures.state d b log entry c.args.own.now i h) in
    sym (ap (λ t. cond t (Some (changer log c.args.own.now.pair)) None) (s.0 (same_way c.latest_change-last.result.active c.args.own.now.active c.if-last-own.true)))

pub returns-else-last-own-clause-is : goal.returns-else-last-own-clause-is
returns-else-last-own-clause-is g c = λ d b log entry i h known.
    let s = overtaken_by_state d b log c.args.own.now c.latest_change-last.result.active i.base i.legal known (c.latest_change-last.ensures.state d b log entry c.args.own.now i h) in
    ap (λ k. Some k) (c.latest_change-last.ensures.entry d b log entry c.args.own.now i h)
    ∙ sym (ap (λ t. cond t (Some (changer log c.args.own.now.pair)) None) (s.1 (other_way c.latest_change-last.result.active c.args.own.now.active c.if-last-own.false)))
