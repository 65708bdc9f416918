use Rattle.std.proofs.Common.{rules, ◌∙◌}
use Rattle.edit_desk.proofs.Going.{stays-on}
use Rattle.edit_desk.proofs.desk.pin_all.Goals as goal

pub returns-then-not-matches-clause-stays : goal.returns-then-not-matches-clause-stays
returns-then-not-matches-clause-stays g c = stays-on c.args.pass.now.view c.loop.pass.view c.attempt-tried.new.pass.view c.loop.invariant.4 c.attempt-tried.ensures.stays

pub loop-preserved : goal.loop-preserved
loop-preserved g c = (
  c.attempt-tried.ensures.table ∙ c.loop.invariant.0,
  search rules,
  c.attempt-tried.ensures.idle.0,
  c.attempt-tried.ensures.idle.1,
  stays-on c.args.pass.now.view c.loop.pass.view c.attempt-tried.new.pass.view c.loop.invariant.4 c.attempt-tried.ensures.stays,
)
