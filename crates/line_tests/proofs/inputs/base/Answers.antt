use Rattle.std.proofs.Common.{rules, arith}
use Rattle.line_tests.proofs.Wishes.{is_wish}
use Rattle.line_tests.proofs.inputs.base.Goals as goal

pub made_base-requires-clause-fits : goal.made_base-requires-clause-fits
made_base-requires-clause-fits c =
    is_wish _ (search rules) (search rules) (search rules, search rules) (search rules, search rules) (search rules, search rules) c.requires (omega arith, omega arith) (omega arith)
