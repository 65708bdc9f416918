use Rattle.std.proofs.Common.{rules}
use Rattle.line_tests.proofs.Wishes.{is_wish}
use Rattle.line_tests.proofs.inputs.made.Goals as goal

pub make_tables-requires : goal.make_tables-requires
make_tables-requires c =
    is_wish _ (search rules) (search rules) (search rules, search rules) (search rules, search rules) (search rules, search rules) c.requires.size c.requires.clients c.requires.requests
