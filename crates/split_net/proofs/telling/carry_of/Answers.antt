use Rattle.std.proofs.Common.{◌≡◌, rules, pos, ◌<ℤ◌}
use Rattle.std.specs.Int.RustNames.{unsigned_abs}
use Rattle.split_net.proofs.Carried.{told_forth, told_back}
use Rattle.split_net.proofs.telling.carry_of.Goals as goal

pub returns-then-amount-gt0 : goal.returns-then-amount-gt0
returns-then-amount-gt0 c =
    let above : pos 0 <ℤ c.args.amount = search rules in
    let size : c.unsigned_abs-size.result ≡ unsigned_abs c.args.amount = search rules in
    told_forth c.args.edge c.args.amount c.unsigned_abs-size.result above size

pub returns-then-amount-lt0 : goal.returns-then-amount-lt0
returns-then-amount-lt0 c =
    let below : c.args.amount <ℤ pos 0 = search rules in
    let size : c.unsigned_abs-size.result ≡ unsigned_abs c.args.amount = search rules in
    told_back c.args.edge c.args.amount c.unsigned_abs-size.result below size
