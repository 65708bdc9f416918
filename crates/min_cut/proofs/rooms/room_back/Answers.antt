use Rattle.std.proofs.Common.{◌<◌, ◌^◌, arith}
use Rattle.min_cut.proofs.Left.{left_back}
use Rattle.min_cut.proofs.rooms.room_back.Goals as goal

pub returns-in-Some-clause-some : goal.returns-in-Some-clause-some
returns-in-Some-clause-some c =
    let small : c.in-Some.room < 2 ^ 32 = omega arith in
    let e = left_back c.in-Some.room c.args.amount small (rw c.in-Some.is at c.requires) in
    rw c.in-Some.is (λ h. omega (arith, e), λ h. omega (arith, e))

pub returns-in-Some-clause-can : goal.returns-in-Some-clause-can
returns-in-Some-clause-can c =
    let small : c.in-Some.room < 2 ^ 32 = omega arith in
    let e = left_back c.in-Some.room c.args.amount small (rw c.in-Some.is at c.requires) in
    rw c.in-Some.is (omega (arith, e))
