use Rattle.std.proofs.Common.{◌≡◌, ◌≤◌, ◌<◌, ◌-◌, ℕ, List, ◌++◌, length, take, subst, sym, rules}
use Rattle.pcg_base.specs.Told.{LosesMore}
use Rattle.pcg_base.proofs.Appending.{consumes_more, loses_more, full}
use Rattle.pcg_base.proofs.reading.read_stream.Goals as goal

pub returns-then-count-room-clause-front : goal.returns-then-count-room-clause-front
returns-then-count-room-clause-front g c = (c.loop-turn.bytes.items ++ take c.in-Ok.count c.read.new.into, consumes_more _ _ _ _ _ c.loop-turn.invariant.0 c.in-Ok.ensures.bytes.0)

pub returns-in-Err-extend_from_slice-clause-front : goal.returns-in-Err-extend_from_slice-clause-front
returns-in-Err-extend_from_slice-clause-front g c = (c.loop-turn.bytes.items ++ take c.in-Ok.count c.read.new.into, consumes_more _ _ _ _ _ c.loop-turn.invariant.0 c.in-Ok.ensures.bytes.0)

pub returns-in-Err-extend_from_slice-2-clause-front : goal.returns-in-Err-extend_from_slice-2-clause-front
returns-in-Err-extend_from_slice-2-clause-front g c = (c.loop-turn.bytes.items ++ take c.in-Ok.count c.read.new.into, consumes_more _ _ _ _ _ c.loop-turn.invariant.0 c.in-Ok.ensures.bytes.0)

pub returns-then-count-room-clause-long_bytes : goal.returns-then-count-room-clause-long_bytes
returns-then-count-room-clause-long_bytes g c is =
    let room : ℕ = c.args.limit - length c.loop-turn.bytes.items in
    let P : List ℕ → Type 0 = λ bytes. (length bytes ≡ c.args.limit) × LosesMore (g.S.Source.left c.args.from.now) (g.S.Source.left c.read.new.self) bytes in
    let less : room < c.in-Ok.count = search rules in
    let within : c.in-Ok.count ≤ length c.read.new.into = search rules in
    let kept : c.extend_from_slice.new.self.items ≡ c.loop-turn.bytes.items ++ take room c.read.new.into = search rules in
    subst P (sym kept) (full _ c.read.new.into c.args.limit c.in-Ok.count c.loop-turn.invariant.1 less within, loses_more _ _ _ _ c.read.new.into room c.in-Ok.count less within c.loop-turn.invariant.0 c.in-Ok.ensures.bytes.0)
