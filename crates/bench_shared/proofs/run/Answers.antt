use Rattle.std.proofs.Common.{All, sym, subst}
use Rattle.bench_shared.specs.Passes.{IsFree}
use Rattle.bench_shared.proofs.run.Goals as goal

pub tell_all-requires-clause-free : goal.tell_all-requires-clause-free
tell_all-requires-clause-free g c = λ _ _. let s = c.in_ok-begun.begun.0 in
    subst (All (IsFree s.shared)) (sym c.as_mut_slice.ensures.value) c.in_ok-begun.ensures
