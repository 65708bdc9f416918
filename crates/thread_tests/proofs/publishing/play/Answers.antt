use Rattle.std.proofs.Common.{rules, ◌≡◌, All, length, List, sym, ap, ◌∙◌, subst}
use Rattle.shared_rows.specs.Known.{Known}
use Rattle.thread_tests.specs.Ending.{Ends, IsBegun}
use Rattle.thread_tests.proofs.Gathering.{all_begun, taken}
use Rattle.thread_tests.proofs.publishing.play.Goals as goal

pub work_all-requires-clause-begun : goal.work_all-requires-clause-begun
work_all-requires-clause-begun g c = λ _ _. let s = c.in_ok-started.started in
    subst (All (IsBegun s.shared)) (sym c.as_mut_slice.ensures.value) (all_begun 4 s.shared s.passes.items c.in_ok-started.ensures)

pub end-kept-requires-clause-ends : goal.end-kept-requires-clause-ends
end-kept-requires-clause-ends g c = let s = c.in_ok-started.started in
    let whole : s.passes.len ≡ length s.passes.items = search rules in
    let same : length c.work_all.new.passes ≡ length s.passes.items = c.work_all.ensures.count ∙ ap (λ (ps : List Known). length ps) c.as_mut_slice.ensures.value in
    taken (Ends s.shared) s.passes.items c.work_all.new.passes s.passes.len whole same c.work_all.ensures.ends
