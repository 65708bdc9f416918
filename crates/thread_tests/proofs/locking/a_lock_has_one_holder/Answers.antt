use Rattle.std.proofs.Common.{rules, ◌≡◌, All, length, List, sym, ap, ◌∙◌, subst}
use Rattle.shared_rows.specs.Known.{Known}
use Rattle.thread_tests.specs.Ending.{Ends}
use Rattle.thread_tests.proofs.Gathering.{all_free, taken}
use Rattle.thread_tests.proofs.locking.a_lock_has_one_holder.Goals as goal

pub contend_all-requires-clause-ends : goal.contend_all-requires-clause-ends
contend_all-requires-clause-ends g c = λ _. let s = c.in_ok-started.started in
    subst (All (Ends s.shared)) (sym c.as_mut_slice.ensures.value) (all_free 8 s.shared s.passes.items c.in_ok-started.ensures)

pub end-kept-requires-clause-ends : goal.end-kept-requires-clause-ends
end-kept-requires-clause-ends g c = let s = c.in_ok-started.started in
    let whole : s.passes.len ≡ length s.passes.items = search rules in
    let same : length c.contend_all.new.passes ≡ length s.passes.items = c.contend_all.ensures.count ∙ ap (λ (ps : List Known). length ps) c.as_mut_slice.ensures.value in
    taken (Ends s.shared) s.passes.items c.contend_all.new.passes s.passes.len whole same c.contend_all.ensures.ends
