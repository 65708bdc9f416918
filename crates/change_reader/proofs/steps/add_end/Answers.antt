use Rattle.std.proofs.Common.{◌∙◌, ◌+◌, ap, sym, subst, arith}
use Rattle.std.proofs.lemmas.Bool.{cond-true, cond-false}
use Rattle.graph_model.specs.Lists.{has}
use Rattle.op_model.specs.Labels.{root}
use Rattle.op_model.specs.Operations.{put_id}
use Rattle.op_model.specs.Transcript.{log_at}
use Rattle.node_reader.specs.Readable.{IsReadable}
use Rattle.change_reader.specs.Walks.{linked_end}
use Rattle.change_reader.proofs.EntryFacts.{inner_after, inner_before, inner_few}
use Rattle.change_reader.proofs.steps.add_end.Goals as goal

pub overflow_add-n : goal.overflow_add-n
overflow_add-n g c = let r = c.requires.end in let q = inner_few r.0 r.1 r.2 _ c.args.n r.3 in omega (arith, q)

pub root_of-after-requires : goal.root_of-after-requires
root_of-after-requires g c = let r = c.requires.end in record { readable = (r.0, r.1, r.2, inner_after r.0 r.1 r.2 _ c.args.n r.3, r.4) }

pub root_of-before-requires : goal.root_of-before-requires
root_of-before-requires g c =
    let r = c.requires.end in
    record { readable = (r.0, r.1, r.2, subst (λ w. IsReadable r.0 r.1 r.2 (g.W.Words.words w) c.args.n) (sym c.root_of-after.ensures.same) (inner_before r.0 r.1 r.2 _ c.args.n r.3), r.4) }

pub returns-then-not-has_root-clause-is : goal.returns-then-not-has_root-clause-is
unfolding linked_end
returns-then-not-has_root-clause-is g c d b log i known =
    let after = c.root_of-after.ensures.is d b log (inner_after d b log _ c.args.n i) known in
    sym (cond-false (has c.args.roots.now (root d b (log_at d b log (c.args.n + 1)) c.args.end)) _ _ (ap (has c.args.roots.now) (sym after) ∙ (sym c.has_root.ensures ∙ c.if-not-has_root.true)))

pub returns-clause-is : goal.returns-clause-is
unfolding linked_end
returns-clause-is g c d b log i known =
    let after = c.root_of-after.ensures.is d b log (inner_after d b log _ c.args.n i) known in
    let before = c.root_of-before.ensures.is d b log (subst (λ w. IsReadable d b log (g.W.Words.words w) c.args.n) (sym c.root_of-after.ensures.same) (inner_before d b log _ c.args.n i)) known in
    c.in_ok-put.ensures
    ∙ (ap (λ r. put_id r c.args.list.now.items) before
    ∙ sym (cond-true (has c.args.roots.now (root d b (log_at d b log (c.args.n + 1)) c.args.end)) _ _ (ap (has c.args.roots.now) (sym after) ∙ (sym c.has_root.ensures ∙ c.if-not-has_root.false))))
