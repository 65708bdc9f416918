use Rattle.std.proofs.Common.{◌∙◌, ◌≤◌, length, map, refl, sym, ap, subst}
use Rattle.op_model.specs.declared.entry.Changed.{Changed}
use Rattle.record_rows.specs.LogRows.{unknown}
use Rattle.base_rows.proofs.Passing.{take_whole}
use Rattle.edge_rows.proofs.ChainFacts.{image_kept}
use Rattle.entry_lists.proofs.EdgeFacts.{none_yet, unknown_few, unknown_next}
use Rattle.entry_lists.proofs.edges.unknown_pairs.Goals as goal

pub loop-change-init : goal.loop-change-init
loop-change-init g c = record { same = refl; are = λ d b log i. none_yet d b log _ c.new-list.ensures.items }

pub put_unknown-requires : goal.put_unknown-requires
put_unknown-requires g c = let r = c.requires.image in record { image = (r.0, r.1, r.2, image_kept g.W.Words.words r.0 r.1 r.2 c.loop-change.invariant.same r.3) }

pub loop-change-preserved : goal.loop-change-preserved
loop-change-preserved g c = record {
  same = c.in_ok-put_unknown.ensures.same ∙ c.loop-change.invariant.same;
  are = λ d b log i.
      unknown_next d b log c.args.changed.now c.loop-change.change-index c.change-item.result _ _ c.loop-change-test.true c.change-item.is (c.loop-change.invariant.are d b log i)
      (c.in_ok-put_unknown.ensures.put d b log (image_kept g.W.Words.words d b log c.loop-change.invariant.same i));
}

pub returns-in_err-put_unknown-clause-same : goal.returns-in_err-put_unknown-clause-same
returns-in_err-put_unknown-clause-same g c = c.in_err-put_unknown.ensures.same ∙ c.loop-change.invariant.same

pub returns-clause-same : goal.returns-clause-same
returns-clause-same g c = c.loop-change.invariant.same

pub returns-clause-are : goal.returns-clause-are
returns-clause-are g c = λ d b log i. c.loop-change.invariant.are d b log i ∙ ap (λ cs. map (λ (x : Changed). x.pair) (unknown d b log cs)) (take_whole c.args.changed.now c.loop-change.change-index c.loop-change-test.false)

pub returns-clause-few : goal.returns-clause-few
returns-clause-few g c =
    let r = c.requires.image in
    subst (λ ps. length ps ≤ length c.args.changed.now) (sym (c.loop-change.invariant.are r.0 r.1 r.2 r.3 ∙ ap (λ cs. map (λ (x : Changed). x.pair) (unknown r.0 r.1 r.2 cs)) (take_whole c.args.changed.now c.loop-change.change-index c.loop-change-test.false)))
    (unknown_few r.0 r.1 r.2 c.args.changed.now)
