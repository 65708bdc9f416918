use Rattle.std.proofs.Common.{◌∙◌, ◌+◌, List, map, take, refl, sym, ap, subst, arith}
use Rattle.op_model.specs.declared.entry.Changed.{Changed}
use Rattle.base_rows.proofs.Passing.{take_whole}
use Rattle.edge_rows.proofs.ChainFacts.{image_kept}
use Rattle.entry_rows.specs.declared.changes.EntryChange.{EntryChange}
use Rattle.entry_lists.specs.Changing.{AreChanging}
use Rattle.entry_lists.proofs.ChangeFacts.{changes_are, changing_next, none_changing, pairs_next}
use Rattle.entry_lists.proofs.changes.list_changes.Goals as goal

pub loop-change-init : goal.loop-change-init
loop-change-init g c = record {
  same = refl;
  low = (let f = c.count-next.ensures.few in omega (arith, f));
  pairs = ap (map (λ (x : EntryChange). x.changed)) c.new-list.ensures.items;
  told = λ d b log i. none_changing d b log _ _ (c.count-next.ensures.is d b log i) c.new-list.ensures.items;
}

pub change_at-placed-requires : goal.change_at-placed-requires
change_at-placed-requires g c = let r = c.requires.image in record { image = (r.0, r.1, r.2, image_kept g.W.Words.words r.0 r.1 r.2 c.loop-change.invariant.same r.3) }

pub next_place-next-requires : goal.next_place-next-requires
next_place-next-requires g c = let n = c.loop-change.invariant.low in let l = c.loop-change-test.true in let f = c.requires.few in omega (arith, n, l, f)

pub loop-change-preserved : goal.loop-change-preserved
loop-change-preserved g c = record {
  same = c.change_at-placed.ensures.same ∙ c.loop-change.invariant.same;
  low = (let n = c.loop-change.invariant.low in let z = c.next_place-next.ensures.bound in omega (arith, n, z));
  pairs = pairs_next c.args.changed.now c.loop-change.change-index c.change-item.result _ _ c.change_at-placed.result c.loop-change-test.true c.change-item.is c.loop-change.invariant.pairs c.change_at-placed.ensures.changed c.in-Ok.ensures.items;
  told = λ d b log i.
      subst (λ n. AreChanging d b log (take (c.loop-change.change-index + 1) c.args.changed.now) n c.push.new.self.items) (sym c.next_place-next.ensures.is)
      (changing_next d b log c.args.changed.now c.loop-change.change-index c.change-item.result c.loop-change.next _ _ c.change_at-placed.result c.loop-change-test.true c.change-item.is (c.loop-change.invariant.told d b log i) c.loop-change.invariant.pairs
      (c.change_at-placed.ensures.is d b log (image_kept g.W.Words.words d b log c.loop-change.invariant.same i)) c.change_at-placed.ensures.changed c.in-Ok.ensures.items);
}

pub returns-clause-pairs : goal.returns-clause-pairs
returns-clause-pairs g c = c.loop-change.invariant.pairs ∙ take_whole c.args.changed.now c.loop-change.change-index c.loop-change-test.false

pub returns-clause-changes : goal.returns-clause-changes
returns-clause-changes g c = λ d b log e i q.
    let w = take_whole c.args.changed.now c.loop-change.change-index c.loop-change-test.false in
    changes_are d b log e _ i c.args.changed.now q _ c.loop-change.next (c.loop-change.invariant.pairs ∙ w)
    (subst (λ (cs : List Changed). AreChanging d b log cs c.loop-change.next c.loop-change.list.items) w (c.loop-change.invariant.told d b log i.image))
