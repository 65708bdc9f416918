use Rattle.std.proofs.Common.{◌<◌, map, length, inl, inr, subst, sym, ◌≡◌, true, is_some}
use Rattle.std.proofs.lemmas.List.{length-map}
use Rattle.flow_net.specs.Net.{wire_of}
use Rattle.min_cut.specs.Tree.{visit_at}
use Rattle.min_cut.proofs.Reaching.{put_at, put_kept, put_glues}
use Rattle.min_cut.proofs.glue.reach_over.Goals as goal

pub returns-clause-glues : goal.returns-clause-glues
returns-clause-glues c =
    let l : c.args.k < length (map wire_of c.args.links.now) = rw length-map c.requires.at in
    let b = c.begin_at.ensures in
    put_glues c.args.visits.now c.begin_at.new.visits c.glued_to-to.result (record { level = 0; link = 0; width = 8589934592 })
    (c.glued_to-to.ensures.below (length c.args.visits.now) c.requires.ends c.requires.below) b.same b.set
    (map wire_of c.args.links.now) c.args.k c.args.from c.args.queue.now c.begin_at.new.queue c.args.tail c.begin_at.result l c.requires.from c.glued_to-to.ensures.joined b.queue b.more b.places

pub returns-clause-closed : goal.returns-clause-closed
returns-clause-closed c w g =
    let b = c.begin_at.ensures in
    let l = c.glued_to-to.ensures.below (length c.args.visits.now) c.requires.ends c.requires.below in
    elim (c.glued_to-to.ensures.only w g) [
      | inl e ↦ subst (λ v. is_some (visit_at c.begin_at.new.visits v) ≡ true) (sym e)
          (put_kept c.args.visits.now c.begin_at.new.visits c.glued_to-to.result (record { level = 0; link = 0; width = 8589934592 }) l b.same b.set c.args.from c.requires.from)
      | inr e ↦ subst (λ v. is_some (visit_at c.begin_at.new.visits v) ≡ true) (sym e)
          (put_at c.args.visits.now c.begin_at.new.visits c.glued_to-to.result (record { level = 0; link = 0; width = 8589934592 }) l b.same b.set)
    ]
