use Rattle.std.proofs.Common.{◌∙◌, ap, sym, subst}
use Rattle.op_model.specs.Operations.{put_id}
use Rattle.op_model.specs.Valid.{IsAscending}
use Rattle.record_rows.specs.Readings.{Image, ParentImage}
use Rattle.record_rows.proofs.ImageFacts.{parent_image}
use Rattle.change_reader.proofs.EntryPlaces.{at_number}
use Rattle.change_reader.proofs.WalkSteps.{others, popped, walk_ends, walk_falls, walk_goes, walk_starts}
use Rattle.change_reader.proofs.walks.visited.Goals as goal

pub own_entries-requires : goal.own_entries-requires
own_entries-requires g c = let r = c.requires.root in record { root = (r.0, r.1, r.2, r.4) }

pub loop-n-init : goal.loop-n-init
unfolding put_id
loop-n-init g c =
    let roots = c.in_ok-put.ensures ∙ ap (put_id c.args.root) c.new-roots.ensures.items in
    record {
      same = c.own_entries.ensures.same;
      order = subst IsAscending (sym roots) tt;
      walked = λ d b log i m. walk_starts d b i.dataset i.base log i.legal c.args.prefix c.args.root _ _ _ m.high (c.in_ok-waiting.ensures.is d b log m) roots c.new-list.ensures.items;
    }

pub add-requires : goal.add-requires
add-requires g c =
    let r = c.requires.root in
    let i = c.loop-n.invariant in
    let l = popped r.0 r.1 r.3.dataset r.3.base r.2 r.3.legal c.args.prefix c.args.root _ _ _ c.pop.new.self.items c.in-Some.n c.in-Some.ensures.items (i.walked r.0 r.1 r.2 r.3 r.4) in
    record { entry = (r.0, r.1, r.2, subst (λ w. ParentImage r.0 r.1 r.2 (g.W.Words.words w)) (sym i.same) (parent_image r.0 r.1 r.2 _ r.3), l) }

pub go_back-requires-clause-entry : goal.go_back-requires-clause-entry
go_back-requires-clause-entry g c =
    let r = c.requires.root in
    let i = c.loop-n.invariant in
    let l = popped r.0 r.1 r.3.dataset r.3.base r.2 r.3.legal c.args.prefix c.args.root _ _ _ c.pop.new.self.items c.in-Some.n c.in-Some.ensures.items (i.walked r.0 r.1 r.2 r.3 r.4) in
    (r.0, r.1, r.2, subst (λ w. Image r.0 r.1 r.2 (g.W.Words.words w)) (sym (c.in_ok-add.ensures.same ∙ i.same)) r.3, l)

pub go_back-requires-clause-order : goal.go_back-requires-clause-order
go_back-requires-clause-order g c = c.loop-n.invariant.order

pub loop-n-smaller : goal.loop-n-smaller
loop-n-smaller g c =
    let r = c.requires.root in
    let i = c.loop-n.invariant in
    let w = i.walked r.0 r.1 r.2 r.3 r.4 in
    let l = popped r.0 r.1 r.3.dataset r.3.base r.2 r.3.legal c.args.prefix c.args.root _ _ _ c.pop.new.self.items c.in-Some.n c.in-Some.ensures.items w in
    let rest = others r.0 r.1 r.3.dataset r.3.base r.2 r.3.legal c.args.prefix c.args.root _ _ _ c.pop.new.self.items c.in-Some.n c.in-Some.ensures.items w in
    let image = subst (λ w. Image r.0 r.1 r.2 (g.W.Words.words w)) (sym (c.in_ok-add.ensures.same ∙ i.same)) r.3 in
    walk_falls r.0 r.1 r.3.dataset r.3.base r.2 r.3.legal c.args.prefix c.args.root _ c.pop.new.self.items c.in-Some.n _ _ c.in-Some.ensures.items (c.in_ok-go_back.ensures.waits r.0 r.1 r.2 image l rest)

pub loop-n-preserved : goal.loop-n-preserved
loop-n-preserved g c =
    let i = c.loop-n.invariant in
    record {
      same = c.in_ok-go_back.ensures.same ∙ (c.in_ok-add.ensures.same ∙ i.same);
      order = c.in_ok-go_back.ensures.order;
      walked = λ d b log m k.
          let w = i.walked d b log m k in
          let l = popped d b m.dataset m.base log m.legal c.args.prefix c.args.root _ _ _ c.pop.new.self.items c.in-Some.n c.in-Some.ensures.items w in
          let rest = others d b m.dataset m.base log m.legal c.args.prefix c.args.root _ _ _ c.pop.new.self.items c.in-Some.n c.in-Some.ensures.items w in
          let image = subst (λ w. Image d b log (g.W.Words.words w)) (sym (c.in_ok-add.ensures.same ∙ i.same)) m in
          let parents = subst (λ w. ParentImage d b log (g.W.Words.words w)) (sym i.same) (parent_image d b log _ m) in
          let x = at_number d b log c.in-Some.n m.legal l in
          walk_goes d b m.dataset m.base log m.legal c.args.prefix c.args.root _ _ _ c.pop.new.self.items c.in-Some.n x.0 _ _ _ c.in-Some.ensures.items w x.1.found
          (c.in_ok-go_back.ensures.waits d b log image l rest) (c.in_ok-go_back.ensures.roots d b log x.0 image x.1.found) (c.in_ok-add.ensures.is d b log x.0 parents x.1.found);
    }

pub returns-clause-is : goal.returns-clause-is
returns-clause-is g c d b log i m =
    walk_ends d b i.dataset i.base log i.legal c.args.prefix c.args.root _ _ _ (sym c.loop-n.waiting.ok.0 ∙ c.in_default.ensures.cases.0) (c.loop-n.invariant.walked d b log i m)
