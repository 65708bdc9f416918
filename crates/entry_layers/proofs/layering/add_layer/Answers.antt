use Rattle.std.proofs.Common.{◌≡◌, ◌∙◌, ◌+◌, ◌-◌, ◌≤◌, ◌++◌, ◌∷◌, List, length, ap, subst, sym, arith}
use Rattle.entry_parts.specs.declared.made.MadeLink.{MadeLink}
use Rattle.entry_parts.specs.declared.made.MadeNode.{MadeNode}
use Rattle.entry_parts.specs.Made.{AreLinksIn, AreMadeIn}
use Rattle.made_links.specs.Children.{IsLinked}
use Rattle.entry_layers.proofs.Rounds.{linked_at, next_is, room_below, touched_at}
use Rattle.entry_layers.proofs.layering.add_layer.Goals as goal

pub layer_made-requires-clause-touched : goal.layer_made-requires-clause-touched
layer_made-requires-clause-touched g c =
    let r = c.requires.made in (
      r.0,
      r.1,
      r.2,
      touched_at c.args.dataset.now r.0 r.1 r.2 (g.W.Words.words c.args.w.now) c.args.ids.now c.args.ends.now r.3 c.args.layer c.requires.layer.0 c.requires.layer.1 c.deref.result.now c.args.firsts.items
          c.deref.ensures.value r.6,
    )

pub layer_links-requires : goal.layer_links-requires
layer_links-requires g c =
    let r = c.requires.made in
    let d = c.args.dataset.now in
    let two = c.requires.layer.0 in
    let high = c.requires.layer.1 in
    let touched = touched_at d r.0 r.1 r.2 (g.W.Words.words c.args.w.now) c.args.ids.now c.args.ends.now r.3 c.args.layer two high c.deref.result.now c.args.firsts.items c.deref.ensures.value r.6 in
    let are = c.in_ok-made.ensures.nodes r.0 r.1 r.2 touched in
    let linked = linked_at d r.0 r.1 r.2 (g.W.Words.words c.args.w.now) c.args.ids.now c.args.ends.now r.3 c.args.layer two high c.args.all.now c.args.below.now r.4 c.args.prefix c.deref-2.result.now c.deref-3.result.now
    c.args.firsts.items c.in_ok-made.made r.5 c.deref-2.ensures.value c.deref-3.ensures.value r.6 are c.in_ok-made.ensures.leasts c.in_ok-made.ensures.places in
    record {
      linked = (
        d,
        r.0,
        r.1,
        r.2,
        subst (λ w. IsLinked d r.0 r.1 r.2 (g.W.Words.words w) c.args.prefix c.args.ids.now c.args.layer c.deref-2.result.now c.args.below.now.made c.deref-3.result.now c.in_ok-made.made) (sym c.layer_made.ensures.same) linked,
        two,
        high,
      );
    }

pub returns-clause-made : goal.returns-clause-made
returns-clause-made g c b log e is to n here =
    let d = c.args.dataset.now in
    let two : 2 ≤ c.args.layer = c.requires.layer.0 in
    let high = c.requires.layer.1 in
    let touched = touched_at d b log e (g.W.Words.words c.args.w.now) c.args.ids.now c.args.ends.now is c.args.layer two high c.deref.result.now c.args.firsts.items c.deref.ensures.value here in
    let are = c.in_ok-made.ensures.nodes b log e touched in
    let old = linked_at d b log e (g.W.Words.words c.args.w.now) c.args.ids.now c.args.ends.now is c.args.layer two high c.args.all.now c.args.below.now to c.args.prefix c.deref-2.result.now c.deref-3.result.now
    c.args.firsts.items c.in_ok-made.made n c.deref-2.ensures.value c.deref-3.ensures.value here are c.in_ok-made.ensures.leasts c.in_ok-made.ensures.places in
    let linked = subst (λ w. IsLinked d b log e (g.W.Words.words w) c.args.prefix c.args.ids.now c.args.layer c.deref-2.result.now c.args.below.now.made c.deref-3.result.now c.in_ok-made.made) (sym c.layer_made.ensures.same) old in
    let spent = c.in_ok-made.ensures.spent b log e touched in
    let steps : c.args.layer - 2 + 2 ≡ c.args.layer = omega (arith, two) in
    let gathered = c.in_ok-add.ensures.gathered d b log e (c.args.layer - 2) c.args.below.now.made.nodes.items to.gathered steps
    (subst (λ (ns : List MadeNode). AreMadeIn d b log e c.args.layer ns) (sym c.deref-4.ensures.value) are) spent
    (ap (λ (ls : List MadeLink). length ls) c.deref-5.ensures.value ∙ c.in_ok-links.ensures.count d b log e linked high)
    (λ o. subst (λ (ls : List MadeLink). AreLinksIn d b log e c.args.layer c.args.below.now.made.nodes.items ls) (sym c.deref-5.ensures.value)
    (c.in_ok-links.ensures.links d b log e linked high (room_below d b log e (g.W.Words.words c.args.w.now) c.args.ids.now c.args.ends.now is c.args.layer two high c.args.all.now c.args.below.now to o)))
    to.known in
    next_is d b log e (g.W.Words.words c.args.w.now) c.args.ids.now c.args.ends.now is c.args.layer two high c.args.all.now c.args.below.now to c.add.new.all _ here are
    c.in_ok-made.ensures.leasts c.in_ok-made.ensures.places
    spent gathered (c.in_ok-add.ensures.nodes ∙ ap (λ (ns : List MadeNode). c.args.all.now.nodes.items ++ ns) c.deref-4.ensures.value) (λ o. (c.in_ok-add.ensures.spent o).1)
