use Rattle.united_layers.proofs.Layered.{entry_list}
use Rattle.united_layers.proofs.layering.next_layer.Goals as goal

pub add_layer-requires-clause-made : goal.add_layer-requires-clause-made
add_layer-requires-clause-made g c =
    let r = c.requires.made in
    let d = c.args.dataset.now in (
      r.0,
      r.1,
      r.2,
      entry_list d r.0 r.1 r.2 (g.W.Words.words c.args.w.now) c.args.ids.now c.args.ends.now c.args.joints.now r.3,
      r.4,
      r.5,
      c.in_ok-firsts.ensures d r.0 r.1 r.2 (g.W.Words.words c.args.w.now) c.args.ends.now r.3 c.requires.layer.0 c.requires.layer.1,
    )

pub returns-clause-made : goal.returns-clause-made
returns-clause-made g c b log e is to n =
    let d = c.args.dataset.now in
    c.in_ok-next.ensures.made b log e (entry_list d b log e (g.W.Words.words c.args.w.now) c.args.ids.now c.args.ends.now c.args.joints.now is) to n
    (c.in_ok-firsts.ensures d b log e (g.W.Words.words c.args.w.now) c.args.ends.now is c.requires.layer.0 c.requires.layer.1)
