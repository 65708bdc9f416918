use Rattle.std.proofs.Common.{◌-◌, ◌∷◌, List, sym, subst, ap}
use Rattle.op_model.specs.declared.base.Base.{Base}
use Rattle.op_model.specs.declared.entry.Entry.{Entry}
use Rattle.entry_parts.specs.Parts.{AreFirstsOf}
use Rattle.part_layers.specs.Rising.{AreOwnFirsts}
use Rattle.entry_layers.specs.Layering.{AreLayersTo, IsEntryList}
use Rattle.entry_layers.proofs.Rounds.{part_list}
use Rattle.entry_layers.proofs.layering.next_layer.Goals as goal

pub add_layer-requires-clause-made : goal.add_layer-requires-clause-made
add_layer-requires-clause-made g c =
    let r = c.requires.made in
    let d = c.args.dataset.now in
    let s = sym c.ids_of-ids.ensures in
    let here = c.in_ok-firsts.ensures.are r.0 (r.2 ∷ r.1) r.3.image.base r.3.part_is in
    let is = part_list d r.0 r.1 r.2 (g.W.Words.words c.args.w.now) c.args.part.now c.args.ends.now r.3 in (
      r.0,
      r.1,
      r.2,
      subst (λ xs. IsEntryList d r.0 r.1 r.2 (g.W.Words.words c.args.w.now) xs c.args.ends.now) s is,
      subst (λ xs. AreLayersTo d r.0 r.1 r.2 xs (c.args.layer - 2) c.args.all.now c.args.below.now) s r.4,
      r.5,
      subst (λ xs. AreFirstsOf d r.0 (r.2 ∷ r.1) xs c.args.layer c.in_ok-firsts.firsts.items) s here,
    )

pub returns-clause-own : goal.returns-clause-own
returns-clause-own g c = subst (λ v. AreOwnFirsts c.args.dataset.now c.args.part.now c.args.layer v.items) (sym c.in_ok-next.ensures.firsts) c.in_ok-firsts.ensures.own

pub returns-clause-made : goal.returns-clause-made
returns-clause-made g c b log e is to n =
    let d = c.args.dataset.now in
    let q = c.ids_of-ids.ensures in
    let here = c.in_ok-firsts.ensures.are b (e ∷ log) is.image.base is.part_is in
    let list = part_list d b log e (g.W.Words.words c.args.w.now) c.args.part.now c.args.ends.now is in
    subst (λ xs. AreLayersTo d b log e xs (c.args.layer - 1) c.add_layer.new.all c.in_ok-next.next) q
    (c.in_ok-next.ensures.made b log e (subst (λ xs. IsEntryList d b log e (g.W.Words.words c.args.w.now) xs c.args.ends.now) (sym q) list)
    (subst (λ xs. AreLayersTo d b log e xs (c.args.layer - 2) c.args.all.now c.args.below.now) (sym q) to) n
    (subst (λ xs. AreFirstsOf d b (e ∷ log) xs c.args.layer c.in_ok-firsts.firsts.items) (sym q) here))
