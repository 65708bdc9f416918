use Rattle.std.proofs.Common.{◌≡◌, ◌<◌, ◌∙◌, length, map, sym, refl, ap₂, subst, rules}
use Rattle.std.specs.List.{All}
use Rattle.op_model.specs.declared.reply.Refusal.TheVariants.{Glued}
use Rattle.flow_net.specs.Net.{wires}
use Rattle.split_net.specs.Parts.{id_at}
use Rattle.split_net.proofs.Cutting.{glue_told, glue_untold, glued_is, is_shown, marks_low, sides_apart, unshown}
use Rattle.split_net.proofs.showing.shown.Goals as goal

pub least_cut-requires-clause-sides : goal.least_cut-requires-clause-sides
least_cut-requires-clause-sides c =
    let at : map (id_at c.args.leaves.now) c.as_slice.result.now ≡ c.args.sources.now = search rules in
    let at2 : map (id_at c.args.leaves.now) c.as_slice-2.result.now ≡ c.args.sinks.now = search rules in
    let low : All (λ i. i < length c.args.leaves.now) c.as_slice.result.now = search rules in
    let low2 : All (λ i. i < length c.args.leaves.now) c.as_slice-2.result.now = search rules in
    sides_apart c.args.leaves.now c.args.part.now c.args.sources.now c.args.sinks.now c.in-Ok.net c.as_slice.result.now c.as_slice-2.result.now c.requires.part
    c.in-Ok.ensures.named c.in-Ok.ensures.size c.in-Ok.ensures.sound at at2 low low2 c.requires.sides

pub glued_at-requires : goal.glued_at-requires
glued_at-requires c =
    let low : All (λ i. i < length c.args.leaves.now) c.as_slice.result.now = search rules in
    let low2 : All (λ i. i < length c.args.leaves.now) c.as_slice-2.result.now = search rules in
    let g = glued_is (wires c.in-Ok.net) c.as_slice.result.now c.as_slice-2.result.now c.in-Err-Glued.field-0 c.in-Err-Glued.source c.in-Err-Glued.sink c.in-Err-Glued.field-0-is c.in-Err-Glued.ensures.glued in
    let p = marks_low (length c.args.leaves.now) (wires c.in-Ok.net) c.as_slice.result.now c.as_slice-2.result.now low low2 c.in-Err-Glued.source c.in-Err-Glued.sink g in
    record {
      source = subst (λ i. i < length c.args.leaves.now) (sym c.in-Err-Glued.source-is) p.0;
      sink = subst (λ i. i < length c.args.leaves.now) (sym c.in-Err-Glued.sink-is) p.1;
    }

pub returns-in-Err-Glued-clause-refused : goal.returns-in-Err-Glued-clause-refused
returns-in-Err-Glued-clause-refused c =
    let at : map (id_at c.args.leaves.now) c.as_slice.result.now ≡ c.args.sources.now = search rules in
    let at2 : map (id_at c.args.leaves.now) c.as_slice-2.result.now ≡ c.args.sinks.now = search rules in
    let low : All (λ i. i < length c.args.leaves.now) c.as_slice.result.now = search rules in
    let low2 : All (λ i. i < length c.args.leaves.now) c.as_slice-2.result.now = search rules in
    let g = glued_is (wires c.in-Ok.net) c.as_slice.result.now c.as_slice-2.result.now c.in-Err-Glued.field-0 c.in-Err-Glued.source c.in-Err-Glued.sink c.in-Err-Glued.field-0-is c.in-Err-Glued.ensures.glued in
    unshown c.args.part.now c.args.sources.now c.args.sinks.now c.glued_at.result (id_at c.args.leaves.now c.in-Err-Glued.source) (id_at c.args.leaves.now c.in-Err-Glued.sink)
    (c.glued_at.ensures ∙ ap₂ (λ i j. Glued (id_at c.args.leaves.now i) (id_at c.args.leaves.now j)) c.in-Err-Glued.source-is c.in-Err-Glued.sink-is)
    (glue_told c.args.leaves.now c.args.part.now c.args.sources.now c.args.sinks.now c.in-Ok.net c.as_slice.result.now c.as_slice-2.result.now c.requires.part
    c.in-Ok.ensures.named c.in-Ok.ensures.size c.in-Ok.ensures.sound at at2 low low2 c.in-Err-Glued.source c.in-Err-Glued.sink g)

pub returns-in-Ok-tell-clause-shown : goal.returns-in-Ok-tell-clause-shown
returns-in-Ok-tell-clause-shown c =
    let at : map (id_at c.args.leaves.now) c.as_slice.result.now ≡ c.args.sources.now = search rules in
    let at2 : map (id_at c.args.leaves.now) c.as_slice-2.result.now ≡ c.args.sinks.now = search rules in
    let low : All (λ i. i < length c.args.leaves.now) c.as_slice.result.now = search rules in
    let low2 : All (λ i. i < length c.args.leaves.now) c.as_slice-2.result.now = search rules in
    is_shown c.args.leaves.now c.args.part.now c.args.sources.now c.args.sinks.now c.in-Ok.net c.as_slice.result.now c.as_slice-2.result.now c.requires.part
    c.in-Ok.ensures.named c.in-Ok.ensures.size c.in-Ok.ensures.sound at at2 low low2 c.in-Ok-least_cut.least c.in-Ok-tell.shown c.in-Ok-least_cut.ensures.cut c.in-Ok-least_cut.ensures.total
    c.in-Ok-least_cut.ensures.accepts c.in-Ok-tell.ensures

pub returns-in-Ok-tell-clause-separable : goal.returns-in-Ok-tell-clause-separable
returns-in-Ok-tell-clause-separable c =
    let at : map (id_at c.args.leaves.now) c.as_slice.result.now ≡ c.args.sources.now = search rules in
    let at2 : map (id_at c.args.leaves.now) c.as_slice-2.result.now ≡ c.args.sinks.now = search rules in
    let low : All (λ i. i < length c.args.leaves.now) c.as_slice.result.now = search rules in
    let low2 : All (λ i. i < length c.args.leaves.now) c.as_slice-2.result.now = search rules in
    glue_untold c.args.leaves.now c.args.part.now c.args.sources.now c.args.sinks.now c.in-Ok.net c.as_slice.result.now c.as_slice-2.result.now c.requires.part
    c.in-Ok.ensures.named c.in-Ok.ensures.size c.in-Ok.ensures.sound at at2 low low2 (c.in-Ok-least_cut.ensures.separable refl)
