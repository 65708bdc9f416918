use Rattle.std.proofs.Common.{◌≡◌, not, map, length, get_or, is_some, arith, sym, ap, refl, ◌∙◌, below_more}
use Rattle.std.proofs.lemmas.List.{length-map}
use Rattle.flow_net.specs.Net.{wire_of}
use Rattle.graph_model.specs.Cuts.{is_affinity}
use Rattle.graph_model.proofs.FirstOpen.{open_hit, open_none}
use Rattle.min_cut.proofs.Reaching.{none_open, none_case, sink_found}
use Rattle.min_cut.proofs.glue.first_glued.Goals as goal

pub returns-then-is_none : goal.returns-then-is_none
returns-then-is_none c =
    let n = none_case c.first_visited.result _ (c.is_none.ensures ∙ ap not c.if-is_none.true) c.first_visited.ensures.none in
    sym (none_open (map wire_of c.args.links.now) c.args.sources.now c.args.sinks.now c.reach.new.visits c.reach.ensures.each c.reach.ensures.closed n)

pub returns-in-Some : goal.returns-in-Some
returns-in-Some c =
    let ws = map wire_of c.args.links.now in
    let s = get_or c.args.sources.now c.loop-s.s-index 0 in
    let len : length ws ≡ length c.args.links.now = rw length-map refl in
    let r = c.reach-in-loop-s.ensures in
    sym (open_hit ws (is_affinity ws) c.args.sources.now c.args.sinks.now c.loop-s.s-index c.in-Some.sink c.loop-s-test.true c.loop-s.invariant.none
    (sym (sink_found ws (length c.args.links.now) s c.args.sinks.now c.reach-in-loop-s.new.visits len r.each r.closed r.sound) ∙ (sym c.first_visited-in-loop-s.ensures.first ∙ c.in-Some.is)))

pub loop-s-preserved : goal.loop-s-preserved
loop-s-preserved c =
    let ws = map wire_of c.args.links.now in
    let s = get_or c.args.sources.now c.loop-s.s-index 0 in
    let len : length ws ≡ length c.args.links.now = rw length-map refl in
    let r = c.reach-in-loop-s.ensures in
    record {
      len = c.reach-in-loop-s.auto.visits ∙ c.loop-s.invariant.len;
      room = c.reach-in-loop-s.auto.queue ∙ (c.loop-s.invariant.room ∙ sym c.reach-in-loop-s.auto.visits);
      none = below_more _ _ c.loop-s.invariant.none
          (ap is_some (sym (sink_found ws (length c.args.links.now) s c.args.sinks.now c.reach-in-loop-s.new.visits len r.each r.closed r.sound) ∙ (sym c.first_visited-in-loop-s.ensures.first ∙ c.in_default.is)));
    }

pub returns : goal.returns
returns c = let ws = map wire_of c.args.links.now in sym (open_none ws (is_affinity ws) c.args.sources.now c.args.sinks.now (λ k l. c.loop-s.invariant.none k (omega arith)))
