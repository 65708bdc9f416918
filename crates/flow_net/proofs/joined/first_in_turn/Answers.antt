use Rattle.std.proofs.Common.{◌≡◌, length, map, arith, sym, ap, ◌∙◌, below_more, is_some, get_or}
use Rattle.flow_net.specs.Net.{wire_of}
use Rattle.flow_net.proofs.Reached.{same_sink}
use Rattle.graph_model.specs.Lists.{has}
use Rattle.graph_model.proofs.FirstOpen.{open_hit, open_none}
use Rattle.flow_net.proofs.joined.first_in_turn.Goals as goal

pub returns-in-Some : goal.returns-in-Some
returns-in-Some c =
    let e : length c.reach.new.seen ≡ length c.args.seen.now = c.reach.auto.seen ∙ c.loop-s.invariant.len in
    let ws = map wire_of c.args.links.now in
    let s = get_or c.args.sources.now c.loop-s.s-index 0 in
    sym (open_hit ws (has c.args.cut.now) c.args.sources.now c.args.sinks.now c.loop-s.s-index c.in-Some.sink c.loop-s-test.true c.loop-s.invariant.none
    (sym (same_sink ws (has c.args.cut.now) c.args.sinks.now s c.reach.new.seen c.reach.ensures (λ k d l. rw e (c.requires.sinks k d l))) ∙ (sym c.first_marked.ensures ∙ c.in-Some.is)))

pub loop-s-preserved : goal.loop-s-preserved
loop-s-preserved c =
    let e : length c.reach.new.seen ≡ length c.args.seen.now = c.reach.auto.seen ∙ c.loop-s.invariant.len in
    let ws = map wire_of c.args.links.now in
    let s = get_or c.args.sources.now c.loop-s.s-index 0 in
    record {
      len = e;
      none = below_more _ _ c.loop-s.invariant.none
          (ap is_some (sym (same_sink ws (has c.args.cut.now) c.args.sinks.now s c.reach.new.seen c.reach.ensures (λ k d l. rw e (c.requires.sinks k d l))) ∙ (sym c.first_marked.ensures ∙ c.in-None.is)));
    }

pub returns : goal.returns
returns c = sym (open_none (map wire_of c.args.links.now) (has c.args.cut.now) c.args.sources.now c.args.sinks.now (λ k l. c.loop-s.invariant.none k (omega arith)))
