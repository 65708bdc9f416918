use Rattle.std.proofs.Common.{◌≤◌, arith, length, refl, sym, ◌∙◌, count_by, map}
use Rattle.std.proofs.lemmas.Bool.{false≢true}
use Rattle.std.proofs.lemmas.List.Sums.{count_by-le-length}
use Rattle.graph_model.specs.Lists.{has}
use Rattle.flow_net.specs.Net.{wire_of}
use Rattle.flow_net.specs.Marks.{labels_a_source}
use Rattle.flow_net.proofs.Reached.{swept_all, sweep_falls, kept_count, marks_sources, sources_marked}
use Rattle.flow_net.proofs.joined.reach.Goals as goal

pub loop-changed-init : goal.loop-changed-init
loop-changed-init c =
    let seen = c.mark_sources.new.seen in
    record {
      len = refl;
      own = sources_marked c.args.sources.now seen (λ k d l. rw c.mark_sources.auto.seen (c.requires.sources k d l)) c.mark_sources.ensures;
      sound = marks_sources (map wire_of c.args.links.now) (has c.args.cut.now) c.args.sources.now seen c.mark_sources.ensures;
      swept = λ h. absurd (false≢true (sym h));
    }

pub loop-changed-smaller : goal.loop-changed-smaller
loop-changed-smaller c =
    let old = c.loop-changed.seen in
    let new = c.sweep-changed.new.seen in
    let top = length c.mark_sources.new.seen in
    let e = kept_count old new c.sweep-changed.ensures.kept c.sweep-changed.auto.seen in
    let b : count_by (λ s. s) new ≤ top = omega (arith, count_by-le-length (λ s. s) new, c.sweep-changed.auto.seen, c.loop-changed.invariant.len) in
    rw c.loop-changed-test.true (sweep_falls top (count_by (λ s. s) old) (count_by (λ s. s) new) c.sweep-changed.result
    c.sweep-changed.ensures.grows (λ _. e) b)

pub loop-changed-preserved : goal.loop-changed-preserved
loop-changed-preserved c = record {
  len = c.sweep-changed.auto.seen ∙ c.loop-changed.invariant.len;
  own = λ s h. c.sweep-changed.ensures.kept _ (c.loop-changed.invariant.own s h);
  sound = c.sweep-changed.ensures.sound (labels_a_source (map wire_of c.args.links.now) (has c.args.cut.now) c.args.sources.now) c.loop-changed.invariant.sound;
  swept = c.sweep-changed.ensures.swept;
}

pub returns : goal.returns
returns c v l = let i = c.loop-changed.invariant in swept_all _ _ c.args.sources.now c.loop-changed.seen i.own i.sound (i.swept c.loop-changed-test.false) v
