use Rattle.std.proofs.Common.{◌≡◌, ◌≤◌, ℕ, List, length, take, slice_index_or, refl, sym, ap, subst, ◌∙◌, arith}
use Rattle.std.specs.Prelude.{MatchResult}
use Rattle.std.specs.List.{filter}
use Rattle.op_model.specs.declared.base.Edge.{Edge}
use Rattle.op_model.specs.Labels.{edges}
use Rattle.op_model.specs.Transcript.{log_at}
use Rattle.op_model.proofs.OrderLemmas.{after_sorted}
use Rattle.record_rows.specs.Readings.{Image}
use Rattle.component_reader.specs.Among.{IsLarge, active_among, leads}
use Rattle.component_reader.specs.Taking.{AreMet}
use Rattle.component_reader.proofs.Kept.{filter_few, take_none}
use Rattle.component_reader.proofs.RootLeaves.{all_taken, below_at, one_more}
use Rattle.component_reader.proofs.Started.{leads_more, leads_none}
use Rattle.component_reader.proofs.among.edges_among.Goals as goal

pub loop-place-init : goal.loop-place-init
loop-place-init g c = record {
  same = refl;
  met = λ d b log i known.
      let none = leads_none c.args.leaves.now (edges d b (log_at d b log c.args.prefix)) in
      record { kept = c.new.ensures.items ∙ sym (take_none c.args.most _ none); count = sym (ap length none) };
}

pub meet_leaf-requires-clause-image : goal.meet_leaf-requires-clause-image
meet_leaf-requires-clause-image g c =
    let (d, b, log, i, known) = c.requires.image in
    let inv = c.loop-place.invariant in
    let es : List Edge = edges d b (log_at d b log c.args.prefix) in
    let n = (inv.met d b log i known).count in
    let less = filter_few (leads (take c.loop-place.place c.args.leaves.now) c.args.leaves.now) es in
    (d, b, log, subst (λ w. Image d b log (g.W.Words.words w)) (sym inv.same) i, known, omega (arith, n, less))

pub loop-place-preserved : goal.loop-place-preserved
unfolding edges
loop-place-preserved g c = record {
  same = c.in-Ok.ensures.same ∙ c.loop-place.invariant.same;
  met = λ d b log i known.
      let inv = c.loop-place.invariant in
      let vs = c.args.leaves.now in
      let k = c.loop-place.place in
      let es : List Edge = edges d b (log_at d b log c.args.prefix) in
      let j = subst (λ w. Image d b log (g.W.Words.words w)) (sym inv.same) i in
      let v : ℕ = slice_index_or vs k 0 in
      let more = leads_more vs (take k vs) v es (after_sorted b.edges d.merge_affinity (log_at d b log c.args.prefix)) (below_at vs k v c.requires.ascending c.loop-place-test.true refl) in
      subst (λ fs. AreMet c.args.most fs c.meet_leaf.new.met) (more ∙ ap (λ us. filter (leads us vs) es) (sym (one_more vs k c.loop-place-test.true)))
      (c.in-Ok.ensures.met d b log (filter (leads (take k vs) vs) es) j known (inv.met d b log i known));
}

pub returns-clause-is : goal.returns-clause-is
unfolding active_among
returns-clause-is g c d b log i known =
    let vs = c.args.leaves.now in
    let es : List Edge = edges d b (log_at d b log c.args.prefix) in
    let all : take c.loop-place.place vs ≡ vs = all_taken vs c.loop-place.place (let f = c.loop-place-test.false in omega arith) in
    subst (λ us. MatchResult c.within.result (λ fs. (fs ≡ filter (leads us vs) es) × (length fs ≤ c.args.most)) (IsLarge (length (filter (leads us vs) es)) c.args.most)) all
    (c.within.ensures (filter (leads (take c.loop-place.place vs) vs) es) (c.loop-place.invariant.met d b log i known))
