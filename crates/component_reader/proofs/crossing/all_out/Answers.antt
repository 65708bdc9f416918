use Rattle.std.proofs.Common.{◌≡◌, ◌+◌, ◌++◌, [], ◌∷◌, ℕ, List, take, refl, sym, ap, subst, ◌∙◌, arith, append-nil}
use Rattle.std.specs.List.{filter, flat_map}
use Rattle.std.proofs.lemmas.List.Concat.{flat_map-append}
use Rattle.op_model.specs.declared.base.Edge.{Edge}
use Rattle.op_model.specs.Labels.{edges}
use Rattle.op_model.specs.Transcript.{log_at}
use Rattle.record_rows.specs.Readings.{Image}
use Rattle.record_rows.specs.Walks.{edges_at}
use Rattle.component_reader.specs.Crossing.{goes_out}
use Rattle.component_reader.proofs.RootLeaves.{all_taken, at_zero, known_at, one_more}
use Rattle.component_reader.proofs.crossing.all_out.Goals as goal

pub loop-place-init : goal.loop-place-init
loop-place-init g c = record { same = refl; found = λ b log i known. c.new-list.ensures.items }

pub leaf_out-requires-clause-image : goal.leaf_out-requires-clause-image
leaf_out-requires-clause-image g c =
    let (b, log, i, known) = c.requires.image in
    let v = c.index-leaves-place.result in (
      b,
      log,
      subst (λ w. Image c.args.dataset.now b log (g.W.Words.words w)) (sym c.loop-place.invariant.same) i,
      known_at b c.args.leaves.now c.loop-place.place v known c.loop-place-test.true (at_zero c.args.leaves.now c.loop-place.place v c.loop-place-test.true c.index-leaves-place.is),
    )

pub loop-place-preserved : goal.loop-place-preserved
loop-place-preserved g c = record {
  same = c.in_ok-leaf_out.ensures.same ∙ c.loop-place.invariant.same;
  found = λ b log i known.
      let d = c.args.dataset.now in
      let vs = c.args.leaves.now in
      let k = c.loop-place.place in
      let v = c.index-leaves-place.result in
      let f : ℕ → List Edge = λ u. filter (goes_out d c.args.layer) (edges_at (edges d b (log_at d b log c.args.prefix)) u) in
      let at = at_zero vs k v c.loop-place-test.true c.index-leaves-place.is in
      let j = subst (λ w. Image d b log (g.W.Words.words w)) (sym c.loop-place.invariant.same) i in
      let more : flat_map f (take (k + 1) vs) ≡ flat_map f (take k vs) ++ f v =
      ap (flat_map f) (one_more vs k c.loop-place-test.true ∙ ap (λ u. take k vs ++ u ∷ []) (sym at)) ∙ (flat_map-append f (take k vs) (v ∷ []) ∙ ap (λ es. flat_map f (take k vs) ++ es) (append-nil (f v))) in
      c.in_ok-leaf_out.ensures.kept b log j (known_at b vs k v known c.loop-place-test.true at) ∙ (ap (λ es. es ++ f v) (c.loop-place.invariant.found b log i known) ∙ sym more);
}

pub returns-clause-is : goal.returns-clause-is
returns-clause-is g c b log i known =
    let d = c.args.dataset.now in
    let f : ℕ → List Edge = λ u. filter (goes_out d c.args.layer) (edges_at (edges d b (log_at d b log c.args.prefix)) u) in
    c.loop-place.invariant.found b log i known ∙ ap (flat_map f) (all_taken c.args.leaves.now c.loop-place.place (let t = c.loop-place-test.false in omega arith))
