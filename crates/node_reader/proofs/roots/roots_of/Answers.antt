use Rattle.std.proofs.Common.{◌≡◌, ◌-◌, ◌<◌, ◌∙◌, ℕ, length, get_or, List, map, refl, sym, ap, subst, arith}
use Rattle.op_model.specs.declared.entry.Changed.{Changed}
use Rattle.op_model.specs.Labels.{root}
use Rattle.op_model.specs.Operations.{ascending, put_id}
use Rattle.op_model.specs.Transcript.{log_at}
use Rattle.node_reader.specs.Readable.{IsReadable}
use Rattle.node_reader.proofs.EndLists.{none_left, one_left, known_at}
use Rattle.node_reader.proofs.roots.roots_of.Goals as goal

pub loop-done-init : goal.loop-done-init
loop-done-init g c = record {
  same = refl;
  shown = λ d b log r k. c.new-list.ensures.items ∙ none_left (root d b (log_at d b log c.args.prefix)) c.args.changed.now;
}

pub add_ends-requires : goal.add_ends-requires
add_ends-requires g c =
    let r = c.requires.readable in
    let i = c.loop-done.invariant in
    let cs : List Changed = c.args.changed.now in
    let x : Changed = c.index-pairs-last.result in
    let same : c.as_slice-pairs.result.now ≡ cs = c.as_slice-pairs.ensures.value ∙ c.changed.view_is in
    let low : c.loop-done.done < length cs = subst (λ xs. c.loop-done.done < length xs) same c.loop-done-test.true in
    let at : get_or cs (length cs - c.loop-done.done - 1) x ≡ x = subst (λ xs. get_or xs (length xs - c.loop-done.done - 1) x ≡ x) same (sym c.index-pairs-last.is) in
    record {
      readable = (
        r.0,
        r.1,
        r.2,
        subst (λ w. IsReadable r.0 r.1 r.2 (g.W.Words.words w) c.args.prefix) (sym i.same) r.3,
        known_at r.1 cs (length cs - c.loop-done.done - 1) x r.4 (omega arith) at,
      );
    }

pub loop-done-preserved : goal.loop-done-preserved
unfolding ascending
loop-done-preserved g c =
    let i = c.loop-done.invariant in
    let cs : List Changed = c.args.changed.now in
    let x : Changed = c.index-pairs-last.result in
    let same : c.as_slice-pairs.result.now ≡ cs = c.as_slice-pairs.ensures.value ∙ c.changed.view_is in
    let low : c.loop-done.done < length cs = subst (λ xs. c.loop-done.done < length xs) same c.loop-done-test.true in
    let at : get_or cs (length cs - c.loop-done.done - 1) x ≡ x = subst (λ xs. get_or xs (length xs - c.loop-done.done - 1) x ≡ x) same (sym c.index-pairs-last.is) in
    record {
      same = c.add_ends.ensures.same ∙ i.same;
      shown = λ d b log r k.
          let f : ℕ → ℕ = root d b (log_at d b log c.args.prefix) in
          let more = one_left cs c.loop-done.done x low at in
          c.in_ok-add_ends.ensures.is d b log (subst (λ w. IsReadable d b log (g.W.Words.words w) c.args.prefix) (sym i.same) r) (known_at b cs (length cs - c.loop-done.done - 1) x k (omega arith) at)
          ∙ (ap (λ xs. put_id (f c.index-pairs-last.result.pair.a) (put_id (f c.index-pairs-last.result.pair.b) xs)) (i.shown d b log r k)
          ∙ ap (λ es. ascending (map f es)) (sym more));
    }
