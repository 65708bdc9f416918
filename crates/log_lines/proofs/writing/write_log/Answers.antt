use Rattle.std.proofs.Common.{◌/◌, ◌<◌, length, refl, sym, ◌∙◌, ap, subst, arith}
use Rattle.record_rows.specs.Readings.{Image, ParentImage}
use Rattle.record_rows.proofs.ImageFacts.{parent_image}
use Rattle.record_rows.proofs.WalkLemmas.{steps_left}
use Rattle.log_rows.specs.Entries.{AtEntry, InEntry}
use Rattle.log_rows.proofs.TimePlaces.{some_entry}
use Rattle.log_lines.proofs.Walk.{Written, begun, ended, entry_now, front_on, in_entry, nearer, records_counted, roots_few, roots_left, stands_now, written_on}
use Rattle.log_lines.proofs.writing.write_log.Goals as goal

pub entry_spot-first-requires : goal.entry_spot-first-requires
entry_spot-first-requires g c = let r = c.requires.image in record { entry = (r.0, r.1, r.2, parent_image r.0 r.1 r.2 _ r.3, some_entry r.0 r.1 r.2 r.3.legal) }

pub loop-next-init : goal.loop-next-init
loop-next-init g c = record {
  same = c.entry_spot-first.ensures.same;
  still = refl;
  written = λ d b log i. begun d b log _ i c.entry_spot-first.result _ (λ e at. c.entry_spot-first.ensures.is d b log e (parent_image d b log _ i) at);
}

pub write_at-requires : goal.write_at-requires
write_at-requires g c =
    let (d, b, log, i) = c.requires.image in
    let spot = c.in-Some.spot in
    let now = subst (λ n. Written d b log n c.loop-next.roots (g.K.Sink.state c.args.out.now).held (g.K.Sink.state c.loop-next.out).held) c.in-Some.is (c.loop-next.invariant.written d b log i) in
    record { entry = subst (λ w. InEntry (g.W.Words.words w) spot) (sym c.loop-next.invariant.same) (in_entry d b log _ i spot _ _ _ now) }

pub returns-in-Err-clause-front : goal.returns-in-Err-clause-front
returns-in-Err-clause-front g c = λ d b log i.
    let spot = c.in-Some.spot in
    let now = subst (λ n. Written d b log n c.loop-next.roots (g.K.Sink.state c.args.out.now).held (g.K.Sink.state c.loop-next.out).held) c.in-Some.is (c.loop-next.invariant.written d b log i) in
    let j = subst (λ w. Image d b log (g.W.Words.words w)) (sym c.loop-next.invariant.same) i in
    front_on d b log _ i spot _ _ _ now _ (c.in-Err.ensures.front d b log (entry_now d b log _ i spot _ _ _ now) j (stands_now d b log _ i spot _ _ _ now))

pub overflow_add-roots : goal.overflow_add-roots
overflow_add-roots g c =
    let (d, b, log, i) = c.requires.image in
    let spot = c.in-Some.spot in
    let now = subst (λ n. Written d b log n c.loop-next.roots (g.K.Sink.state c.args.out.now).held (g.K.Sink.state c.loop-next.out).held) c.in-Some.is (c.loop-next.invariant.written d b log i) in
    let j = subst (λ w. Image d b log (g.W.Words.words w)) (sym c.loop-next.invariant.same) i in
    let told = c.in-Ok.ensures.ok d b log (entry_now d b log _ i spot _ _ _ now) j (stands_now d b log _ i spot _ _ _ now) in
    let few = roots_few d b log _ i spot _ _ _ now c.in-Ok.change told.1 in
    omega (arith, few)

pub overflow_sub-roots : goal.overflow_sub-roots
overflow_sub-roots g c =
    let (d, b, log, i) = c.requires.image in
    let spot = c.in-Some.spot in
    let now = subst (λ n. Written d b log n c.loop-next.roots (g.K.Sink.state c.args.out.now).held (g.K.Sink.state c.loop-next.out).held) c.in-Some.is (c.loop-next.invariant.written d b log i) in
    let j = subst (λ w. Image d b log (g.W.Words.words w)) (sym c.loop-next.invariant.same) i in
    let told = c.in-Ok.ensures.ok d b log (entry_now d b log _ i spot _ _ _ now) j (stands_now d b log _ i spot _ _ _ now) in
    roots_left d b log _ i spot _ _ _ now c.live_roots_are_counted.ensures c.in-Ok.change told.1

pub next_entry-next-requires : goal.next_entry-next-requires
next_entry-next-requires g c =
    let (d, b, log, i) = c.requires.image in
    let spot = c.in-Some.spot in
    let now = subst (λ n. Written d b log n c.loop-next.roots (g.K.Sink.state c.args.out.now).held (g.K.Sink.state c.loop-next.out).held) c.in-Some.is (c.loop-next.invariant.written d b log i) in
    let same = c.in-Ok.ensures.same ∙ c.loop-next.invariant.same in
    let there : AtEntry (g.W.Words.words c.args.w.now) spot =
    record { dataset = d; base = b; log = log; entry = entry_now d b log _ i spot _ _ _ now; image = parent_image d b log _ i; stands = stands_now d b log _ i spot _ _ _ now } in
    record { entry = subst (λ w. AtEntry (g.W.Words.words w) spot) (sym same) there }

pub loop-next-smaller : goal.loop-next-smaller
loop-next-smaller g c =
    let (d, b, log, i) = c.requires.image in
    let spot = c.in-Some.spot in
    let now = subst (λ n. Written d b log n c.loop-next.roots (g.K.Sink.state c.args.out.now).held (g.K.Sink.state c.loop-next.out).held) c.in-Some.is (c.loop-next.invariant.written d b log i) in
    let same = c.in-Ok.ensures.same ∙ c.loop-next.invariant.same in
    let k = subst (λ w. ParentImage d b log (g.W.Words.words w)) (sym same) (parent_image d b log _ i) in
    let is = c.next_entry-next.ensures.is d b log (entry_now d b log _ i spot _ _ _ now) k (stands_now d b log _ i spot _ _ _ now) in
    let n = length (g.W.Words.words c.args.w.now) in
    subst (λ o. steps_left n c.next_entry-next.result < steps_left n o) (sym c.in-Some.is) (nearer d b log _ i spot _ _ _ now c.next_entry-next.result is)

pub loop-next-preserved : goal.loop-next-preserved
loop-next-preserved g c = record {
  same = c.next_entry-next.ensures.same ∙ (c.in-Ok.ensures.same ∙ c.loop-next.invariant.same);
  still = c.in-Ok.ensures.still ∙ c.loop-next.invariant.still;
  written = λ d b log i.
      let spot = c.in-Some.spot in
      let now = subst (λ n. Written d b log n c.loop-next.roots (g.K.Sink.state c.args.out.now).held (g.K.Sink.state c.loop-next.out).held) c.in-Some.is (c.loop-next.invariant.written d b log i) in
      let j = subst (λ w. Image d b log (g.W.Words.words w)) (sym c.loop-next.invariant.same) i in
      let told = c.in-Ok.ensures.ok d b log (entry_now d b log _ i spot _ _ _ now) j (stands_now d b log _ i spot _ _ _ now) in
      let same = c.in-Ok.ensures.same ∙ c.loop-next.invariant.same in
      let k = subst (λ w. ParentImage d b log (g.W.Words.words w)) (sym same) (parent_image d b log _ i) in
      let is = c.next_entry-next.ensures.is d b log (entry_now d b log _ i spot _ _ _ now) k (stands_now d b log _ i spot _ _ _ now) in
      written_on d b log _ i spot _ _ _ now c.live_roots_are_counted.ensures c.in-Ok.change told.1 c.next_entry-next.result _ is told.0;
}

pub length-requires : goal.length-requires
length-requires g c =
    let (d, b, log, i) = c.requires.image in
    record { image = (d, b, log, subst (λ w. ParentImage d b log (g.W.Words.words w)) (sym c.loop-next.invariant.same) (parent_image d b log _ i)) }

pub returns-clause-ok : goal.returns-clause-ok
returns-clause-ok g c = λ d b log i.
    let end = subst (λ n. Written d b log n c.loop-next.roots (g.K.Sink.state c.args.out.now).held (g.K.Sink.state c.loop-next.out).held) c.in_default.is (c.loop-next.invariant.written d b log i) in
    let all = ended d b log _ i _ _ _ end in
    let k = subst (λ w. ParentImage d b log (g.W.Words.words w)) (sym c.loop-next.invariant.same) (parent_image d b log _ i) in
    let same = c.length.ensures.same ∙ c.loop-next.invariant.same in (
      all.0,
      record {
        entries = c.length.ensures.is d b log k;
        records = ap (λ n. n / 8) (c.len.ensures ∙ ap (λ w. length (g.W.Words.words w)) same) ∙ records_counted d b log _ i;
        roots = all.1;
      },
    )
