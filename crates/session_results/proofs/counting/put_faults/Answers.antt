use Rattle.std.proofs.Common.{◌∙◌, ◌<◌, get_or, length, sym, subst}
use Rattle.std.proofs.lemmas.Option.{slice_get-get_or}
use Rattle.pcg_base.specs.declared.reading.StreamEnd.TheVariants as ends
use Rattle.session_results.proofs.FaultFacts.{count_more, fault_more, faults_all}
use Rattle.session_results.proofs.counting.put_faults.Goals as goal

pub loop-k-preserved : goal.loop-k-preserved
loop-k-preserved g c =
    let i = c.loop-k.invariant in
    let answers = c.args.answers.now in
    let streams = c.args.ends.now in
    let k = c.loop-k.k in
    let within : k < length streams = subst (λ n. k < n) (sym c.requires.each) c.loop-k-test.true in (
      fault_more k answers streams (get_or answers k c.index-answers-k.result) (get_or streams k ends.Whole) c.loop-k.faults.items c.put_fault.new.faults.items _
          (slice_get-get_or answers k c.index-answers-k.result c.loop-k-test.true) (slice_get-get_or streams k ends.Whole within) i.0 c.put_fault.ensures.items,
      count_more k _ _ c.loop-k.faults.items c.put_fault.new.faults.items i.1 c.put_fault.ensures.items,
      c.put_fault.ensures.room ∙ i.2,
    )

pub returns : goal.returns
returns g c = faults_all c.loop-k.k c.args.answers.now c.args.ends.now c.loop-k.faults.items _ c.loop-k-test.false c.loop-k.invariant.0
