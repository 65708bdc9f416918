use Rattle.std.proofs.Common.{◌≡◌, ◌+◌, [], ◌∷◌, ◌++◌, take, true, false, cond, sym, ap, subst, ◌∙◌, arith, append-nil, append_assoc}
use Rattle.std.specs.List.{filter}
use Rattle.component_reader.specs.Taking.{AreMet, starts}
use Rattle.component_reader.proofs.Kept.{filter_more}
use Rattle.component_reader.proofs.taking.meet_own.Goals as goal
use Rattle.component_reader.proofs.taking.meet_own.Goals.{then-starts+in_ok-meet, else-starts}

pub loop-edge-preserved : goal.loop-edge-preserved
loop-edge-preserved c =
    let most = c.args.most in
    let test = starts c.args.to.now c.args.sv in
    let own = c.args.own.now in
    let k = c.loop-edge.edge-index in
    let x = c.edge-item.result in
    let more = filter_more test own k x c.loop-edge-test.true c.edge-item.is in
    let front = filter test (take k own) in
    let few = c.loop-edge.invariant.few in
    elim c.if-starts.branch [
      | then-starts+in_ok-meet w ↦
          let yes : test x ≡ true = sym c.starts.ensures ∙ w.if-starts.true in
          let taken : filter test (take (k + 1) own) ≡ front ++ x ∷ [] = more ∙ ap (λ t. front ++ cond t (x ∷ []) []) yes in
          let one : w.meet.new.met.count ≡ c.loop-edge.met.count + 1 = w.in_ok-meet.ensures.count in
          let now : c.if-starts.met.count ≡ w.meet.new.met.count = ap (λ m. m.count) w.met-is in
          record {
            few = omega (arith, few, one, now);
            met = λ edges m.
                subst (λ e. AreMet most (edges ++ filter test (take (k + 1) own)) e) (sym w.met-is)
                (subst (λ es. AreMet most es w.meet.new.met) (append_assoc edges front (x ∷ []) ∙ ap (λ es. edges ++ es) (sym taken))
                (w.in_ok-meet.ensures.met (edges ++ front) (c.loop-edge.invariant.met edges m)));
          }
      | else-starts w ↦
          let no : test x ≡ false = sym c.starts.ensures ∙ w.if-starts.false in
          let taken : filter test (take (k + 1) own) ≡ front = more ∙ (ap (λ t. front ++ cond t (x ∷ []) []) no ∙ append-nil front) in
          let now : c.if-starts.met.count ≡ c.loop-edge.met.count = ap (λ m. m.count) w.met-is in
          record {
            few = omega (arith, few, now);
            met = λ edges m.
                subst (λ e. AreMet most (edges ++ filter test (take (k + 1) own)) e) (sym w.met-is)
                (subst (λ es. AreMet most (edges ++ es) c.loop-edge.met) (sym taken) (c.loop-edge.invariant.met edges m));
          }
    ]
