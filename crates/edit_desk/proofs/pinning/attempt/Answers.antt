use Rattle.std.proofs.Common.{refl, sym, subst}
use Rattle.shared_rows.specs.Known.{Known}
use Rattle.edit_desk.specs.Desk.{Stays}
use Rattle.edit_desk.proofs.Going.{stays-later, stays-on}
use Rattle.edit_desk.proofs.pinning.attempt.Goals as goal

pub returns-clause-stays : goal.returns-clause-stays
returns-clause-stays g c =
    let v = c.args.pass.now.view in
    let looked = stays-later v v c.look-seen.new.pass.view c.look-seen.ensures.later refl refl refl refl refl refl refl in
    stays-on v c.take_pinned-seen.new.pass.view c.settle.new.pass.view
    (stays-on v c.locks_at.new.pass.view c.take_pinned-seen.new.pass.view (subst (λ (k : Known). Stays v k.view) (sym c.locks_at.ensures.same) looked) c.take_pinned-seen.ensures.stays)
    c.settle.ensures.stays
