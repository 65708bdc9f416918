use Rattle.std.proofs.Common.{◌≡◌, ℕ, List, Some, sym, subst}
use Rattle.std.specs.Prelude.{slice_get}
use Rattle.client_events.specs.declared.clients.Client.{Client}
use Rattle.core_steps.specs.Places.{CoreIs}
use Rattle.core_steps.specs.Ways.{NextBelow}
use Rattle.core_steps.proofs.SteppingLemmas.{next_below}
use Rattle.core_steps.proofs.CoreLemmas.{placed}
use Rattle.core_steps.proofs.RunLemmas.{found_open}
use Rattle.core_steps.proofs.cores.Core.first_open.Goals as goal

pub first_way-requires-clause-next : goal.first_way-requires-clause-next
first_way-requires-clause-next g c =
    let x = c.requires.sound in
    subst (λ (cs : List Client). (k : ℕ) (me : Client) → slice_get cs k ≡ Some me → NextBelow me.phase) (sym c.as_slice.ensures.value)
    (λ k me q. next_below (placed g.R.Rows.asked g.R.Rows.stands g.R.Rows.drafts x.0 x.1 c.args.self.now.rows c.args.self.now.table c.args.self.now.clients.items x.2 k me x.3 x.4 q))

pub returns-clause-is : goal.returns-clause-is
returns-clause-is g c = λ d b w good o.
    found_open g.R.Rows.asked g.R.Rows.stands g.R.Rows.drafts d b c.args.self.now.rows c.args.self.now.table c.as_slice.result.now w good
    (subst (λ (cs : List Client). CoreIs g.R.Rows.asked (g.R.Rows.stands c.args.self.now.rows) (g.R.Rows.drafts c.args.self.now.rows) d b c.args.self.now.table cs w) (sym c.as_slice.ensures.value) o)
    c.first_way.result c.first_way.ensures.some c.first_way.ensures.none
