use Rattle.std.proofs.Common.{◌∙◌, sym, subst, refl}
use Rattle.std.specs.Option.{IsSome}
use Rattle.std.proofs.lemmas.Option.{same_Some}
use Rattle.record_rows.specs.Readings.{HoldsId}
use Rattle.made_links.proofs.Climb.{found_at}
use Rattle.made_links.proofs.climbing.lowest.Goals as goal

pub unwrap-requires : goal.unwrap-requires
unwrap-requires g c =
    let r = c.requires.known in
    let f = found_at r.0 r.1 r.2 _ r.3 c.args.sv r.4 in
    subst IsSome (sym (c.find.ensures.found r.0 r.1 r.2 r.3 ∙ f.1)) refl

pub returns-clause-is : goal.returns-clause-is
returns-clause-is g c d b log image known =
    let f = found_at d b log _ image c.args.sv known in
    let e = same_Some _ _ (sym c.unwrap.ensures ∙ (c.find.ensures.found d b log image ∙ f.1)) in
    subst (λ p. HoldsId d b log p c.args.sv) (sym e) f.2

pub returns-clause-first : goal.returns-clause-first
returns-clause-first g c d b log image known =
    let f = found_at d b log _ image c.args.sv known in
    let e = same_Some _ _ (sym c.unwrap.ensures ∙ (c.find.ensures.found d b log image ∙ f.1)) in
    f.3 ∙ sym e
