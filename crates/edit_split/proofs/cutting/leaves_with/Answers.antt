use Rattle.std.proofs.Common.{◌≡◌, ◌∙◌, Some, sym, ap, subst, refl}
use Rattle.std.specs.Option.{IsSome}
use Rattle.std.proofs.lemmas.Option.{same_Some}
use Rattle.record_rows.specs.Chains.{has_id}
use Rattle.record_rows.specs.LogRows.{rows_of}
use Rattle.record_rows.specs.Readings.{HoldsNode, first_place}
use Rattle.parent_rows.proofs.ChainWalks.{image_kept}
use Rattle.edit_split.proofs.Gathered.{leaves_told}
use Rattle.edit_split.proofs.Located.{root_stands}
use Rattle.edit_split.proofs.cutting.leaves_with.Goals as goal

pub unwrap-spot-requires : goal.unwrap-spot-requires
unwrap-spot-requires g c =
    let (d, b, log, i, k) = c.requires.known in
    let j = image_kept g.W.Words.words d b log c.root_now-root.ensures.same i in
    let s = root_stands d b log _ j c.args.sv k in
    let found : c.find.result ≡ Some s.0 = c.find.ensures.found d b log j ∙ (ap (λ x. first_place (has_id x) (rows_of d b log)) (c.root_now-root.ensures.is d b log i k) ∙ s.2) in
    subst IsSome (sym found) refl

pub leaves-requires : goal.leaves-requires
leaves-requires g c =
    let (d, b, log, i, k) = c.requires.known in
    let j = image_kept g.W.Words.words d b log c.root_now-root.ensures.same i in
    let s = root_stands d b log _ j c.args.sv k in
    let found : c.find.result ≡ Some s.0 = c.find.ensures.found d b log j ∙ (ap (λ x. first_place (has_id x) (rows_of d b log)) (c.root_now-root.ensures.is d b log i k) ∙ s.2) in
    record { node = (d, b, log, s.1, image_kept g.W.Words.words d b log c.find.ensures.same j, subst (λ p. HoldsNode d b log p s.1) (same_Some _ _ (sym found ∙ c.unwrap-spot.ensures)) s.3) }

pub returns-clause-is : goal.returns-clause-is
returns-clause-is g c d b log i k =
    let j = image_kept g.W.Words.words d b log c.root_now-root.ensures.same i in
    let s = root_stands d b log _ j c.args.sv k in
    let found : c.find.result ≡ Some s.0 = c.find.ensures.found d b log j ∙ (ap (λ x. first_place (has_id x) (rows_of d b log)) (c.root_now-root.ensures.is d b log i k) ∙ s.2) in
    let holds : HoldsNode d b log c.unwrap-spot.result s.1 = subst (λ p. HoldsNode d b log p s.1) (same_Some _ _ (sym found ∙ c.unwrap-spot.ensures)) s.3 in
    leaves_told d b log c.args.sv c.unwrap-spot.result s.1 c.leaves.result holds s.4 (c.leaves.ensures.is d b log s.1 (image_kept g.W.Words.words d b log c.find.ensures.same j) holds)
