use Rattle.std.proofs.Common.{◌≡◌, ◌∙◌, Some, sym, ap, subst, refl}
use Rattle.std.specs.Option.{IsSome}
use Rattle.std.proofs.lemmas.Option.{same_Some}
use Rattle.record_rows.specs.Chains.{has_id}
use Rattle.record_rows.specs.LogRows.{rows_of}
use Rattle.record_rows.specs.Readings.{HoldsNode, ParentImage, first_place}
use Rattle.record_rows.proofs.ImageFacts.{parent_image}
use Rattle.edit_split.proofs.Located.{root_stands}
use Rattle.bench_servers.proofs.objects.root_spot.Goals as goal

pub root_now-root-requires : goal.root_now-root-requires
root_now-root-requires c =
    let k = c.requires.known in
    record { known = (c.args.dataset.now, k.b, k.log, parent_image _ _ _ _ k.image, k.known) }

pub find-requires : goal.find-requires
find-requires c =
    let k = c.requires.known in
    let i : ParentImage c.args.dataset.now k.b k.log c.args.w.now.words = parent_image _ _ _ _ k.image in
    record { image = (c.args.dataset.now, k.b, k.log, subst (λ w. ParentImage c.args.dataset.now k.b k.log w.words) (sym c.root_now-root.ensures.same) i) }

pub unwrap-requires : goal.unwrap-requires
unwrap-requires c =
    let k = c.requires.known in
    let d = c.args.dataset.now in
    let i : ParentImage d k.b k.log c.args.w.now.words = parent_image _ _ _ _ k.image in
    let j : ParentImage d k.b k.log c.root_now-root.new.w.words = subst (λ w. ParentImage d k.b k.log w.words) (sym c.root_now-root.ensures.same) i in
    let s = root_stands d k.b k.log _ i c.args.sv k.known in
    let found : c.find.result ≡ Some s.0 = c.find.ensures.found d k.b k.log j ∙ (ap (λ x. first_place (has_id x) (rows_of d k.b k.log)) (c.root_now-root.ensures.is d k.b k.log i k.known) ∙ s.2) in
    subst IsSome (sym found) refl

pub returns-clause-node : goal.returns-clause-node
returns-clause-node c =
    let k = c.requires.known in
    let d = c.args.dataset.now in
    let i : ParentImage d k.b k.log c.args.w.now.words = parent_image _ _ _ _ k.image in
    let j : ParentImage d k.b k.log c.root_now-root.new.w.words = subst (λ w. ParentImage d k.b k.log w.words) (sym c.root_now-root.ensures.same) i in
    let s = root_stands d k.b k.log _ i c.args.sv k.known in
    let found : c.find.result ≡ Some s.0 = c.find.ensures.found d k.b k.log j ∙ (ap (λ x. first_place (has_id x) (rows_of d k.b k.log)) (c.root_now-root.ensures.is d k.b k.log i k.known) ∙ s.2) in
    record { b = k.b; log = k.log; node = s.1; image = k.image; holds = subst (λ p. HoldsNode d k.b k.log p s.1) (same_Some _ _ (sym found ∙ c.unwrap.ensures)) s.3 }
