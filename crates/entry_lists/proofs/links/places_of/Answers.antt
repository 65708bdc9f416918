use Rattle.std.proofs.Common.{sym, subst}
use Rattle.op_model.specs.Valid.{IsAscending}
use Rattle.base_rows.proofs.Passing.{take_whole}
use Rattle.entry_lists.proofs.Ascents.{ascends}
use Rattle.entry_lists.proofs.KeptFacts.{ArePut, all_put, kept_stands, none_put, put_next}
use Rattle.entry_lists.proofs.links.places_of.Goals as goal

pub loop-link-init : goal.loop-link-init
loop-link-init c = none_put c.args.kept.now c.args.links.now _ c.in_ok-list.ensures

pub put_place-requires-clause-ascending : goal.put_place-requires-clause-ascending
put_place-requires-clause-ascending c = subst IsAscending (sym c.requires.kept) (ascends _)

pub put_place-requires-clause-known : goal.put_place-requires-clause-known
put_place-requires-clause-known c = kept_stands c.args.kept.now c.args.links.now c.requires.kept c.loop-link.link-index c.link-item.result c.loop-link-test.true c.link-item.is

pub put_place-requires-clause-count : goal.put_place-requires-clause-count
put_place-requires-clause-count c = c.loop-link.invariant.count

pub loop-link-preserved : goal.loop-link-preserved
loop-link-preserved c = put_next c.args.kept.now c.args.links.now c.loop-link.link-index c.link-item.result _ _ c.requires.kept c.loop-link-test.true c.link-item.is c.put_place.ensures c.loop-link.invariant

pub returns : goal.returns
returns c = record {
  told = λ f a. all_put c.args.kept.now c.args.links.now _ c.requires.kept (subst (λ ls. ArePut c.args.kept.now c.args.links.now ls c.loop-link.list.items) (take_whole c.args.links.now c.loop-link.link-index c.loop-link-test.false) c.loop-link.invariant) f a;
}
