use Rattle.std.proofs.Common.{◌<◌, None, map, length}
use Rattle.std.proofs.lemmas.List.{length-map}
use Rattle.flow_net.specs.Net.{wire_of}
use Rattle.flow_net.proofs.Searches.{wire_is}
use Rattle.min_cut.proofs.Ends.{leads_forth, leads_back, only_forth, only_back}
use Rattle.min_cut.proofs.breadth.arc_from.Goals as goal

pub returns-then-link-from-clause-leads : goal.returns-then-link-from-clause-leads
returns-then-link-from-clause-leads c _ =
    let below : c.args.k < length (map wire_of c.args.links.now) = rw length-map c.requires.at in
    leads_forth _ _ _ _ _ _ (wire_is c.args.links.now c.args.k (record { a = 0; b = 0; room = None }) c.requires.at) below
    c.if-link-from.true c.room_forth_at.ensures.can c.room_forth_at.ensures.some c.room_forth_at.ensures.bound

pub returns-then-link-from-clause-only : goal.returns-then-link-from-clause-only
returns-then-link-from-clause-only c =
    only_forth (map wire_of c.args.links.now) c.args.amounts.now c.args.k c.args.from c.room_forth_at.result _ (wire_is c.args.links.now c.args.k (record { a = 0; b = 0; room = None }) c.requires.at) c.if-link-from.true c.room_forth_at.ensures.some

pub returns-then-link-from-2-clause-leads : goal.returns-then-link-from-2-clause-leads
returns-then-link-from-2-clause-leads c _ =
    let below : c.args.k < length (map wire_of c.args.links.now) = rw length-map c.requires.at in
    leads_back _ _ _ _ _ _ (wire_is c.args.links.now c.args.k (record { a = 0; b = 0; room = None }) c.requires.at) below
    c.if-link-from-2.true c.room_back_at.ensures.can c.room_back_at.ensures.some c.room_back_at.ensures.bound

pub returns-then-link-from-2-clause-only : goal.returns-then-link-from-2-clause-only
returns-then-link-from-2-clause-only c =
    only_back (map wire_of c.args.links.now) c.args.amounts.now c.args.k c.args.from c.room_back_at.result _ (wire_is c.args.links.now c.args.k (record { a = 0; b = 0; room = None }) c.requires.at) c.if-link-from-2.true c.room_back_at.ensures.some
