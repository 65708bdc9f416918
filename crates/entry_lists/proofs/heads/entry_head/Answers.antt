use Rattle.std.proofs.Common.{◌∙◌, sym, ap, arith}
use Rattle.record_rows.specs.Words.{kind_code, names}
use Rattle.record_rows.proofs.ImageFacts.{parent_image}
use Rattle.edge_rows.proofs.ChainFacts.{image_kept}
use Rattle.entry_lists.proofs.HeadFacts.{names_low}
use Rattle.entry_lists.proofs.heads.entry_head.Goals as goal

pub overflow_cast-names : goal.overflow_cast-names
overflow_cast-names g c =
    let r = c.requires.plan in
    let l = names_low r.0 r.1 r.2 _ r.3 c.args.edit.now r.4 in
    let e = c.named_by-names.ensures in
    omega (arith, l, e)

pub length-number-requires : goal.length-number-requires
length-number-requires g c = let r = c.requires.plan in record { image = (r.0, r.1, r.2, parent_image r.0 r.1 r.2 _ r.3) }

pub last_place-before-requires : goal.last_place-before-requires
last_place-before-requires g c = let r = c.requires.plan in record { image = (r.0, r.1, r.2, image_kept g.W.Words.words r.0 r.1 r.2 c.length-number.ensures.same r.3) }

pub returns-clause-head : goal.returns-clause-head
returns-clause-head g c = λ d b log e i a n x y z. record {
  kind_is = ap kind_code a ∙ sym c.kind_of-kind.ensures;
  names_are = ap names a ∙ sym c.named_by-names.ensures;
  at_is = z;
  client_is = x;
  line_is = y;
  number_is = n ∙ sym (c.length-number.ensures.is d b log (parent_image d b log _ i));
}

pub returns-clause-before : goal.returns-clause-before
returns-clause-before g c = λ d b log i. c.last_place-before.ensures.is d b log (image_kept g.W.Words.words d b log c.length-number.ensures.same i)
