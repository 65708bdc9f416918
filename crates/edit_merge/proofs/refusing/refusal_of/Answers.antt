use Rattle.std.proofs.Common.{◌≡◌, ◌∙◌, Some, None, sym, ap, rules}
use Rattle.parent_rows.proofs.ChainWalks.{image_kept}
use Rattle.op_model.specs.declared.reply.Refusal.TheVariants.{SameRoot}
use Rattle.op_model.specs.Edges.{named_ends}
use Rattle.edit_merge.proofs.Merging.{all_known, joined_known, refused_unknown, refused_empty, refused_many, refused_joined, unrefused}
use Rattle.edit_merge.proofs.refusing.refusal_of.Goals as goal

pub returns-in-Some-clause-is : goal.returns-in-Some-clause-is
returns-in-Some-clause-is g c d b log i = refused_unknown d b log c.args.pairs.now c.in-Some.id (sym (c.unknown_end.ensures.is d b log i) ∙ c.in-Some.is)

pub returns-then-pairs-eq0-clause-is : goal.returns-then-pairs-eq0-clause-is
returns-then-pairs-eq0-clause-is g c d b log i = refused_empty d b log c.args.pairs.now (sym (c.unknown_end.ensures.is d b log i) ∙ c.in_default.is) c.if-pairs-eq0.true

pub returns-then-pairs-gt64-clause-is : goal.returns-then-pairs-gt64-clause-is
returns-then-pairs-gt64-clause-is g c d b log i = refused_many d b log c.args.pairs.now (sym (c.unknown_end.ensures.is d b log i) ∙ c.in_default.is) c.if-pairs-eq0.false c.if-pairs-gt64.true

pub joined_pair-requires : goal.joined_pair-requires
joined_pair-requires g c =
    let r = c.requires.image in
    record { known = (r.0, r.1, r.2, image_kept g.W.Words.words r.0 r.1 r.2 c.unknown_end.ensures.same r.3, all_known r.1 (named_ends c.args.pairs.now) (sym (c.unknown_end.ensures.is r.0 r.1 r.2 r.3) ∙ c.in_default.is)) }

pub returns-in_err-pair-clause-is : goal.returns-in_err-pair-clause-is
returns-in_err-pair-clause-is g c d b log i =
    let none : c.from_residual.result ≡ None = search rules in
    let lacks : c.joined_pair.result ≡ None = search rules in
    let u = sym (c.unknown_end.ensures.is d b log i) ∙ c.in_default.is in
    let j = c.joined_pair.ensures.is d b log (image_kept g.W.Words.words d b log c.unknown_end.ensures.same i) (all_known b (named_ends c.args.pairs.now) u) in
    none ∙ unrefused d b log c.args.pairs.now u c.if-pairs-eq0.false c.if-pairs-gt64.false (sym j ∙ lacks)

pub root_now-root-requires : goal.root_now-root-requires
root_now-root-requires g c =
    let r = c.requires.image in
    let i = image_kept g.W.Words.words r.0 r.1 r.2 c.unknown_end.ensures.same r.3 in
    let u = sym (c.unknown_end.ensures.is r.0 r.1 r.2 r.3) ∙ c.in_default.is in
    let a = all_known r.1 (named_ends c.args.pairs.now) u in
    let has : c.joined_pair.result ≡ Some c.in_ok-pair.pair = search rules in
    record {
      known = (
        r.0,
        r.1,
        r.2,
        image_kept g.W.Words.words r.0 r.1 r.2 c.joined_pair.ensures.same i,
        joined_known r.0 r.1 r.2 c.args.pairs.now c.in_ok-pair.pair a (sym (c.joined_pair.ensures.is r.0 r.1 r.2 i a) ∙ has),
      );
    }

pub returns-clause-is : goal.returns-clause-is
returns-clause-is g c d b log image =
    let i = image_kept g.W.Words.words d b log c.unknown_end.ensures.same image in
    let u = sym (c.unknown_end.ensures.is d b log image) ∙ c.in_default.is in
    let a = all_known b (named_ends c.args.pairs.now) u in
    let has : c.joined_pair.result ≡ Some c.in_ok-pair.pair = search rules in
    let j = sym (c.joined_pair.ensures.is d b log i a) ∙ has in
    ap (λ r. Some (SameRoot r)) (c.root_now-root.ensures.is d b log (image_kept g.W.Words.words d b log c.joined_pair.ensures.same i) (joined_known d b log c.args.pairs.now c.in_ok-pair.pair a j))
    ∙ refused_joined d b log c.args.pairs.now c.in_ok-pair.pair u c.if-pairs-eq0.false c.if-pairs-gt64.false j
