use Rattle.std.proofs.Common.{◌≡◌, ◌*◌, ◌%◌, ◌^◌, get_or, sym, subst, ◌∙◌}
use Rattle.record_rows.specs.Readings.{ParentImage}
use Rattle.row_tests.specs.Logs.{HasUntold, IsUntold}
use Rattle.row_tests.proofs.Emptied.{edge_untold, row_at}
use Rattle.row_tests.proofs.emptying.empty.Goals as goal

pub clear-requires : goal.clear-requires
clear-requires c =
    let t = c.requires.tells in
    let r = row_at t.d t.b t.log c.args.w.now.words t.image c.args.place c.requires.within in
    let k : get_or c.args.w.now.words (8 * c.args.place) 0 % 2 ^ 8 ≡ 6 = sym c.kind_of.ensures.is ∙ c.if-kind_of-ne-EDGE.false in
    record { untold = subst (λ v. HasUntold v.words c.args.place) (sym c.kind_of.ensures.same) (record { d = t.d; b = t.b; log = t.log; row = r.0; image = t.image; stands = r.1; untold = edge_untold t.d t.b t.log c.args.w.now.words t.image c.args.place r.0 r.1 k }) }

pub returns-clause-tells : goal.returns-clause-tells
returns-clause-tells c =
    let t = c.requires.tells in
    let r = row_at t.d t.b t.log c.args.w.now.words t.image c.args.place c.requires.within in
    let k : get_or c.args.w.now.words (8 * c.args.place) 0 % 2 ^ 8 ≡ 6 = sym c.kind_of.ensures.is ∙ c.if-kind_of-ne-EDGE.false in
    let u : IsUntold r.0 = edge_untold t.d t.b t.log c.args.w.now.words t.image c.args.place r.0 r.1 k in
    let i : ParentImage t.d t.b t.log c.kind_of.new.w.words = subst (λ v. ParentImage t.d t.b t.log v.words) (sym c.kind_of.ensures.same) t.image in
    record { d = t.d; b = t.b; log = t.log; image = c.clear.ensures.keeps t.d t.b t.log r.0 i r.1 u }
