use Rattle.std.proofs.Common.{◌∙◌, ap, sym, subst}
use Rattle.graph_model.specs.Lists.{has}
use Rattle.op_model.specs.Valid.{IsAscending}
use Rattle.change_reader.proofs.Waiting.{put_ascends, put_has, waits_more, waits_put}
use Rattle.change_reader.proofs.steps.add_root.Goals as goal

pub maker-made-requires : goal.maker-made-requires
maker-made-requires g c = let r = c.requires.made in record { root = (r.0, r.1, r.2, r.3, r.4.root) }

pub returns-clause-order : goal.returns-clause-order
returns-clause-order g c = subst IsAscending (sym c.in_ok-put.ensures) (put_ascends c.args.root c.args.roots.now.items c.requires.order)

pub returns-clause-roots : goal.returns-clause-roots
returns-clause-roots g c r = ap (λ xs. has xs r) c.in_ok-put.ensures ∙ put_has c.args.root c.args.roots.now.items c.requires.order r

pub returns-clause-waits : goal.returns-clause-waits
returns-clause-waits g c d b log n u w =
    waits_put log n c.in_ok-put.ensures c.in_ok-put_number.ensures
    (waits_more d b log _ c.args.root n u c.maker-made.result (c.maker-made.ensures.is d b log n u.root) c.args.roots.now.items c.args.waiting.now.items c.requires.order w)
