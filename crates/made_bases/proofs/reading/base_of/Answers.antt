use Rattle.std.proofs.Common.{◌∙◌}
use Rattle.made_bases.proofs.Answered.{read_so, tables_of}
use Rattle.made_bases.proofs.reading.base_of.Goals as goal

pub returns-clause-ok : goal.returns-clause-ok
returns-clause-ok c =
    let w = c.args.wish.now in
    let texts = tables_of w c.args.made.now c.requires.made in
    (read_so c.args.dataset.now w c.requires.fits c.requires.layout c.requires.grid c.as_slice.result.now c.as_slice-2.result.now (c.as_slice.ensures.value ∙ texts.0) (c.as_slice-2.ensures.value ∙ texts.1)
    c.read_base.result c.read_base.ensures.answers).0

pub returns-clause-err : goal.returns-clause-err
returns-clause-err c =
    let w = c.args.wish.now in
    let texts = tables_of w c.args.made.now c.requires.made in
    (read_so c.args.dataset.now w c.requires.fits c.requires.layout c.requires.grid c.as_slice.result.now c.as_slice-2.result.now (c.as_slice.ensures.value ∙ texts.0) (c.as_slice-2.ensures.value ∙ texts.1)
    c.read_base.result c.read_base.ensures.answers).1
