use Rattle.std.proofs.Common.{arith, ◌++◌, length, map, sym, ap, subst}
use Rattle.std.specs.Prelude.{IfOk}
use Rattle.base_rows.specs.Lists.{IsOnce}
use Rattle.op_model.specs.Ingest.{ingested}
use Rattle.record_rows.specs.Readings.{Image}
use Rattle.hierarchy_build.proofs.WholeRows.{lists_chunks, lists_count, lists_once, words_image}
use Rattle.hierarchy_build.proofs.building.words_of.Goals as goal

pub base_words-requires-clause-fits : goal.base_words-requires-clause-fits
base_words-requires-clause-fits c =
    let (b, same, k) = c.requires.listed in
    let n = lists_count c.args.dataset.now b k.layers c.args.at k.built k.fit c.args.lists k.lists c.requires.at in
    let f = k.fits c.args.at in
    let m = ap length same in
    omega (arith, n, f, m)

pub base_words-requires-clause-chunks : goal.base_words-requires-clause-chunks
base_words-requires-clause-chunks c =
    let (b, same, k) = c.requires.listed in
    lists_chunks c.args.dataset.now b k.layers c.args.at k.built k.fit c.args.lists k.lists

pub base_words-requires-clause-owners : goal.base_words-requires-clause-owners
base_words-requires-clause-owners c =
    let (b, same, k) = c.requires.listed in
    subst (λ ids. IsOnce (ids ++ map (λ n. n.id) c.args.lists.nodes.items)) (sym same) (lists_once c.args.dataset.now b k.layers c.args.at k.built k.fit c.args.lists k.lists)

pub returns-in-Ok-clause-image : goal.returns-in-Ok-clause-image
returns-in-Ok-clause-image c b same k =
    subst (λ r. IfOk r (λ w. Image c.args.dataset.now b (ingested c.args.dataset.now b c.args.at) w.words)) c.in-Ok.is
    (words_image c.args.dataset.now b k.layers c.args.at k.built k.fit c.args.lists k.lists c.args.ids.now c.base_words.result same c.requires.at (k.fits c.args.at) c.base_words.ensures.words)
