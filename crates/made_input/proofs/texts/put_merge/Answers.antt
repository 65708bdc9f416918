use Rattle.std.proofs.Common.{codes}
use Rattle.made_input.specs.Texts.{id_text}
use Rattle.made_input.proofs.Lines.{five}
use Rattle.made_input.proofs.texts.put_merge.Goals as goal

pub returns : goal.returns
returns c =
    let w = c.args.wish.now in
    five c.args.text.now.items (codes "{\"a\":\"") (id_text w c.args.u) (codes "\",\"b\":\"") (id_text w c.args.v) (codes "\",\"do\":\"merge\"}\n")
    c.put.new.text.items c.put_id.new.text.items c.put-2.new.text.items c.put_id-2.new.text.items c.put-3.new.text.items
    c.in_ok-put.ensures c.in_ok-put_id.ensures c.in_ok-put-2.ensures c.in_ok-put_id-2.ensures c.in_ok-put-3.ensures
