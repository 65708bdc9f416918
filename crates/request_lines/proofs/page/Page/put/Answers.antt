use Rattle.std.proofs.Common.{rules, refl, sym, take, take-add, drop}
use Rattle.std.proofs.lemmas.List.{take-append-drop}
use Rattle.request_lines.proofs.Putting.{puts_both, puts_none, puts_waiting}
use Rattle.request_lines.proofs.page.Page.put.Goals as goal

pub returns-then-self : goal.returns-then-self
returns-then-self g c =
    let rest = drop c.loop-at.at c.args.piece.now in
    let none = puts_none (g.K.Sink.state c.make_room.new.out) c.make_room.new.self rest c.if-self.true in
    puts_both c.args.piece.now (sym (take-append-drop c.loop-at.at c.args.piece.now)) c.loop-at.invariant.1 (puts_both rest refl c.make_room.ensures.puts none)

pub loop-at-preserved : goal.loop-at-preserved
loop-at-preserved g c =
    let some = take c.fill-at.result (drop c.loop-at.at c.args.piece.now) in
    let more = puts_waiting (g.K.Sink.state c.make_room.new.out) c.make_room.new.self c.fill-at.new.self some (search rules) c.fill-at.ensures.failed in
    (search rules, puts_both _ (take-add c.loop-at.at c.fill-at.result c.args.piece.now) c.loop-at.invariant.1 (puts_both some refl c.make_room.ensures.puts more))
