use Rattle.std.proofs.Common.{◌+◌, ◌++◌, ◌∷◌, [], sym, ◌∙◌, ap, append_assoc, append-nil}
use Rattle.base_rows.specs.States.{tails_from}
use Rattle.base_rows.proofs.TailLists.{tails_more}
use Rattle.entry_rows.proofs.owners.put_tails.Goals as goal

pub loop-k-init : goal.loop-k-init
unfolding tails_from
loop-k-init c = sym (append-nil _)

pub loop-k-preserved : goal.loop-k-preserved
loop-k-preserved c =
    c.in-Ok.ensures.items
    ∙ (ap (λ ts. ts ++ record { spot = c.args.from + c.loop-k.k; word = c.args.word } ∷ []) c.loop-k.invariant
    ∙ (append_assoc c.args.list.now.items (tails_from c.args.from c.args.word c.loop-k.k) _
    ∙ ap (λ ts. c.args.list.now.items ++ ts) (sym (tails_more c.args.from c.args.word c.loop-k.k))))
