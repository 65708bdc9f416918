use Rattle.std.proofs.Common.{◌+◌, ◌++◌, ◌∷◌, [], sym, ◌∙◌, ap, append_assoc, append-nil}
use Rattle.entry_rows.specs.Listed.{places_from}
use Rattle.entry_rows.proofs.PlaceLists.{places_more}
use Rattle.entry_rows.proofs.owners.put_places.Goals as goal

pub loop-k-init : goal.loop-k-init
unfolding places_from
loop-k-init c = sym (append-nil _)

pub loop-k-preserved : goal.loop-k-preserved
loop-k-preserved c =
    c.in-Ok.ensures.items
    ∙ (ap (λ ts. ts ++ (c.args.from + c.loop-k.k) ∷ []) c.loop-k.invariant
    ∙ (append_assoc c.args.list.now.items (places_from c.args.from c.loop-k.k) _
    ∙ ap (λ ts. c.args.list.now.items ++ ts) (sym (places_more c.args.from c.loop-k.k))))
