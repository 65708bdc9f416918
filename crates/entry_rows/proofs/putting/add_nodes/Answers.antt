use Rattle.std.proofs.Common.{◌∙◌, sym, subst, ◌++◌}
use Rattle.entry_rows.specs.States.{AreMade, Noding}
use Rattle.entry_rows.proofs.Begins.{noding_begins}
use Rattle.entry_rows.proofs.putting.add_nodes.Goals as goal

pub put_nodes-requires-clause-state : goal.put_nodes-requires-clause-state
put_nodes-requires-clause-state c =
    let (old, more, ns, growth, is) = c.requires.listed in
    let number = c.args.lists.now.head.number in (
      is.chunks,
      old,
      more,
      ns,
      subst (Noding is.chunks old more c.args.growth.now) (sym (c.in_ok-tails.ensures ∙ c.deref.ensures.value)) (noding_begins number old more c.args.growth.now c.args.lists.now ns growth is),
      subst (λ xs. AreMade number is.chunks (old ++ more) xs ns) (sym c.deref-2.ensures.value) is.made,
    )

pub returns-clause-pushed : goal.returns-clause-pushed
returns-clause-pushed c old more ns growth is =
    let number = c.args.lists.now.head.number in
    (c.in_ok-put_nodes.ensures.state is.chunks old more ns
    (subst (Noding is.chunks old more c.args.growth.now) (sym (c.in_ok-tails.ensures ∙ c.deref.ensures.value)) (noding_begins number old more c.args.growth.now c.args.lists.now ns growth is))
    (subst (λ xs. AreMade number is.chunks (old ++ more) xs ns) (sym c.deref-2.ensures.value) is.made)).growth
