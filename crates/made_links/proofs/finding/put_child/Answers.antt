use Rattle.std.proofs.Common.{sym, subst}
use Rattle.std.specs.List.{All}
use Rattle.std.proofs.lemmas.List.Elements.{All-push}
use Rattle.made_links.specs.Children.{IsChild}
use Rattle.made_links.proofs.finding.put_child.Goals as goal

pub returns-in-Ok-clause-are : goal.returns-in-Ok-clause-are
returns-in-Ok-clause-are g c d b log e is high all =
    subst (All (IsChild d b log e c.args.layer c.args.ids.now c.args.below.now)) (sym c.in-Ok.ensures.items)
    (All-push (IsChild d b log e c.args.layer c.args.ids.now c.args.below.now) c.args.list.now.items c.found_child-child.result all (c.found_child-child.ensures.is d b log e is high))
