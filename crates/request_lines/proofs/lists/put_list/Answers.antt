use Rattle.std.proofs.Common.{refl, ap, sym, ◌∙◌, ◌≡◌, ◌++◌, ◌==◌, if◌then◌else◌, [], map, codes, ◌+◌, drop}
use Rattle.std.proofs.lemmas.List.{append_assoc, drop_all}
use Rattle.request_lines.proofs.Putting.{puts_both, puts_then}
use Rattle.request_lines.proofs.Listing.{continuing, continuing_next, continuing_none}
use Rattle.request_lines.proofs.lists.put_list.Goals as goal

pub loop-i-init : goal.loop-i-init
loop-i-init g c = (codes "[", c.put.ensures, refl)

pub loop-i-preserved : goal.loop-i-preserved
loop-i-preserved g c =
    let f = g.T.Written.text in
    let i = c.loop-i.i in
    let list = c.args.list.now in
    let done = c.loop-i.invariant.0 in
    let item = (if i == 0 then [] else codes ",") ++ f c.index-list-i.result in
    let rest = continuing (i + 1) (map f (drop (i + 1) list)) (codes "]") in
    let next = continuing_next f list i c.index-list-i.result (codes "]") c.loop-i-test.true c.index-list-i.is in (
      done ++ item,
      puts_then c.loop-i.invariant.1 c.put_item.ensures,
      c.loop-i.invariant.2 ∙ ap (λ w. done ++ w) next ∙ sym (append_assoc done item rest),
    )

pub returns : goal.returns
returns g c =
    let f = g.T.Written.text in
    let i = c.loop-i.i in
    let list = c.args.list.now in
    let done = c.loop-i.invariant.0 in
    let none : continuing i (map f (drop i list)) (codes "]") ≡ codes "]" = rw (drop_all i list c.loop-i-test.false) (continuing_none i (codes "]")) in
    puts_both _ (c.loop-i.invariant.2 ∙ ap (λ w. done ++ w) none) c.loop-i.invariant.1 c.put-2.ensures
