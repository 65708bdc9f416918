use Rattle.std.proofs.Common.{◌≡◌, ◌≤◌, ◌<◌, length, [], ◌∷◌, ◌++◌, subst, sym, ◌∙◌, ap, arith, rules, IfOk}
use Rattle.std.specs.List.{filter}
use Rattle.graph_model.specs.Lists.{has}
use Rattle.op_model.specs.Edges.{linked}
use Rattle.plain_hierarchy.specs.Growth.{Grows}
use Rattle.plain_hierarchy.proofs.Growing.{IsFound, found_start, found_short, found_more, found_whole}
use Rattle.plain_hierarchy.proofs.growth.joined.Goals as goal

pub loop-next-init : goal.loop-next-init
loop-next-init c =
    let start = c.args.start in
    subst (λ xs. IsFound (linked c.args.edges.now) c.args.members.now start xs 0)
    (sym (c.in_ok-push.ensures ∙ ap (λ xs. xs ++ start ∷ []) c.new-found.ensures.items))
    (found_start (linked c.args.edges.now) c.args.members.now start c.requires)

pub loop-next-smaller : goal.loop-next-smaller
loop-next-smaller c =
    let short : length c.loop-next.found.items ≤ length c.args.members.now =
    found_short (linked c.args.edges.now) c.args.members.now c.args.start c.loop-next.found.items c.loop-next.next c.loop-next.invariant in
    let low : c.loop-next.next < length c.loop-next.found.items = search rules in
    omega arith

pub loop-next-preserved : goal.loop-next-preserved
loop-next-preserved c =
    let links = linked c.args.edges.now in
    let all = c.args.members.now in
    let old = c.loop-next.found.items in
    let from = c.index-from.result.now in
    found_more links all c.args.start old c.add_linked.new.found.items c.loop-next.next from (search rules) c.loop-next.invariant
    (subst (λ x. Grows links all x old c.add_linked.new.found.items) c.index-from.ensures c.in_ok-add_linked.ensures)

pub returns : goal.returns
returns c =
    let links = linked c.args.edges.now in
    let all = c.args.members.now in
    let old = c.loop-next.found.items in
    let short : length old ≤ c.loop-next.next = search rules in
    let whole = found_whole links all c.args.start old c.loop-next.next short c.loop-next.invariant in
    let same = ap (λ xs. filter (has xs) all) c.as_slice.ensures.value ∙ whole in
    subst (λ xs. IfOk c.keep.result (λ v. v.items ≡ xs)) same c.keep.ensures
