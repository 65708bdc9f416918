use Rattle.std.proofs.Common.{◌≡◌, ◌≤◌, ◌<◌, ◌++◌, ◌∷◌, [], map, take, length, get_or, append_assoc, append-nil, sym, ◌∙◌, ap, subst, refl}
use Rattle.std.proofs.lemmas.List.{take_all}
use Rattle.op_model.specs.Chunks.{chunk}
use Rattle.plain_hierarchy.proofs.Counts.{map_next}
use Rattle.plain_hierarchy.proofs.records.add_chunks.Goals as goal

pub loop-sv-init : goal.loop-sv-init
loop-sv-init c = sym (append-nil c.args.list.now.items)

pub loop-sv-preserved : goal.loop-sv-preserved
loop-sv-preserved c =
    let f = chunk c.args.dataset.now c.args.layer in
    let vs = c.args.base.now.supervoxels in
    let v = c.sv-item.result in
    let i = c.loop-sv.sv-index in
    let same = c.ids_of-sv-items.ensures in
    let low : i < length vs = subst (λ xs. i < length xs) same c.loop-sv-test.true in
    let is : v ≡ get_or vs i v = c.sv-item.is ∙ ap (λ xs. get_or xs i v) same in
    let next = map_next f vs i v (map f (take i vs)) c.chunk.result low refl (c.chunk.ensures.is ∙ ap f is) in
    c.in_ok-push.ensures ∙ (ap (λ xs. xs ++ c.chunk.result ∷ []) c.loop-sv.invariant
    ∙ (append_assoc c.args.list.now.items (map f (take i vs)) (c.chunk.result ∷ []) ∙ ap (λ xs. c.args.list.now.items ++ xs) next))

pub returns : goal.returns
returns c =
    let vs = c.args.base.now.supervoxels in
    let whole : length vs ≤ c.loop-sv.sv-index = subst (λ xs. length xs ≤ c.loop-sv.sv-index) c.ids_of-sv-items.ensures c.loop-sv-test.false in
    c.loop-sv.invariant ∙ ap (λ xs. c.args.list.now.items ++ map (chunk c.args.dataset.now c.args.layer) xs) (take_all c.loop-sv.sv-index vs whole)
