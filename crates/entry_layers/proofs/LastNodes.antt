-- The ids of the last nodes of a list.
use Rattle.std.proofs.Common.{◌≡◌, ◌∙◌, ℕ, ◌+◌, ◌-◌, ◌<◌, ◌≤◌, List, [], ◌∷◌, length, map, drop, get_or, sym, ap, arith}
use Rattle.std.proofs.lemmas.List.{drop_more}
use Rattle.std.proofs.Math.Seq.{drop-length}
use Rattle.op_model.specs.Operations.{ascending, put_id}
use Rattle.entry_parts.specs.declared.made.MadeNode.{MadeNode}

-- at first there is none
pub none_left : (ms : List MadeNode) → [] ≡ ascending (map (λ m. m.id) (drop (length ms - 0) ms))
unfolding ascending
none_left ms = let e : length ms - 0 ≡ length ms = omega arith in sym (ap (λ n. ascending (map (λ m. m.id) (drop n ms))) e ∙ ap (λ ns. ascending (map (λ m. m.id) ns)) (drop-length ms))

-- with each node there is one more
pub one_left : (ms : List MadeNode) (done : ℕ) (m : MadeNode) → done < length ms → get_or ms (length ms - done - 1) m ≡ m
    → put_id m.id (ascending (map (λ n. n.id) (drop (length ms - done) ms))) ≡ ascending (map (λ n. n.id) (drop (length ms - (done + 1)) ms))
unfolding ascending
one_left ms done m h e =
    let k : ℕ = length ms - (done + 1) in
    let l : k < length ms = omega arith in
    let same : length ms - done - 1 ≡ k = omega arith in
    let next : k + 1 ≡ length ms - done = omega arith in
    let g : get_or ms k m ≡ m = ap (λ n. get_or ms n m) (sym same) ∙ e in
    let d : drop k ms ≡ m ∷ drop (length ms - done) ms = drop_more ms k m l ∙ (ap (λ x. x ∷ drop (k + 1) ms) g ∙ ap (λ n. m ∷ drop n ms) next) in
    sym (ap (λ ns. ascending (map (λ n. n.id) ns)) d)

-- at last there are all
pub all_left : (ms : List MadeNode) (n : ℕ) → length ms ≤ n → drop (length ms - n) ms ≡ ms
all_left ms n h = let e : length ms - n ≡ 0 = omega arith in ap (λ k. drop k ms) e
