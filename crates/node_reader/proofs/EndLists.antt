-- The ends of the last pairs of a list.
use Rattle.std.proofs.Common.{◌≡◌, ℕ, zero, suc, ◌+◌, ◌-◌, ◌<◌, ◌≤◌, List, [], ◌∷◌, length, map, drop, get_or, sym, ◌∙◌, ap, subst, arith}
use Rattle.std.proofs.lemmas.List.{drop_more}
use Rattle.std.proofs.Math.Seq.{drop-length}
use Rattle.op_model.specs.declared.base.Base.{Base}
use Rattle.op_model.specs.declared.entry.Changed.{Changed}
use Rattle.op_model.specs.Operations.{ascending, ends}
use Rattle.node_reader.specs.Readable.{AreKnown}

-- at first there is none
pub none_left : (f : ℕ → ℕ) (cs : List Changed) → [] ≡ ascending (map f (ends (drop (length cs - 0) cs)))
unfolding ascending ends
none_left f cs = let e : length cs - 0 ≡ length cs = omega arith in sym (ap (λ n. ascending (map f (ends (drop n cs)))) e ∙ ap (λ ds. ascending (map f (ends ds))) (drop-length cs))

-- with each pair there are two more
pub one_left : (cs : List Changed) (done : ℕ) (c : Changed) → done < length cs → get_or cs (length cs - done - 1) c ≡ c → ends (drop (length cs - (done + 1)) cs) ≡ c.pair.a ∷ c.pair.b ∷ ends (drop (length cs - done) cs)
unfolding ends
one_left cs done c h e =
    let k : ℕ = length cs - (done + 1) in
    let l : k < length cs = omega arith in
    let same : length cs - done - 1 ≡ k = omega arith in
    let next : k + 1 ≡ length cs - done = omega arith in
    let g : get_or cs k c ≡ c = ap (λ n. get_or cs n c) (sym same) ∙ e in
    ap ends (drop_more cs k c l ∙ (ap (λ d. d ∷ drop (k + 1) cs) g ∙ ap (λ n. c ∷ drop n cs) next))

-- at last there are all
pub all_left : (cs : List Changed) (n : ℕ) → length cs ≤ n → drop (length cs - n) cs ≡ cs
all_left cs n h = let e : length cs - n ≡ 0 = omega arith in ap (λ k. drop k cs) e

-- each of the pairs has known ends
pub known_at : (b : Base) (cs : List Changed) (k : ℕ) (c : Changed) → AreKnown b (ends cs) → k < length cs → get_or cs k c ≡ c → AreKnown b (c.pair.a ∷ c.pair.b ∷ [])
unfolding ends
known_at b [] k c a h e = absurd (omega arith)
known_at b (x ∷ cs) zero c a h e = subst (λ (y : Changed). AreKnown b (y.pair.a ∷ y.pair.b ∷ [])) e (a.0, (a.1.0, tt))
known_at b (x ∷ cs) (suc k) c a h e = known_at b cs k c a.1.1 (omega arith) e
