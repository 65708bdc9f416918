-- Numbers that stand in runs, each run once.
use Rattle.std.proofs.Common.{◌≡◌, ℕ, suc, ◌+◌, ◌<◌, ◌≤◌, Bool, true, false, cond, eqb, List, [], ◌∷◌, ◌++◌, length, drop, get_or, refl, sym, ◌∙◌, ap, arith, append-nil, append_assoc, eq-eqb}
use Rattle.std.specs.List.{AllByRecursion, flat_map}
use Rattle.std.proofs.lemmas.List.{drop_more}
use Rattle.std.proofs.lemmas.Bool.{ne_eqb, eqb-true}
use Rattle.record_rows.proofs.DifferLemmas.{Differ}
use Rattle.base_rows.specs.declared.lists.BaseNode.{BaseNode}
use Rattle.octree_layers.specs.declared.numbering.Made.{Made}
use Rattle.hierarchy_build.specs.Chunked.{fresh, chunks_behind, count_behind, base_node, nodes_behind}
use Rattle.octree_layers.proofs.Steps.{none_left}

-- where nothing is left
pub behind_end : {X : Type 0} (done more whole : List X) → more ≡ [] → done ++ more ≡ whole → done ≡ whole
behind_end done more whole e p = sym (append-nil done) ∙ (ap (λ xs. done ++ xs) (sym e) ∙ p)

-- a run of one number, with one at least
abbrev pub Run : ℕ → List ℕ → Type 0
Run c [] = ⊥
Run c (y ∷ ys) = (y ≡ c) × AllByRecursion (λ z. z ≡ c) ys

run_on : (c : ℕ) (ys rest : List ℕ) → AllByRecursion (λ z. z ≡ c) ys → fresh c (ys ++ rest) ≡ fresh c rest
unfolding fresh
run_on c [] rest a = refl
run_on c (y ∷ ys) rest a =
    ap (λ k. cond k (fresh y (ys ++ rest)) (y ∷ fresh y (ys ++ rest))) (eq-eqb y c a.0)
    ∙ (ap (λ z. fresh z (ys ++ rest)) a.0 ∙ run_on c ys rest a.1)

run_first : (last c : ℕ) (ys rest : List ℕ) → last < c → Run c ys → fresh last (ys ++ rest) ≡ c ∷ fresh c rest
unfolding fresh
run_first last c [] rest l r = absurd r
run_first last c (y ∷ ys) rest l r =
    ap (λ k. cond k (fresh y (ys ++ rest)) (y ∷ fresh y (ys ++ rest))) (ne_eqb y last (λ e. let q = r.0 in omega (arith, l, e, q)))
    ∙ (ap (λ z. z ∷ fresh z (ys ++ rest)) r.0 ∙ ap (λ zs. c ∷ zs) (run_on c ys rest r.1))

-- ascending numbers are those of their runs
pub fresh_runs : (f : ℕ → List ℕ) (last : ℕ) (cs : List ℕ) → AllByRecursion (λ c. last < c) cs → Differ (λ x y. x < y) cs → AllByRecursion (λ c. Run c (f c)) cs → fresh last (flat_map f cs) ≡ cs
unfolding fresh
fresh_runs f last [] low a r = refl
fresh_runs f last (c ∷ cs) low a r = run_first last c (f c) (flat_map f cs) low.0 r.0 ∙ ap (λ zs. c ∷ zs) (fresh_runs f c cs a.0 a.1 r.1)

pub fresh_few : (last : ℕ) (cs : List ℕ) → length (fresh last cs) ≤ length cs
unfolding fresh
fresh_few last [] = omega arith
fresh_few last (c ∷ cs) = go (eqb c last) (fresh_few c cs)
  where
    go : (k : Bool) → length (fresh c cs) ≤ length cs → length (cond k (fresh c cs) (c ∷ fresh c cs)) ≤ suc (length cs)
    go true h = omega arith
    go false h = omega arith

-- one chunk more
pub count_more : (last count : ℕ) (ms : List Made) (i : ℕ) (m : Made) (n : ℕ) → i < length ms → m ≡ get_or ms i m → n ≡ count_behind last count m.chunk
    → n + length (chunks_behind m.chunk (drop (i + 1) ms)) ≡ count + length (chunks_behind last (drop i ms))
unfolding fresh
count_more last count ms i m n l is e =
    sym (ap (λ xs. count + length (chunks_behind last xs)) (drop_more ms i m l ∙ ap (λ (x : Made). x ∷ drop (i + 1) ms) (sym is)) ∙ go (eqb m.chunk last) e)
  where
    rest : List ℕ
    rest = chunks_behind m.chunk (drop (i + 1) ms)

    go : (k : Bool) → n ≡ cond k count (count + 1) → count + length (cond k rest (m.chunk ∷ rest)) ≡ n + length rest
    go true h = omega (arith, h)
    go false h = omega (arith, h)

pub count_end : (last count : ℕ) (ms : List Made) (i : ℕ) → length ms ≤ i → count + length (chunks_behind last (drop i ms)) ≡ count
unfolding fresh
count_end last count ms i l = ap (λ xs. count + length (chunks_behind last xs)) (none_left ms i l) ∙ (let e : count + 0 ≡ count = omega arith in e)

pub count_low : (last count c n i : ℕ) → n ≡ count_behind last count c → count ≤ i → n ≤ i + 1
count_low last count c n i e l = go (eqb c last) e
  where
    go : (k : Bool) → n ≡ cond k count (count + 1) → n ≤ i + 1
    go true h = omega arith
    go false h = omega arith

pub count_some : (last count c n : ℕ) → n ≡ count_behind last count c → 0 < c → (0 < last → 1 ≤ count) → 1 ≤ n
count_some last count c n e l f = go (eqb c last) refl e
  where
    go : (k : Bool) → eqb c last ≡ k → n ≡ cond k count (count + 1) → 1 ≤ n
    go true t h = let q = eqb-true c last t in let s = f (omega (arith, q, l)) in omega (arith, s, h)
    go false t h = omega (arith, h)

-- the chunks, one node more
pub chunks_more : (last : ℕ) (ms : List Made) (i : ℕ) (m : Made) (done more whole : List ℕ) → i < length ms → m ≡ get_or ms i m
    → done ++ chunks_behind last (drop i ms) ≡ whole → more ≡ done ++ fresh last (m.chunk ∷ []) → more ++ chunks_behind m.chunk (drop (i + 1) ms) ≡ whole
unfolding fresh
chunks_more last ms i m done more whole l is p e =
    ap (λ xs. xs ++ rest) e
    ∙ (append_assoc done (fresh last (m.chunk ∷ [])) rest
    ∙ (ap (λ xs. done ++ xs) (go (eqb m.chunk last) ∙ sym (ap (chunks_behind last) (drop_more ms i m l ∙ ap (λ (x : Made). x ∷ drop (i + 1) ms) (sym is)))) ∙ p))
  where
    rest : List ℕ
    rest = chunks_behind m.chunk (drop (i + 1) ms)

    go : (k : Bool) → cond k [] (m.chunk ∷ []) ++ rest ≡ cond k rest (m.chunk ∷ rest)
    go true = refl
    go false = refl

pub chunks_end : (last : ℕ) (ms : List Made) (i : ℕ) (done whole : List ℕ) → length ms ≤ i → done ++ chunks_behind last (drop i ms) ≡ whole → done ≡ whole
unfolding fresh
chunks_end last ms i done whole l p = behind_end done (chunks_behind last (drop i ms)) whole (ap (chunks_behind last) (none_left ms i l)) p

-- one chunk behind the last one
pub put_other : (last c : ℕ) (xs ys : List ℕ) (k : Bool) → k ≡ eqb c last → k ≡ false → ys ≡ xs ++ c ∷ [] → ys ≡ xs ++ fresh last (c ∷ [])
unfolding fresh
put_other last c xs ys k e f h = h ∙ ap (λ t. xs ++ cond t [] (c ∷ [])) (sym f ∙ e)

pub put_same : (last c : ℕ) (xs : List ℕ) (k : Bool) → k ≡ eqb c last → k ≡ true → xs ≡ xs ++ fresh last (c ∷ [])
unfolding fresh
put_same last c xs k e t = sym (append-nil xs) ∙ ap (λ s. xs ++ cond s [] (c ∷ [])) (sym t ∙ e)

-- one node more
pub nodes_more : (ids : List ℕ) (last count : ℕ) (ms : List Made) (i : ℕ) (m : Made) (n : ℕ) (x : BaseNode) (done more whole : List BaseNode) → i < length ms → m ≡ get_or ms i m → n ≡ count_behind last count m.chunk
    → x ≡ base_node ids n m → done ++ nodes_behind ids last count (drop i ms) ≡ whole → more ≡ done ++ x ∷ [] → more ++ nodes_behind ids m.chunk n (drop (i + 1) ms) ≡ whole
unfolding nodes_behind
nodes_more ids last count ms i m n x done more whole l is e node p h =
    ap (λ xs. xs ++ nodes_behind ids m.chunk n (drop (i + 1) ms)) (h ∙ ap (λ y. done ++ y ∷ []) (node ∙ ap (λ k. base_node ids k m) e))
    ∙ (append_assoc done (base_node ids (count_behind last count m.chunk) m ∷ []) (nodes_behind ids m.chunk n (drop (i + 1) ms))
    ∙ (ap (λ k. done ++ base_node ids (count_behind last count m.chunk) m ∷ nodes_behind ids m.chunk k (drop (i + 1) ms)) e
    ∙ (ap (λ xs. done ++ nodes_behind ids last count xs) (sym (drop_more ms i m l ∙ ap (λ (y : Made). y ∷ drop (i + 1) ms) (sym is))) ∙ p)))

pub nodes_end : (ids : List ℕ) (last count : ℕ) (ms : List Made) (i : ℕ) (done whole : List BaseNode) → length ms ≤ i → done ++ nodes_behind ids last count (drop i ms) ≡ whole → done ≡ whole
unfolding nodes_behind
nodes_end ids last count ms i done whole l p = behind_end done (nodes_behind ids last count (drop i ms)) whole (ap (nodes_behind ids last count) (none_left ms i l)) p
