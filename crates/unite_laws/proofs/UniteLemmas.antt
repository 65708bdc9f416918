-- An entry that only makes pairs active unites nodes.
use Rattle.std.proofs.Common.{◌≡◌, ℕ, ◌+◌, ◌-◌, ◌^◌, ◌<◌, ◌≤◌, Bool, true, false, cond, ◌&&◌, ◌||◌, leb, List, [], ◌∷◌, length, get_or, refl, sym, ◌∙◌, ap, subst, ◌↔◌, inl, inr, ◌⊎◌, arith, IsTrue}
use Rattle.std.specs.List.{range_with_len, AllByRecursion}
use Rattle.std.proofs.lemmas.Bool.{false≢true, eqb-true, and_parts, and_from, or_cases, or_left, or_right, leb-true, le-leb}
use Rattle.std.proofs.lemmas.List.FromFn.{length-range_with_len, get_or-range_with_len}
use Rattle.graph_model.proofs.Walks.{has_decides}
use Rattle.node_ids.specs.Ids.{IsLayout}
use Rattle.op_model.specs.declared.base.Dataset.{Dataset}
use Rattle.op_model.specs.declared.base.Base.{Base}
use Rattle.op_model.specs.declared.base.Pair.{Pair}
use Rattle.op_model.specs.declared.base.Weight.TheVariants.{Affinity}
use Rattle.op_model.specs.declared.base.Edge.{Edge}
use Rattle.op_model.specs.declared.entry.Changed.{Changed}
use Rattle.op_model.specs.declared.entry.Entry.{Entry}
use Rattle.graph_model.specs.Lists.{has}
use Rattle.graph_model.specs.Components.{Joined as JoinedBy}
use Rattle.op_model.specs.Edges.{joins, linked, same_pair, pair_before, put_edge, put_changed, edges_after}
use Rattle.op_model.specs.Valid.{IsAscending}
use Rattle.op_model.specs.Chunks.{chunk, members}
use Rattle.op_model.specs.Labels.{is_empty, touches, edges, least, is_new, Joined}
use Rattle.op_model.specs.Operations.{ends}
use Rattle.op_model.proofs.LabelLemmas.{in_members, members_in}
use Rattle.graph_model.proofs.Components.{Joined_one, Joined_sym, Joined_trans}
use Rattle.components.specs.Joining.{meet, AreLeastMembers}
use Rattle.components.proofs.Least.{has_below, meet_back}
use Rattle.layer_laws.specs.Levels.{level, leaves, AreFirsts}
use Rattle.layer_laws.specs.Building.{least_leaf}
use Rattle.unite_laws.specs.Uniting.{HaveState, is_changed, unites, IsUnited, AreUnited}
use Rattle.layer_laws.proofs.LevelLemmas.{level_chunk}
use Rattle.layer_laws.proofs.StepLemmas.{along, Joined_cons, joined_self, joined_sym, joined_trans, joined_known, joined_link, leaves_iff, leaves_node, leaves_self, leaves_sym, leaves_above, nested}
use Rattle.layer_laws.proofs.NumberLemmas.{met}
use Rattle.layer_laws.proofs.OrderLemmas.{get_has}
use Rattle.layer_laws.proofs.BuildLemmas.{same_leaves_of, leaf_in, leaf_least, leaf_same, least_is}
use Rattle.layer_laws.proofs.RemakeLemmas.{touches_end, ends_touch, told_before}
use Rattle.layer_laws.proofs.RiseLemmas.{joins_cases, level_sym}

-- a pair has the level of its ends in either order
pub pair_level : (d : Dataset) → IsLayout d.layout → (p : Pair) (u v : ℕ) → joins p u v ≡ true → level d p.a p.b ≡ level d u v
pair_level d is p u v j =
    elim (joins_cases p u v j) [
      | inl q ↦ ap (λ x. level d x p.b) q.0 ∙ ap (λ x. level d u x) q.1
      | inr q ↦ ap (λ x. level d x p.b) q.0 ∙ (ap (λ x. level d v x) q.1 ∙ level_sym d is v u)
    ]

same_joins : (p q : Pair) (u v : ℕ) → same_pair p q ≡ true → joins p u v ≡ joins q u v
unfolding joins same_pair
same_joins p q u v h =
    let s = and_parts _ _ h in
    let ea : p.a ≡ q.a = eqb-true _ _ s.0 in
    let eb : p.b ≡ q.b = eqb-true _ _ s.1 in
    cc

set_same : (j k : Bool) → j ≡ k → (a l : Bool) → (j || l) ≡ (k || ((a && j) || l))
set_same true k e a l = rw (← e) refl
set_same false k e true l = rw (← e) refl
set_same false k e false l = rw (← e) refl

or_none : (l : Bool) → l ≡ (l || false)
or_none true = refl
or_none false = refl

or_swap : (a j l : Bool) → (a || (j || l)) ≡ (j || (a || l))
or_swap true true l = refl
or_swap true false l = refl
or_swap false j l = refl

or_move : (j l r : Bool) → ((j || l) || r) ≡ (l || (j || r))
or_move true true r = refl
or_move true false r = refl
or_move false l r = refl

-- an active edge that is put among others links its two
linked_on : (e : Edge) → e.active ≡ true → (fs : List Edge) (u v : ℕ) → linked (put_edge e fs) u v ≡ (joins e.pair u v || linked fs u v)
unfolding linked put_edge
linked_on e act [] u v = ap (λ a. (a && joins e.pair u v) || false) act
linked_on e act (f ∷ fs) u v = go (same_pair f.pair e.pair) refl (pair_before e.pair f.pair) (linked_on e act fs u v)
  where
    go : (s : Bool) → same_pair f.pair e.pair ≡ s → (t : Bool) → linked (put_edge e fs) u v ≡ (joins e.pair u v || linked fs u v)
        → linked (cond s (record f { active = e.active } ∷ fs) (cond t (e ∷ f ∷ fs) (f ∷ put_edge e fs))) u v ≡ (joins e.pair u v || linked (f ∷ fs) u v)
    go true q t ih =
        ap (λ a. (a && joins f.pair u v) || linked fs u v) act
        ∙ set_same (joins f.pair u v) (joins e.pair u v) (same_joins f.pair e.pair u v q) f.active (linked fs u v)
    go false q true ih = ap (λ a. (a && joins e.pair u v) || linked (f ∷ fs) u v) act
    go false q false ih = ap (λ z. (f.active && joins f.pair u v) || z) ih ∙ or_swap (f.active && joins f.pair u v) (joins e.pair u v) (linked fs u v)

-- and so do all changed pairs that are made active
changed_on : (affinity : ℕ) (cs : List Changed) → HaveState true cs → (fs : List Edge) (u v : ℕ) → linked (put_changed affinity cs fs) u v ≡ (linked fs u v || is_changed cs u v)
unfolding put_changed is_changed
changed_on affinity [] on fs u v = or_none (linked fs u v)
changed_on affinity (c ∷ cs) on fs u v =
    changed_on affinity cs on.1 (put_edge (record { pair = c.pair; weight = Affinity affinity; active = c.active }) fs) u v
    ∙ (ap (λ z. z || is_changed cs u v) (linked_on (record { pair = c.pair; weight = Affinity affinity; active = c.active }) on.0 fs u v)
    ∙ or_move (joins c.pair u v) (linked fs u v) (is_changed cs u v))

pub below_has : (n v : ℕ) → has (range_with_len 0 n) v ≡ true → v < n
below_has n v t =
    let (k, l, e) = (has_decides (range_with_len 0 n) v).0 t in
    let z = length-range_with_len 0 n in
    let m : k < n = omega arith in
    let g = get_or-range_with_len 0 n k v m in
    omega arith

-- places are joined just where their least members are one
pub lows_tell : (n : ℕ) (pairs : List (ℕ × ℕ)) (lows : List ℕ) → AreLeastMembers n pairs lows → (i j : ℕ) → i < n → j < n
    → (get_or lows i 0 ≡ get_or lows j 0) ↔ JoinedBy (meet pairs) (range_with_len 0 n) i j
lows_tell n pairs lows labels i j hi hj = (
  (λ q.
      trans i (get_or lows i 0) j (labels.joined i hi)
      (subst (λ k. JoinedBy (meet pairs) (range_with_len 0 n) k j) (sym q) (turn j (get_or lows j 0) (labels.joined j hj)))),
  (λ w.
      let p = labels.lowest i (get_or lows j 0) hi (trans i j (get_or lows j 0) w (labels.joined j hj)) in
      let q = labels.lowest j (get_or lows i 0) hj (trans j i (get_or lows i 0) (turn i j w) (labels.joined i hi)) in
      both (get_or lows i 0) (get_or lows j 0) p q),
)
  where
    trans : (i j k : ℕ) → JoinedBy (meet pairs) (range_with_len 0 n) i j → JoinedBy (meet pairs) (range_with_len 0 n) j k → JoinedBy (meet pairs) (range_with_len 0 n) i k
    trans i j k v w = Joined_trans (meet pairs) (range_with_len 0 n) i j k v w

    turn : (i j : ℕ) → JoinedBy (meet pairs) (range_with_len 0 n) i j → JoinedBy (meet pairs) (range_with_len 0 n) j i
    turn i j w = Joined_sym (meet pairs) (range_with_len 0 n) (meet_back pairs) i j w

    both : (x y : ℕ) → x ≤ y → y ≤ x → x ≡ y
    both x y p q = omega arith

-- places that have one first place are joined
pub same_by_firsts : (n : ℕ) (pairs : List (ℕ × ℕ)) (places : List ℕ) → ((i : ℕ) → i < n → (get_or places i 0 < n) × ((get_or places i 0 ≡ i) ⊎ IsTrue (meet pairs i (get_or places i 0))))
    → (i j : ℕ) → i < n → j < n → get_or places i 0 ≡ get_or places j 0 → JoinedBy (meet pairs) (range_with_len 0 n) i j
same_by_firsts n pairs places first i j hi hj q =
    Joined_trans (meet pairs) (range_with_len 0 n) i (get_or places i 0) j (to i hi)
    (subst (λ k. JoinedBy (meet pairs) (range_with_len 0 n) k j) (sym q) (Joined_sym (meet pairs) (range_with_len 0 n) (meet_back pairs) j (get_or places j 0) (to j hj)))
  where
    to : (i : ℕ) → i < n → JoinedBy (meet pairs) (range_with_len 0 n) i (get_or places i 0)
    to i hi =
        let p = first i hi in
        let self = Joined_one (meet pairs) (range_with_len 0 n) (get_or places i 0) (has_below n (get_or places i 0) p.0) in
        elim p.1 [
          | inl e ↦ subst (λ k. JoinedBy (meet pairs) (range_with_len 0 n) k (get_or places i 0)) e self
          | inr m ↦ Joined_cons (meet pairs) (range_with_len 0 n) i (get_or places i 0) (get_or places i 0) (has_below n i hi) m self
        ]

pub find_changed : (P : Changed → Type 0) (cs : List Changed) (u v : ℕ) → AllByRecursion P cs → is_changed cs u v ≡ true → (c : Changed) × P c × (joins c.pair u v ≡ true)
unfolding is_changed
find_changed P [] u v all h = absurd (false≢true h)
find_changed P (c ∷ cs) u v all h = elim (or_cases (joins c.pair u v) (is_changed cs u v) h) [ inl k ↦ (c, all.0, k) | inr k ↦ find_changed P cs u v all.1 k ]

module _ (d : Dataset) (b : Base) (is : IsLayout d.layout) (e : Entry) (log : List Entry) (on : HaveState true e.changed) where
  pub links : (u v : ℕ) → linked (edges d b (e ∷ log)) u v ≡ (linked (edges d b log) u v || is_changed e.changed u v)
  unfolding edges edges_after
  links u v = changed_on d.merge_affinity e.changed on (edges d b log) u v

  -- what was joined stays so
  pub stays : (l u v : ℕ) → Joined d b log l u v → Joined d b (e ∷ log) l u v
  stays l u v j =
      let all = members d b l (chunk d l u) in
      let now = linked (edges d b (e ∷ log)) in
      along (linked (edges d b log)) all (JoinedBy now all) (λ x h. Joined_one now all x h)
      (λ x y z hx hy k i. Joined_cons now all x y z hx (links x y ∙ or_left (linked (edges d b log) x y) (is_changed e.changed x y) k) i) u v j

  -- a changed pair inside a chunk is joined
  changed_joined : (l u v : ℕ) → 2 ≤ l → l < 2 ^ 8 → has b.supervoxels u ≡ true → has b.supervoxels v ≡ true → is_changed e.changed u v ≡ true → level d u v ≤ l → Joined d b (e ∷ log) l u v
  changed_joined l u v two low hu hv c m =
      joined_link d b is (e ∷ log) l u v hu hv (links u v ∙ or_right (linked (edges d b log) u v) (is_changed e.changed u v) c) ((level_chunk d is l u v two low).1 m)

  unites_cases : (l u v : ℕ) → unites d b e.changed log l u v ≡ true → (has (leaves d b log l u) v ≡ true) ⊎ ((is_changed e.changed u v ≡ true) × (level d u v ≤ l))
  unfolding unites
  unites_cases l u v h =
      elim (or_cases (has (leaves d b log l u) v) (is_changed e.changed u v && leb (level d u v) l) h) [
        | inl k ↦ inl k
        | inr k ↦ let p = and_parts (is_changed e.changed u v) (leb (level d u v) l) k in inr (p.0, leb-true (level d u v) l p.1)
      ]

  link_unites : (l u v : ℕ) → 2 ≤ l → l < 2 ^ 8 → has b.supervoxels u ≡ true → has b.supervoxels v ≡ true → linked (edges d b (e ∷ log)) u v ≡ true → chunk d l u ≡ chunk d l v
      → unites d b e.changed log l u v ≡ true
  unfolding unites
  link_unites l u v two low hu hv k c =
      elim (or_cases (linked (edges d b log) u v) (is_changed e.changed u v) (sym (links u v) ∙ k)) [
        | inl m ↦
            or_left (has (leaves d b log l u) v) (is_changed e.changed u v && leb (level d u v) l) ((leaves_iff d b is log l u v two).1 (joined_link d b is log l u v hu hv m c))
        | inr m ↦
            or_right (has (leaves d b log l u) v) (is_changed e.changed u v && leb (level d u v) l)
            (and_from (is_changed e.changed u v) (leb (level d u v) l) m (le-leb (level d u v) l ((level_chunk d is l u v two low).0 c)))
      ]

  united_joined : (l u v : ℕ) → 2 ≤ l → l < 2 ^ 8 → has b.supervoxels u ≡ true → has b.supervoxels v ≡ true → unites d b e.changed log l u v ≡ true → Joined d b (e ∷ log) l u v
  united_joined l u v two low hu hv h =
      elim (unites_cases l u v h) [
        | inl k ↦ stays l u v ((leaves_iff d b is log l u v two).0 k)
        | inr p ↦ changed_joined l u v two low hu hv p.0 p.1
      ]

  -- a layer joins what it joined before, and the changed pairs inside its chunks
  pub unite_iff : (l u v : ℕ) → 2 ≤ l → l < 2 ^ 8 → Joined d b (e ∷ log) l u v ↔ JoinedBy (unites d b e.changed log l) b.supervoxels u v
  unite_iff l u v two low = (
    (λ j.
        let c : ℕ = chunk d l u in
        let all = members d b l c in
        let one = unites d b e.changed log l in
        along (linked (edges d b (e ∷ log))) all (JoinedBy one b.supervoxels) (λ x h. Joined_one one b.supervoxels x (members_in d b l c x h).0)
        (λ x y z hx hy k i.
        let p = members_in d b l c x hx in
        let q = members_in d b l c y hy in
        Joined_cons one b.supervoxels x y z p.0 (link_unites l x y two low p.0 q.0 k (p.1 ∙ sym q.1)) i) u v j),
    (λ j.
        along (unites d b e.changed log l) b.supervoxels (λ x y. Joined d b (e ∷ log) l x y) (λ x h. joined_self d b is (e ∷ log) l x h)
        (λ x y z hx hy s k. joined_trans d b is (e ∷ log) l x y z (united_joined l x y two low hx hy s) k) u v j),
  )

  module _ (ascends : IsAscending b.supervoxels) (l : ℕ) (two : 2 ≤ l) (low : l < 2 ^ 8) (nodes : List ℕ) (pairs : List (ℕ × ℕ)) (are : AreUnited d b e.changed log l nodes pairs) where
    -- whether a supervoxel was a leaf of the node at this place
    abbrev holds : ℕ → ℕ → Bool
    holds i v = has (leaves d b log l (get_or nodes i 0)) v

    node_known : (i : ℕ) → i < length nodes → has b.supervoxels (get_or nodes i 0) ≡ true
    node_known i h = are.known (get_or nodes i 0) (get_has nodes i h)

    own : (i : ℕ) → i < length nodes → holds i (get_or nodes i 0) ≡ true
    own i h = leaves_self d b is log l (get_or nodes i 0) (node_known i h)

    one_leaves : (i v : ℕ) → holds i v ≡ true → leaves d b log l (get_or nodes i 0) ≡ leaves d b log l v
    one_leaves i v h = same_leaves_of d b is ascends log l (get_or nodes i 0) v h

    next : (i x y : ℕ) → holds i x ≡ true → has (leaves d b log l x) y ≡ true → holds i y ≡ true
    next i x y h k = subst (λ xs. has xs y ≡ true) (sym (one_leaves i x h)) k

    -- the pairs lead from the place of one node to that of another
    abbrev Leads : ℕ → ℕ → Type 0
    Leads i j = JoinedBy (meet pairs) (range_with_len 0 (length nodes)) i j

    leads_trans : (i j k : ℕ) → Leads i j → Leads j k → Leads i k
    leads_trans i j k v w = Joined_trans (meet pairs) (range_with_len 0 (length nodes)) i j k v w

    leads_sym : (i j : ℕ) → Leads i j → Leads j i
    leads_sym i j w = Joined_sym (meet pairs) (range_with_len 0 (length nodes)) (meet_back pairs) i j w

    -- the places of the node of one supervoxel
    alike : (i j x : ℕ) → i < length nodes → j < length nodes → holds i x ≡ true → holds j x ≡ true → Leads i j
    alike i j x hi hj p q = are.same i j hi hj (subst (λ xs. has xs (get_or nodes j 0) ≡ true) (one_leaves j x q ∙ sym (one_leaves i x p)) (own j hj))

    one_known : (r x : ℕ) → has (leaves d b log l r) x ≡ true → has b.supervoxels x ≡ true
    one_known r x h = (joined_known d b is log l r x ((leaves_iff d b is log l r x two).0 h)).1

    -- leaves of one old node are joined
    one_joined : (r x y : ℕ) → has (leaves d b log l r) x ≡ true → has (leaves d b log l r) y ≡ true → Joined d b (e ∷ log) l x y
    one_joined r x y hx hy =
        stays l x y
        (joined_trans d b is log l x r y (joined_sym d b is log l r x ((leaves_iff d b is log l r x two).0 hx)) ((leaves_iff d b is log l r y two).0 hy))

    -- where a changed pair leads from a node
    led : (i x y : ℕ) → i < length nodes → holds i x ≡ true → is_changed e.changed x y ≡ true → level d x y ≤ l → (j : ℕ) × (j < length nodes) × (holds j y ≡ true) × Leads i j
    led i x y hi h c m =
        let f = find_changed _ e.changed x y are.all c in
        let p = f.1 (subst (λ k. k ≤ l) (sym (pair_level d is f.0.pair x y f.2)) m) in
        elim (joins_cases f.0.pair x y f.2) [
          | inl s ↦
              let k = alike i p.0 x hi p.2 h (subst (λ z. holds p.0 z ≡ true) s.0 p.4) in
              (p.1, p.3, subst (λ z. holds p.1 z ≡ true) s.1 p.5, leads_trans i p.0 p.1 k (one_pair p.0 p.1 p.2 p.3 p.6))
          | inr s ↦
              let k = alike i p.1 x hi p.3 h (subst (λ z. holds p.1 z ≡ true) s.1 p.5) in
              (p.0, p.2, subst (λ z. holds p.0 z ≡ true) s.0 p.4, leads_trans i p.1 p.0 k (leads_sym p.0 p.1 (one_pair p.0 p.1 p.2 p.3 p.6)))
        ]
      where
        one_pair : (i j : ℕ) → i < length nodes → j < length nodes → meet pairs i j ≡ true → Leads i j
        one_pair i j hi hj m =
            Joined_cons (meet pairs) (range_with_len 0 (length nodes)) i j j (has_below (length nodes) i hi) m
            (Joined_one (meet pairs) (range_with_len 0 (length nodes)) j (has_below (length nodes) j hj))

    abbrev Led : ℕ → ℕ → Type 0
    Led i y = (j : ℕ) × (j < length nodes) × Leads i j × IsTrue (holds j y)

    walk_led : (u v : ℕ) → JoinedBy (unites d b e.changed log l) b.supervoxels u v → (i : ℕ) → i < length nodes → holds i u ≡ true → Led i v
    walk_led u v j =
        along (unites d b e.changed log l) b.supervoxels (λ x y. (i : ℕ) → i < length nodes → holds i x ≡ true → Led i y)
        (λ x hx i hi h. (i, hi, Joined_one (meet pairs) (range_with_len 0 (length nodes)) i (has_below (length nodes) i hi), h))
        (λ x y z hx hy s ih i hi h.
        elim (unites_cases l x y s) [
          | inl k ↦ ih i hi (next i x y h k)
          | inr p ↦
              let q = led i x y hi h p.0 p.1 in
              let r = ih q.0 q.1 q.2 in
              (r.0, r.1, leads_trans i q.0 r.0 q.3 r.2, r.3)
        ]) u v j

    united_pair : (r s : ℕ) → IsUnited d b e.changed log l r s → (x y : ℕ) → has (leaves d b log l r) x ≡ true → has (leaves d b log l s) y ≡ true → Joined d b (e ∷ log) l x y
    united_pair r s (inl h) x y hx hy =
        one_joined r x y hx (subst (λ xs. has xs y ≡ true) (sym (same_leaves_of d b is ascends log l r s h)) hy)
    united_pair r s (inr p) x y hx hy =
        let hu = one_known r p.0 p.2 in
        let hv = one_known s p.1 p.3 in
        joined_trans d b is (e ∷ log) l x p.0 y (one_joined r x p.0 hx p.2)
        (joined_trans d b is (e ∷ log) l p.0 p.1 y (changed_joined l p.0 p.1 two low hu hv p.4 p.5) (one_joined s p.1 y p.3 hy))

    -- what a pair of places joins
    Unites : ℕ → ℕ → Type 0
    Unites i j = (x y : ℕ) → holds i x ≡ true → holds j y ≡ true → Joined d b (e ∷ log) l x y

    pair_met : (i j : ℕ) → meet pairs i j ≡ true → Unites i j
    unfolding Unites
    pair_met i j m =
        elim (met _ pairs are.given i j m) [
          | inl p ↦ (λ x y hx hy. united_pair (get_or nodes i 0) (get_or nodes j 0) p x y hx hy)
          | inr p ↦ (λ x y hx hy. joined_sym d b is (e ∷ log) l y x (united_pair (get_or nodes j 0) (get_or nodes i 0) p y x hy hx))
        ]

    walk_back : (i j : ℕ) → Leads i j → (x y : ℕ) → holds i x ≡ true → holds j y ≡ true → Joined d b (e ∷ log) l x y
    unfolding Unites
    walk_back i j w x y hx hy =
        along (meet pairs) (range_with_len 0 (length nodes)) Unites (λ i hi x y hx hy. one_joined (get_or nodes i 0) x y hx hy)
        (λ i k j hi hk m ih x y hx hy.
        let h : has (leaves d b log l (get_or nodes k 0)) (get_or nodes k 0) ≡ true = own k (below_has (length nodes) k hk) in
        joined_trans d b is (e ∷ log) l x (get_or nodes k 0) y (pair_met i k m x (get_or nodes k 0) hx h) (ih (get_or nodes k 0) y h hy)) i j w x y hx hy

    pub nodes_iff : (i j u v : ℕ) → i < length nodes → j < length nodes → holds i u ≡ true → holds j v ≡ true → Joined d b (e ∷ log) l u v ↔ Leads i j
    nodes_iff i j u v hi hj hu hv = (
      (λ k.
          let r = walk_led u v ((unite_iff l u v two low).0 k) i hi hu in
          leads_trans i r.0 j r.2 (alike r.0 j v r.1 hj r.3 hv)),
      (λ w. walk_back i j w u v hu hv),
    )

    -- the leaves of a new node are those of the nodes that the pairs join
    pub new_leaves : (i w : ℕ) → i < length nodes → IsTrue (has (leaves d b (e ∷ log) l (get_or nodes i 0)) w) ↔ Led i w
    new_leaves i w h = (
      (λ k. walk_led (get_or nodes i 0) w ((unite_iff l (get_or nodes i 0) w two low).0 ((leaves_iff d b is (e ∷ log) l (get_or nodes i 0) w two).0 k)) i h (own i h)),
      (λ p. (leaves_iff d b is (e ∷ log) l (get_or nodes i 0) w two).1 (walk_back i p.0 p.2 (get_or nodes i 0) w (own i h) p.3)),
    )

    -- the least leaf of a new node is the least of theirs
    pub new_least : (i j : ℕ) → i < length nodes → j < length nodes → Leads i j → least_leaf d b (e ∷ log) l (get_or nodes i 0) ≤ least_leaf d b log l (get_or nodes j 0)
    new_least i j hi hj w =
        let m : ℕ = least_leaf d b log l (get_or nodes j 0) in
        leaf_least d b is ascends (e ∷ log) l (get_or nodes i 0) m ((new_leaves i m hi).1 (j, hj, w, leaf_in d b is ascends log l (get_or nodes j 0) (node_known j hj)))

    pub new_least_of : (i : ℕ) → i < length nodes
        → (j : ℕ) × (j < length nodes) × Leads i j × (least_leaf d b (e ∷ log) l (get_or nodes i 0) ≡ least_leaf d b log l (get_or nodes j 0))
    new_least_of i h =
        let m : ℕ = least_leaf d b (e ∷ log) l (get_or nodes i 0) in
        let c = (new_leaves i m h).0 (leaf_in d b is ascends (e ∷ log) l (get_or nodes i 0) (node_known i h)) in
        let p = new_least i c.0 h c.1 c.2 in
        let q = leaf_least d b is ascends log l (get_or nodes c.0 0) m c.3 in
        (c.0, c.1, c.2, both m (least_leaf d b log l (get_or nodes c.0 0)) p q)
      where
        both : (x y : ℕ) → x ≤ y → y ≤ x → x ≡ y
        both x y p q = omega arith

    pub new_least_is : (i j m : ℕ) → i < length nodes → j < length nodes → Leads i j → m ≡ least_leaf d b log l (get_or nodes j 0)
        → ((k : ℕ) → k < length nodes → Leads i k → m ≤ least_leaf d b log l (get_or nodes k 0)) → least_leaf d b (e ∷ log) l (get_or nodes i 0) ≡ m
    new_least_is i j m hi hj w q f =
        let r = new_least_of i hi in
        let high = new_least i j hi hj w in
        let low = f r.0 r.1 r.2 in
        both (least_leaf d b (e ∷ log) l (get_or nodes i 0)) m (least_leaf d b log l (get_or nodes j 0)) (least_leaf d b log l (get_or nodes r.0 0)) r.3 q high low
      where
        both : (x m y z : ℕ) → x ≡ z → m ≡ y → x ≤ y → m ≤ z → x ≡ m
        both x m y z e q p r = omega arith

    -- nodes that are united lie in one chunk
    pub new_chunk : (i j : ℕ) → i < length nodes → j < length nodes → Leads i j → chunk d l (get_or nodes i 0) ≡ chunk d l (get_or nodes j 0)
    new_chunk i j hi hj w =
        (joined_known d b is (e ∷ log) l (get_or nodes i 0) (get_or nodes j 0) (walk_back i j w (get_or nodes i 0) (get_or nodes j 0) (own i hi) (own j hj))).2

    -- nodes of one component are united
    pub new_groups : (lows : List ℕ) → AreLeastMembers (length nodes) pairs lows → (i j : ℕ) → i < length nodes → j < length nodes
        → (get_or lows i 0 ≡ get_or lows j 0) ↔ IsTrue (has (leaves d b (e ∷ log) l (get_or nodes i 0)) (get_or nodes j 0))
    new_groups lows labels i j hi hj = (
      (λ q. (new_leaves i (get_or nodes j 0) hi).1 (j, hj, (lows_tell (length nodes) pairs lows labels i j hi hj).0 q, own j hj)),
      (λ h.
          let c = (new_leaves i (get_or nodes j 0) hi).0 h in
          (lows_tell (length nodes) pairs lows labels i j hi hj).1 (leads_trans i c.0 j c.2 (alike c.0 j (get_or nodes j 0) c.1 hj c.3 (own j hj)))),
    )

    -- a node is new just where one of the listed ones is in it
    pub new_made : (v : ℕ) → has b.supervoxels v ≡ true → IsTrue (touches e.changed (leaves d b (e ∷ log) l v)) ↔ ((i : ℕ) × (i < length nodes) × IsTrue (holds i v))
    new_made v hv = (
      (λ t.
          let x = touches_end e.changed (leaves d b log l v) (sym (told_before d b is e log l v hv) ∙ t) in
          let i = are.held x.0 (ends_touch e.changed x.0 ∙ x.2) in
          (i.0, i.1, next i.0 x.0 v i.2 (leaves_sym d b is log l v x.0 hv x.1))),
      (λ p. told_before d b is e log l v hv ∙ (ap (touches e.changed) (sym (one_leaves p.0 v p.2)) ∙ are.touched p.0 p.1)),
    )

    -- A leaf of a new node was that of a child with no end of a changed pair, or is one of the new child of such an end.
    abbrev Below : ℕ → ℕ → Type 0
    Below j w =
        (IsTrue (holds j w) × (touches e.changed (leaves d b log (l - 1) w) ≡ false))
        ⊎ ((x : ℕ) × IsTrue (has (ends e.changed) x) × IsTrue (holds j x) × IsTrue (has (leaves d b (e ∷ log) (l - 1) x) w))

    pub new_children : (i w : ℕ) → i < length nodes → IsTrue (has (leaves d b (e ∷ log) l (get_or nodes i 0)) w) ↔ ((j : ℕ) × (j < length nodes) × Leads i j × Below j w)
    new_children i w h = ((λ k. there k ((new_leaves i w h).0 k)), (λ p. back p.0 p.1 p.2 p.3))
      where
        r : ℕ
        r = get_or nodes i 0

        there : has (leaves d b (e ∷ log) l r) w ≡ true → Led i w → (j : ℕ) × (j < length nodes) × Leads i j × Below j w
        there k p = split (touches e.changed (leaves d b log (l - 1) w)) refl
          where
            hw : has b.supervoxels w ≡ true
            hw = one_known (get_or nodes p.0 0) w p.3

            split : (t : Bool) → touches e.changed (leaves d b log (l - 1) w) ≡ t → (j : ℕ) × (j < length nodes) × Leads i j × Below j w
            split false t = (p.0, p.1, p.2, inl (p.3, t))
            split true t =
                let x = touches_end e.changed (leaves d b (e ∷ log) (l - 1) w) (told_before d b is e log (l - 1) w hw ∙ t) in
                let j = leaves_above d b is (e ∷ log) l w x.0 two low hw x.1 in
                let n = joined_trans d b is (e ∷ log) l r w x.0 ((leaves_iff d b is (e ∷ log) l r w two).0 k) j in
                let q = (new_leaves i x.0 h).0 ((leaves_iff d b is (e ∷ log) l r x.0 two).1 n) in
                (q.0, q.1, q.2, inr (x.0, ends_touch e.changed x.0 ∙ x.2, q.3, leaves_sym d b is (e ∷ log) (l - 1) w x.0 hw x.1))

        back : (j : ℕ) → j < length nodes → Leads i j → Below j w → has (leaves d b (e ∷ log) l r) w ≡ true
        back j hj k (inl p) = (new_leaves i w h).1 (j, hj, k, p.0)
        back j hj k (inr p) =
            let x : ℕ = p.0 in
            let n = (leaves_iff d b is (e ∷ log) l r x two).0 ((new_leaves i x h).1 (j, hj, k, p.2)) in
            (leaves_iff d b is (e ∷ log) l r w two).1 (joined_trans d b is (e ∷ log) l r x w n (leaves_above d b is (e ∷ log) l x w two low (one_known (get_or nodes j 0) x p.2) p.3))

-- what unites nodes of a layer unites those of the next
pub carried : (d : Dataset) (b : Base) → IsLayout d.layout → (cs : List Changed) (log : List Entry) (l : ℕ) → 2 ≤ l → l + 1 < 2 ^ 8 → (nodes : List ℕ) (pairs : List (ℕ × ℕ))
    → AllByRecursion (λ p. IsUnited d b cs log l (get_or nodes p.0 0) (get_or nodes p.1 0)) pairs
    → AllByRecursion (λ p. IsUnited d b cs log (l + 1) (get_or nodes p.0 0) (get_or nodes p.1 0)) pairs
carried d b is cs log l two low nodes [] g = tt
carried d b is cs log l two low nodes (p ∷ ps) g = (one g.0, carried d b is cs log l two low nodes ps g.1)
  where
    up : (r x : ℕ) → has (leaves d b log l r) x ≡ true → has (leaves d b log (l + 1) r) x ≡ true
    up r x h = (leaves_iff d b is log (l + 1) r x (omega arith)).1 (nested d b is log l 1 r x (omega arith) low ((leaves_iff d b is log l r x two).0 h))

    one : IsUnited d b cs log l (get_or nodes p.0 0) (get_or nodes p.1 0) → IsUnited d b cs log (l + 1) (get_or nodes p.0 0) (get_or nodes p.1 0)
    one (inl h) = inl (up (get_or nodes p.0 0) (get_or nodes p.1 0) h)
    one (inr q) = inr (q.0, q.1, up (get_or nodes p.0 0) q.0 q.2, up (get_or nodes p.1 0) q.1 q.3, q.4, omega (arith, q.5))

-- the least leaves of the new nodes of a chunk have its next numbers
module _ (d : Dataset) (b : Base) (is : IsLayout d.layout) (ascends : IsAscending b.supervoxels) (e f : Entry) (older : List Entry) (on : HaveState true e.changed)
    (l : ℕ) (two : 2 ≤ l) (low : l < 2 ^ 8) (nodes : List ℕ) (pairs : List (ℕ × ℕ)) (are : AreUnited d b e.changed (f ∷ older) l nodes pairs) where
  new_touches : (x : ℕ) → is_new d b (e ∷ f ∷ older) l x ≡ touches e.changed (leaves d b (e ∷ f ∷ older) l x)
  unfolding is_new is_empty
  new_touches x = ap (touches e.changed) (sym (leaves_node d b is (e ∷ f ∷ older) l x two))

  abbrev Chosen : ℕ → ℕ → Type 0
  Chosen c x = (k : ℕ) × (k < length nodes) × (chunk d l (get_or nodes k 0) ≡ c) × (least_leaf d b (e ∷ f ∷ older) l (get_or nodes k 0) ≡ x)

  pub new_firsts : (c : ℕ) (lows : List ℕ) → IsAscending lows → ((x : ℕ) → IsTrue (has lows x) ↔ Chosen c x) → AreFirsts d b (e ∷ f ∷ older) l c lows
  new_firsts c lows a given = (a, λ x. ((λ h. there x ((given x).0 h)), (λ p. (given x).1 (back x p))))
    where
      there : (x : ℕ) → Chosen c x → IsTrue (has (members d b l c) x) × (least d b (e ∷ f ∷ older) l x ≡ x) × IsTrue (is_new d b (e ∷ f ∷ older) l x)
      there x p =
          let r : ℕ = get_or nodes p.0 0 in
          let hr : has b.supervoxels r ≡ true = are.known r (get_has nodes p.0 p.1) in
          let h : has (leaves d b (e ∷ f ∷ older) l r) x ≡ true = subst (λ y. has (leaves d b (e ∷ f ∷ older) l r) y ≡ true) p.3 (leaf_in d b is ascends (e ∷ f ∷ older) l r hr) in
          let k = joined_known d b is (e ∷ f ∷ older) l r x ((leaves_iff d b is (e ∷ f ∷ older) l r x two).0 h) in
          let same : least_leaf d b (e ∷ f ∷ older) l x ≡ x = sym (leaf_same d b is ascends (e ∷ f ∷ older) l r x k.1 h) ∙ p.3 in
          let q = (new_leaves d b is e (f ∷ older) on ascends l two low nodes pairs are p.0 x p.1).0 h in
          let t = (new_made d b is e (f ∷ older) on ascends l two low nodes pairs are x k.1).1 (q.0, q.1, q.3) in
          (in_members d b l c x k.1 (sym k.2 ∙ p.2), least_is d b is ascends (e ∷ f ∷ older) l x two ∙ same, new_touches x ∙ t)

      back : (x : ℕ) → IsTrue (has (members d b l c) x) × (least d b (e ∷ f ∷ older) l x ≡ x) × IsTrue (is_new d b (e ∷ f ∷ older) l x) → Chosen c x
      back x p =
          let m = members_in d b l c x p.0 in
          let n = (new_made d b is e (f ∷ older) on ascends l two low nodes pairs are x m.0).0 (sym (new_touches x) ∙ p.2) in
          let r : ℕ = get_or nodes n.0 0 in
          let old = (leaves_iff d b is (f ∷ older) l r x two).0 n.2 in
          let j = stays d b is e (f ∷ older) on l r x old in
          let k = joined_known d b is (e ∷ f ∷ older) l r x j in (
            n.0,
            n.1,
            k.2 ∙ m.1,
            leaf_same d b is ascends (e ∷ f ∷ older) l r x k.1 ((leaves_iff d b is (e ∷ f ∷ older) l r x two).1 j)
                ∙ (sym (least_is d b is ascends (e ∷ f ∷ older) l x two) ∙ p.1),
          )
