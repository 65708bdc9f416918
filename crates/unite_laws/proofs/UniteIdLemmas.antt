-- Nodes that are united, told by the ids of the ends of the changed pairs.
use Rattle.std.proofs.Common.{◌≡◌, ℕ, suc, ◌*◌, ◌+◌, ◌-◌, ◌^◌, ◌<◌, ◌≤◌, Bool, true, false, List, [], ◌∷◌, length, get_or, refl, sym, ◌∙◌, ap, subst, ◌↔◌, inl, inr, ◌⊎◌, arith, IsTrue}
use Rattle.std.specs.List.{range_with_len, AllByRecursion}
use Rattle.std.proofs.lemmas.Bool.{false≢true}
use Rattle.node_ids.specs.Ids.{IsLayout}
use Rattle.node_ids.proofs.IdLemmas.{width_low}
use Rattle.op_model.specs.declared.base.Dataset.{Dataset}
use Rattle.op_model.specs.declared.base.Base.{Base}
use Rattle.op_model.specs.declared.entry.Changed.{Changed}
use Rattle.op_model.specs.declared.entry.Entry.{Entry}
use Rattle.graph_model.specs.Lists.{has}
use Rattle.graph_model.specs.Components.{Joined as JoinedBy}
use Rattle.op_model.specs.Valid.{IsAscending}
use Rattle.op_model.specs.Chunks.{chunk, layers}
use Rattle.op_model.specs.Labels.{touches, label, node, Joined}
use Rattle.op_model.specs.Operations.{ends}
use Rattle.op_model.specs.Legal.{Legal}
use Rattle.op_model.proofs.LabelLemmas.{joined_label}
use Rattle.op_model.proofs.NodeLemmas.{node_joined}
use Rattle.op_model.proofs.LegalLemmas.{labels_fit}
use Rattle.graph_model.proofs.ListLemmas.{has_head, has_tail, has_cases, has_none}
use Rattle.components.specs.Joining.{meet}
use Rattle.layer_laws.specs.Levels.{level, leaves}
use Rattle.unite_laws.specs.Uniting.{HaveState, is_changed, IsUnited, AreUnited, IsUnitedIds, AreUnitedIds}
use Rattle.layer_laws.proofs.StepLemmas.{nested, joined_known, leaves_iff, leaves_self}
use Rattle.layer_laws.proofs.OrderLemmas.{get_has}
use Rattle.layer_laws.proofs.PlaceLemmas.{index_of, index_at}
use Rattle.layer_laws.proofs.RiseLemmas.{joins_cases}
use Rattle.layer_laws.proofs.RemakeLemmas.{touches_more, touches_end, ends_touch, same_node}
use Rattle.unite_laws.proofs.UniteLemmas.{find_changed, new_leaves, new_children}

-- the ends of known pairs are known
pub known_end : (all : List ℕ) (cs : List Changed) → AllByRecursion (λ c. IsTrue (has all c.pair.a) × IsTrue (has all c.pair.b)) cs → (v : ℕ) → has (ends cs) v ≡ true → has all v ≡ true
unfolding ends
known_end all [] known v h = has_none v h
known_end all (c ∷ cs) known v h =
    elim (has_cases c.pair.a (c.pair.b ∷ ends cs) v h) [
      | inl e ↦ subst (λ x. has all x ≡ true) e known.0.0
      | inr g ↦ elim (has_cases c.pair.b (ends cs) v g) [
        | inl e ↦ subst (λ x. has all x ≡ true) e known.0.1
        | inr k ↦ known_end all cs known.1 v k
      ]
    ]

-- the nodes of two supervoxels have one id just where they are joined
pub ids_joined : (d : Dataset) (b : Base) → IsLayout d.layout → (log : List Entry) → Legal d b log → (l u v : ℕ) → has (layers d) l ≡ true → has b.supervoxels u ≡ true → has b.supervoxels v ≡ true
    → (node d b log l u ≡ node d b log l v) ↔ Joined d b log l u v
ids_joined d b is [] legal l u v hl hu hv = absurd legal
ids_joined d b is (f ∷ log) legal l u v hl hu hv =
    let p = node_joined d b f log l u v (width_low d.layout is.3 l) hu hv (labels_fit d b (f ∷ log) l u legal hl hu) (labels_fit d b (f ∷ log) l v legal hl hv) in (
      (λ q. (p.0 q).1),
      (λ j. p.1 ((joined_known d b is (f ∷ log) l u v j).2, j)),
    )

ends_all : (cs part : List Changed) → ((x : ℕ) → has (ends part) x ≡ true → has (ends cs) x ≡ true) → AllByRecursion (λ c. (has (ends cs) c.pair.a ≡ true) × (has (ends cs) c.pair.b ≡ true)) part
unfolding ends
ends_all cs [] f = tt
ends_all cs (c ∷ part) f = (
  (f c.pair.a (has_head c.pair.a (c.pair.b ∷ ends part)), f c.pair.b (has_tail c.pair.a (c.pair.b ∷ ends part) c.pair.b (has_head c.pair.b (ends part)))),
  ends_all cs part (λ x h. f x (has_tail c.pair.a (c.pair.b ∷ ends part) x (has_tail c.pair.b (ends part) x h))),
)

-- the ends of a changed pair are among the ends
change_ends : (cs : List Changed) (u v : ℕ) → AllByRecursion (λ c. (has (ends cs) c.pair.a ≡ true) × (has (ends cs) c.pair.b ≡ true)) cs → is_changed cs u v ≡ true → (has (ends cs) u ≡ true) × (has (ends cs) v ≡ true)
change_ends cs u v all h =
    let f = find_changed (λ c. (has (ends cs) c.pair.a ≡ true) × (has (ends cs) c.pair.b ≡ true)) cs u v all h in
    elim (joins_cases f.0.pair u v f.2) [
      | inl s ↦ (subst (λ x. has (ends cs) x ≡ true) s.0 f.1.0, subst (λ x. has (ends cs) x ≡ true) s.1 f.1.1)
      | inr s ↦ (subst (λ x. has (ends cs) x ≡ true) s.1 f.1.1, subst (λ x. has (ends cs) x ≡ true) s.0 f.1.0)
    ]

module _ (d : Dataset) (b : Base) (is : IsLayout d.layout) (log : List Entry) (legal : Legal d b log) (l : ℕ) (hl : has (layers d) l ≡ true) (two : 2 ≤ l)
    (cs : List Changed) (known : AllByRecursion (λ c. IsTrue (has b.supervoxels c.pair.a) × IsTrue (has b.supervoxels c.pair.b)) cs) where
  end_known : (x : ℕ) → has (ends cs) x ≡ true → has b.supervoxels x ≡ true
  end_known x h = known_end b.supervoxels cs known x h

  -- one id is one list of leaves
  pub id_leaf : (u v : ℕ) → has b.supervoxels u ≡ true → has b.supervoxels v ≡ true → node d b log l u ≡ node d b log l v → has (leaves d b log l u) v ≡ true
  id_leaf u v hu hv q = (leaves_iff d b is log l u v two).1 ((ids_joined d b is log legal l u v hl hu hv).0 q)

  pub leaf_id : (u v : ℕ) → has b.supervoxels u ≡ true → has b.supervoxels v ≡ true → has (leaves d b log l u) v ≡ true → node d b log l u ≡ node d b log l v
  leaf_id u v hu hv h = (ids_joined d b is log legal l u v hl hu hv).1 ((leaves_iff d b is log l u v two).0 h)

  -- an end in a list touches it
  end_touches : (x : ℕ) (xs : List ℕ) → has (ends cs) x ≡ true → has xs x ≡ true → touches cs xs ≡ true
  end_touches x xs h k = touches_more cs (x ∷ []) xs (λ y g. elim (has_cases x [] y g) [ inl q ↦ subst (λ z. has xs z ≡ true) q k | inr n ↦ has_none y n ]) (sym (ends_touch cs x) ∙ h)

  -- a node has an end just where the end's node has its id
  pub touched_id : (w : ℕ) → has b.supervoxels w ≡ true → touches cs (leaves d b log l w) ≡ true → (x : ℕ) × IsTrue (has (ends cs) x) × (node d b log l x ≡ node d b log l w)
  touched_id w hw t =
      let x = touches_end cs (leaves d b log l w) t in
      let h : has (ends cs) x.0 ≡ true = ends_touch cs x.0 ∙ x.2 in
      (x.0, h, sym (leaf_id w x.0 hw (end_known x.0 h) x.1))

  pub id_touched : (w x : ℕ) → has b.supervoxels w ≡ true → has (ends cs) x ≡ true → node d b log l x ≡ node d b log l w → touches cs (leaves d b log l w) ≡ true
  id_touched w x hw h q = end_touches x (leaves d b log l w) h (id_leaf w x hw (end_known x h) (sym q))

  module _ (nodes : List ℕ) (pairs : List (ℕ × ℕ)) (are : AreUnitedIds d b cs log l nodes pairs) where
    rep_known : (i : ℕ) → i < length nodes → has b.supervoxels (get_or nodes i 0) ≡ true
    rep_known i h = end_known (get_or nodes i 0) (are.ended i h)

    rep_leaf : (i x : ℕ) → i < length nodes → has b.supervoxels x ≡ true → node d b log l (get_or nodes i 0) ≡ node d b log l x → has (leaves d b log l (get_or nodes i 0)) x ≡ true
    rep_leaf i x hi hx q = id_leaf (get_or nodes i 0) x (rep_known i hi) hx q

    given : (ps : List (ℕ × ℕ)) → AllByRecursion (λ p. IsUnitedIds d b cs log l nodes p.0 p.1) ps → AllByRecursion (λ p. IsUnited d b cs log l (get_or nodes p.0 0) (get_or nodes p.1 0)) ps
    given [] g = tt
    given (p ∷ ps) g =
        let m = g.0 in (
          elim m.2 [
            | inl h ↦ inl (rep_leaf p.0 (get_or nodes p.1 0) m.0 (rep_known p.1 m.1) h)
            | inr q ↦
                let k = change_ends cs q.0 q.1 (ends_all cs cs (λ x h. h)) q.4 in
                inr (q.0, q.1, rep_leaf p.0 q.0 m.0 (end_known q.0 k.0) q.2, rep_leaf p.1 q.1 m.1 (end_known q.1 k.1) q.3, q.4, q.5)
          ],
          given ps g.1,
        )

    all : (part : List Changed) → AllByRecursion (λ c. IsTrue (has b.supervoxels c.pair.a) × IsTrue (has b.supervoxels c.pair.b)) part
        → AllByRecursion
        (λ c. level d c.pair.a c.pair.b ≤ l
        → (i j : ℕ) × (i < length nodes) × (j < length nodes) × (node d b log l (get_or nodes i 0) ≡ node d b log l c.pair.a)
        × (node d b log l (get_or nodes j 0) ≡ node d b log l c.pair.b) × IsTrue (meet pairs i j)) part
        → AllByRecursion
        (λ c. level d c.pair.a c.pair.b ≤ l
        → (i j : ℕ) × (i < length nodes) × (j < length nodes) × IsTrue (has (leaves d b log l (get_or nodes i 0)) c.pair.a)
        × IsTrue (has (leaves d b log l (get_or nodes j 0)) c.pair.b) × IsTrue (meet pairs i j)) part
    all [] k g = tt
    all (c ∷ part) k g = (
      (λ m. let q = g.0 m in (q.0, q.1, q.2, q.3, rep_leaf q.0 c.pair.a q.2 k.0.0 q.4, rep_leaf q.1 c.pair.b q.3 k.0.1 q.5, q.6)),
      all part k.1 g.1,
    )

    pub told_by_ids : AreUnited d b cs log l nodes pairs
    told_by_ids = record {
      known = λ r h. let p = index_at nodes r h in subst (λ x. has b.supervoxels x ≡ true) p.1 (rep_known (index_of nodes r) p.0);
      same = λ i j hi hj h. are.same i j hi hj (leaf_id (get_or nodes i 0) (get_or nodes j 0) (rep_known i hi) (rep_known j hj) h);
      touched = λ i h.
          end_touches (get_or nodes i 0) (leaves d b log l (get_or nodes i 0)) (are.ended i h) (leaves_self d b is log l (get_or nodes i 0) (rep_known i h));
      held = λ x h. let p = are.held x h in (p.0, p.1, rep_leaf p.0 x p.1 (end_known x h) p.2);
      given = given pairs are.given;
      all = all cs known are.all;
    }

module _ (d : Dataset) (b : Base) (is : IsLayout d.layout) (ascends : IsAscending b.supervoxels) (e f : Entry) (older : List Entry) (on : HaveState true e.changed) (legal : Legal d b (f ∷ older))
    (l : ℕ) (hl : has (layers d) (l - 1) ≡ true) (three : 3 ≤ l) (low : l < 2 ^ 8) (known : AllByRecursion (λ c. IsTrue (has b.supervoxels c.pair.a) × IsTrue (has b.supervoxels c.pair.b)) e.changed)
    (nodes : List ℕ) (pairs : List (ℕ × ℕ)) (are : AreUnited d b e.changed (f ∷ older) l nodes pairs) where
  down : 2 ≤ l - 1
  down = omega arith

  two : 2 ≤ l
  two = omega arith

  -- leaves of one node have its id
  one_id : (u v : ℕ) → has (leaves d b (e ∷ f ∷ older) (l - 1) u) v ≡ true → node d b (e ∷ f ∷ older) (l - 1) u ≡ node d b (e ∷ f ∷ older) (l - 1) v
  unfolding node
  one_id u v h =
      let j = (leaves_iff d b is (e ∷ f ∷ older) (l - 1) u v down).0 h in
      let k = joined_known d b is (e ∷ f ∷ older) (l - 1) u v j in
      ap (λ c. c + label d b (e ∷ f ∷ older) (l - 1) u) k.2
      ∙ ap (λ x. chunk d (l - 1) v + x) (joined_label d b e (f ∷ older) (l - 1) u v k.0 k.1 k.2 j)

  abbrev Leads : ℕ → ℕ → Type 0
  Leads i j = JoinedBy (meet pairs) (range_with_len 0 (length nodes)) i j

  abbrev Old : ℕ → ℕ → Type 0
  Old j id =
      (w : ℕ) × IsTrue (has (leaves d b (f ∷ older) l (get_or nodes j 0)) w) × (node d b (f ∷ older) (l - 1) w ≡ id)
      × ((x : ℕ) → IsTrue (has (ends e.changed) x) → node d b (f ∷ older) (l - 1) x ≡ id → ⊥)

  abbrev New : ℕ → ℕ → Type 0
  New j id = (x : ℕ) × IsTrue (has (ends e.changed) x) × IsTrue (has (leaves d b (f ∷ older) l (get_or nodes j 0)) x) × (node d b (e ∷ f ∷ older) (l - 1) x ≡ id)

  abbrev Child : ℕ → ℕ → Type 0
  Child i id = (w : ℕ) × IsTrue (has (leaves d b (e ∷ f ∷ older) l (get_or nodes i 0)) w) × (node d b (e ∷ f ∷ older) (l - 1) w ≡ id)

  leaf_known : (j w : ℕ) → has (leaves d b (f ∷ older) l (get_or nodes j 0)) w ≡ true → has b.supervoxels w ≡ true
  leaf_known j w h = (joined_known d b is (f ∷ older) l (get_or nodes j 0) w ((leaves_iff d b is (f ∷ older) l (get_or nodes j 0) w two).0 h)).1

  -- a node that no end is in keeps its id
  kept_id : (w : ℕ) → has b.supervoxels w ≡ true → touches e.changed (leaves d b (f ∷ older) (l - 1) w) ≡ false → node d b (e ∷ f ∷ older) (l - 1) w ≡ node d b (f ∷ older) (l - 1) w
  kept_id w hw t = same_node d b is e f older (l - 1) w down hw t

  untouched : (w : ℕ) → has b.supervoxels w ≡ true → ((x : ℕ) → IsTrue (has (ends e.changed) x) → node d b (f ∷ older) (l - 1) x ≡ node d b (f ∷ older) (l - 1) w → ⊥)
      → touches e.changed (leaves d b (f ∷ older) (l - 1) w) ≡ false
  untouched w hw none = split (touches e.changed (leaves d b (f ∷ older) (l - 1) w)) refl
    where
      split : (t : Bool) → touches e.changed (leaves d b (f ∷ older) (l - 1) w) ≡ t → touches e.changed (leaves d b (f ∷ older) (l - 1) w) ≡ false
      split false t = t
      split true t = let x = touched_id d b is (f ∷ older) legal (l - 1) hl down e.changed known w hw t in absurd (none x.0 x.1 x.2)

  -- the ids of a new node's children are the old ones that no end is in, and those of the new children of the ends
  pub child_ids : (i id : ℕ) → i < length nodes → Child i id ↔ ((j : ℕ) × (j < length nodes) × Leads i j × (Old j id ⊎ New j id))
  child_ids i id h = (there, back)
    where
      there : Child i id → (j : ℕ) × (j < length nodes) × Leads i j × (Old j id ⊎ New j id)
      there p =
          let w : ℕ = p.0 in
          let c = (new_children d b is e (f ∷ older) on ascends l two low nodes pairs are i w h).0 p.1 in
          elim c.3 [
            | inl q ↦
                let hw = leaf_known c.0 w q.0 in
                let same : node d b (f ∷ older) (l - 1) w ≡ id = sym (kept_id w hw q.1) ∙ p.2 in
                (c.0, c.1, c.2, inl (w, q.0, same, λ x hx s. false≢true (sym q.1 ∙ id_touched d b is (f ∷ older) legal (l - 1) hl down e.changed known w x hw hx (s ∙ sym same))))
            | inr q ↦ (c.0, c.1, c.2, inr (q.0, q.1, q.2, one_id q.0 w q.3 ∙ p.2))
          ]

      back : (j : ℕ) × (j < length nodes) × Leads i j × (Old j id ⊎ New j id) → Child i id
      back p =
          elim p.3 [
            | inl q ↦
                let hw = leaf_known p.0 q.0 q.1 in
                let t = untouched q.0 hw (λ x hx s. q.3 x hx (s ∙ q.2)) in
                (q.0, (new_leaves d b is e (f ∷ older) on ascends l two low nodes pairs are i q.0 h).1 (p.0, p.1, p.2, q.1), kept_id q.0 hw t ∙ q.2)
            | inr q ↦ (q.0, (new_leaves d b is e (f ∷ older) on ascends l two low nodes pairs are i q.0 h).1 (p.0, p.1, p.2, q.2), q.3)
          ]

-- supervoxels of one node have one parent
module _ (d : Dataset) (b : Base) (is : IsLayout d.layout) (log : List Entry) (legal : Legal d b log) (l : ℕ) (hl : has (layers d) l ≡ true) (hm : has (layers d) (l + 1) ≡ true)
    (two : 2 ≤ l) (low : l + 1 < 2 ^ 8) where
  pub ids_rise : (u v : ℕ) → has b.supervoxels u ≡ true → has b.supervoxels v ≡ true → node d b log l u ≡ node d b log l v → node d b log (l + 1) u ≡ node d b log (l + 1) v
  ids_rise u v hu hv q =
      (ids_joined d b is log legal (l + 1) u v hm hu hv).1 (nested d b is log l 1 u v (omega arith) low ((ids_joined d b is log legal l u v hl hu hv).0 q))

  module _ (cs : List Changed) (known : AllByRecursion (λ c. IsTrue (has b.supervoxels c.pair.a) × IsTrue (has b.supervoxels c.pair.b)) cs) (nodes : List ℕ)
      (ended : (i : ℕ) → i < length nodes → IsTrue (has (ends cs) (get_or nodes i 0))) where
    known_at : (i : ℕ) → i < length nodes → has b.supervoxels (get_or nodes i 0) ≡ true
    known_at i h = known_end b.supervoxels cs known (get_or nodes i 0) (ended i h)

    carried_one : (i j : ℕ) → IsUnitedIds d b cs log l nodes i j → IsUnitedIds d b cs log (l + 1) nodes i j
    carried_one i j m = (
      m.0,
      m.1,
      elim m.2 [
        | inl q ↦ inl (ids_rise (get_or nodes i 0) (get_or nodes j 0) (known_at i m.0) (known_at j m.1) q)
        | inr q ↦
            let k = change_ends cs q.0 q.1 (ends_all cs cs (λ x h. h)) q.4 in
            let hu = known_end b.supervoxels cs known q.0 k.0 in
            let hv = known_end b.supervoxels cs known q.1 k.1 in
            inr (q.0, q.1, ids_rise (get_or nodes i 0) q.0 (known_at i m.0) hu q.2, ids_rise (get_or nodes j 0) q.1 (known_at j m.1) hv q.3, q.4, omega (arith, q.5))
      ],
    )

    pub carried_ids : (pairs : List (ℕ × ℕ)) → AllByRecursion (λ p. IsUnitedIds d b cs log l nodes p.0 p.1) pairs → AllByRecursion (λ p. IsUnitedIds d b cs log (l + 1) nodes p.0 p.1) pairs
    carried_ids [] g = tt
    carried_ids (p ∷ ps) g = (carried_one p.0 p.1 g.0, carried_ids ps g.1)

-- the ends themselves tell the nodes
module _ (d : Dataset) (b : Base) (log : List Entry) (l : ℕ) (cs : List Changed) (pairs : List (ℕ × ℕ)) where
  abbrev xs : List ℕ
  xs = ends cs

  abbrev Found : Changed → Type 0
  Found c =
      level d c.pair.a c.pair.b ≤ l
      → (i j : ℕ) × (i < length xs) × (j < length xs) × (node d b log l (get_or xs i 0) ≡ node d b log l c.pair.a) × (node d b log l (get_or xs j 0) ≡ node d b log l c.pair.b)
      × IsTrue (meet pairs i j)

  pairs_found : (part : List Changed) (p : ℕ) → ((i : ℕ) → i < length (ends part) → (p + i < length xs) × (get_or xs (p + i) 0 ≡ get_or (ends part) i 0))
      → ((k : ℕ) → k < length part → level d (get_or xs (p + 2 * k) 0) (get_or xs (p + 2 * k + 1) 0) ≤ l → IsTrue (meet pairs (p + 2 * k) (p + 2 * k + 1))) → AllByRecursion Found part
  unfolding ends
  pairs_found [] p off f = tt
  pairs_found (c ∷ part) p off f =
      let a = off 0 (omega arith) in
      let o = off 1 (omega arith) in
      let ea : get_or xs (p + 0) 0 ≡ c.pair.a = a.1 in
      let eb : get_or xs (p + 1) 0 ≡ c.pair.b = o.1 in
      ((λ m. (p + 0, p + 1, a.0, o.0, ap (node d b log l) ea, ap (node d b log l) eb, first ea eb m)), pairs_found part (p + 2) later rest)
    where
      first : get_or xs (p + 0) 0 ≡ c.pair.a → get_or xs (p + 1) 0 ≡ c.pair.b → level d c.pair.a c.pair.b ≤ l → IsTrue (meet pairs (p + 0) (p + 1))
      first ea eb m =
          let z : p + 2 * 0 ≡ p + 0 = omega arith in
          let o : p + 2 * 0 + 1 ≡ p + 1 = omega arith in
          let m1 : level d (get_or xs (p + 0) 0) (get_or xs (p + 1) 0) ≤ l = subst (λ x. level d x (get_or xs (p + 1) 0) ≤ l) (sym ea) (subst (λ y. level d c.pair.a y ≤ l) (sym eb) m) in
          let m2 : level d (get_or xs (p + 2 * 0) 0) (get_or xs (p + 2 * 0 + 1) 0) ≤ l =
          subst (λ i. level d (get_or xs i 0) (get_or xs (p + 2 * 0 + 1) 0) ≤ l) (sym z) (subst (λ j. level d (get_or xs (p + 0) 0) (get_or xs j 0) ≤ l) (sym o) m1) in
          let r : IsTrue (meet pairs (p + 2 * 0) (p + 2 * 0 + 1)) = f 0 (omega arith) m2 in
          subst (λ i. IsTrue (meet pairs i (p + 1))) z (subst (λ j. IsTrue (meet pairs (p + 2 * 0) j)) o r)

      later : (i : ℕ) → i < length (ends part) → (p + 2 + i < length xs) × (get_or xs (p + 2 + i) 0 ≡ get_or (ends part) i 0)
      later i h =
          let q = off (suc (suc i)) (omega arith) in
          let e : p + suc (suc i) ≡ p + 2 + i = omega arith in
          (subst (λ k. k < length xs) e q.0, subst (λ k. get_or xs k 0 ≡ get_or (ends part) i 0) e q.1)

      rest : (k : ℕ) → k < length part → level d (get_or xs (p + 2 + 2 * k) 0) (get_or xs (p + 2 + 2 * k + 1) 0) ≤ l → IsTrue (meet pairs (p + 2 + 2 * k) (p + 2 + 2 * k + 1))
      rest k h m =
          let z : p + 2 * suc k ≡ p + 2 + 2 * k = omega arith in
          subst (λ i. level d (get_or xs i 0) (get_or xs (i + 1) 0) ≤ l → IsTrue (meet pairs i (i + 1))) z (f (suc k) (omega arith)) m

  pub from_ends : ((i j : ℕ) → i < length xs → j < length xs → node d b log l (get_or xs i 0) ≡ node d b log l (get_or xs j 0) → JoinedBy (meet pairs) (range_with_len 0 (length xs)) i j)
      → AllByRecursion (λ p. IsUnitedIds d b cs log l xs p.0 p.1) pairs
      → ((k : ℕ) → k < length cs → level d (get_or xs (2 * k) 0) (get_or xs (2 * k + 1) 0) ≤ l → IsTrue (meet pairs (2 * k) (2 * k + 1)))
      → AreUnitedIds d b cs log l xs pairs
  from_ends same made f = record {
    ended = λ i h. get_has xs i h;
    held = λ x h. let p = index_at xs x h in (index_of xs x, p.0, ap (node d b log l) p.1);
    same = same;
    given = made;
    all = pairs_found cs 0 (λ i h. none i h) (λ k h m. start k h m);
  }
    where
      none : (i : ℕ) → i < length xs → (0 + i < length xs) × (get_or xs (0 + i) 0 ≡ get_or xs i 0)
      none i h =
          let e : i ≡ 0 + i = omega arith in
          (subst (λ k. k < length xs) e h, subst (λ k. get_or xs k 0 ≡ get_or xs i 0) e refl)

      start : (k : ℕ) → k < length cs → level d (get_or xs (0 + 2 * k) 0) (get_or xs (0 + 2 * k + 1) 0) ≤ l → IsTrue (meet pairs (0 + 2 * k) (0 + 2 * k + 1))
      start k h m =
          let e : 2 * k ≡ 0 + 2 * k = omega arith in
          subst (λ i. level d (get_or xs i 0) (get_or xs (i + 1) 0) ≤ l → IsTrue (meet pairs i (i + 1))) e (f k h) m
