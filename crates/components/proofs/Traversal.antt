-- One step of a traversal after the other.
use Rattle.std.proofs.Common.{◌≡◌, ◌≢◌, ◌==◌, ℕ, zero, suc, ◌+◌, ◌<◌, ◌≤◌, ◌||◌, true, false, cond, List, [], ◌∷◌, ◌++◌, length, nat_eq, get_or, set, sym, refl, ap, ◌∙◌, subst, inl, inr, ◌⊎◌, arith, le_refl, length-set, length-append, eq-or-lt_of_le, eq-eqb, ne_eqb, eqb-true}
use Rattle.std.specs.List.{count_by}
use Rattle.std.proofs.lemmas.List.Sums.{sum_by-cons}
use Rattle.std.proofs.lemmas.List.{get_or-set_same, get_or-set_other}
use Rattle.std.proofs.lemmas.Bool.{cases_Bool, cases_eq, cases_lt, or_cases, false≢true}
use Rattle.graph_model.specs.Lists.{has}
use Rattle.graph_model.specs.Walks.{Reaches}
use Rattle.std.proofs.Math.Bool.{or-true}
use Rattle.graph_model.proofs.Computed.{has_append}
use Rattle.graph_model.proofs.ListLemmas.{has_none}
use Rattle.graph_model.proofs.Walks.{reach_one, reach_more}
use Rattle.components.specs.Joining.{meet}
use Rattle.components.specs.Chains.{pair, touches, other, last_at}
use Rattle.components.specs.Spreading.{Met, IsSpread, AreTaken, Visits, work}
use Rattle.components.proofs.Least.{has_below, meet_place, meet_back, meet_at}
use Rattle.components.proofs.Chained.{last_none, last_below, last_touches, other_met}

-- whether v waits behind the others
behind : (waiting : List ℕ) (u v : ℕ) → has (waiting ++ (u ∷ [])) v ≡ (has waiting v || (u == v || false))
behind waiting u v = has_append waiting (u ∷ []) v

waits_still : (waiting : List ℕ) (u v : ℕ) → has waiting v ≡ true → has (waiting ++ (u ∷ [])) v ≡ true
waits_still waiting u v h = behind waiting u v ∙ rw h refl

waits_last : (waiting : List ℕ) (u : ℕ) → has (waiting ++ (u ∷ [])) u ≡ true
waits_last waiting u = let h = eq-eqb u u refl in behind waiting u u ∙ rw h (or-true _)

waits_cases : (waiting : List ℕ) (u v : ℕ) → has (waiting ++ (u ∷ [])) v ≡ true → (has waiting v ≡ true) ⊎ (u ≡ v)
waits_cases waiting u v h = elim (or_cases _ _ (sym (behind waiting u v) ∙ h)) [
  | inl t ↦ inl t
  | inr t ↦ elim (or_cases _ _ t) [ inl e ↦ inr (eqb-true _ _ e) | inr f ↦ absurd (false≢true f) ]
]

waits_not : (waiting : List ℕ) (u v : ℕ) → has (waiting ++ (u ∷ [])) v ≡ false → (has waiting v ≡ false) × (u ≢ v)
waits_not waiting u v h = (
  elim (cases_Bool (has waiting v)) [ inl t ↦ absurd (false≢true (sym h ∙ waits_still waiting u v t)) | inr f ↦ f ],
  λ e. false≢true (sym h ∙ subst (λ w. has (waiting ++ (u ∷ [])) w ≡ true) e (waits_last waiting u)),
)

not_waiting : (waiting : List ℕ) (u v : ℕ) → has waiting v ≡ false → u ≢ v → has (waiting ++ (u ∷ [])) v ≡ false
not_waiting waiting u v h n = let e = ne_eqb _ _ n in behind waiting u v ∙ rw (h, e) refl

-- a label more is a vertex without one less
count_set : (n v r : ℕ) (labels : List ℕ) → v < length labels → get_or labels v 0 ≡ n → r ≢ n → count_by (λ l. nat_eq l n) (set labels v r) + 1 ≡ count_by (λ l. nat_eq l n) labels
count_set n v r [] l e m = absurd (omega arith)
count_set n zero r (x ∷ xs) l e m =
    let a = sum_by-cons (λ (l : ℕ). cond (nat_eq l n) 1 0) r xs in
    let b = sum_by-cons (λ (l : ℕ). cond (nat_eq l n) 1 0) x xs in
    let t : nat_eq x n ≡ true = eq-eqb x n e in
    let f : nat_eq r n ≡ false = ne_eqb r n m in
    let c : ◌≡◌ {A = ℕ} (cond (nat_eq x n) 1 0) 1 = rw t refl in
    let d : ◌≡◌ {A = ℕ} (cond (nat_eq r n) 1 0) 0 = rw f refl in
    omega (arith, a, b, c, d)
count_set n (suc v) r (x ∷ xs) l e m =
    let a = sum_by-cons (λ (l : ℕ). cond (nat_eq l n) 1 0) x (set xs v r) in
    let b = sum_by-cons (λ (l : ℕ). cond (nat_eq l n) 1 0) x xs in
    let i = count_set n v r xs (omega arith) e m in
    omega arith

module _ (n : ℕ) (pairs : List (ℕ × ℕ)) (root busy v : ℕ) (labels new waiting more : List ℕ) (lr : root < n) (lv : v < n) where
  pub visited_kept : length labels ≡ n → Visits n root v labels new waiting more → (w : ℕ) → get_or labels w 0 ≢ n → get_or new w 0 ≡ get_or labels w 0
  visited_kept c (inl (m, e, g)) w h = ap (λ ls. get_or ls w 0) e
  visited_kept c (inr (m, e, g)) w h = ap (λ ls. get_or ls w 0) e ∙ get_or-set_other labels v w root 0 (λ s. h (ap (λ i. get_or labels i 0) s ∙ m))

  pub visited_work : length labels ≡ n → Visits n root v labels new waiting more → work n new more ≤ work n labels waiting
  visited_work c (inl (m, e, g)) = rw (e, g) (le_refl _)
  visited_work c (inr (m, e, g)) =
      let a = count_set n v root labels (omega arith) m (λ s. absurd (omega arith)) in
      let b : length (waiting ++ (v ∷ [])) ≡ length waiting + 1 = length-append waiting (v ∷ []) in
      rw (e, g) (omega arith)

  pub visited : IsSpread n pairs root busy labels waiting → Reaches (Met n pairs) v root → Visits n root v labels new waiting more → IsSpread n pairs root busy new more
  visited i r (inl (m, e, g)) = subst (λ ls. IsSpread n pairs root busy ls more) (sym e) (subst (λ s. IsSpread n pairs root busy labels s) (sym g) i)
  visited i r (inr (m, e, g)) =
      let c = i.count in
      let same : (w : ℕ) → w ≢ v → get_or (set labels v root) w 0 ≡ get_or labels w 0 = λ w d. get_or-set_other labels v w root 0 d in
      let own : get_or (set labels v root) v 0 ≡ root = get_or-set_same labels v root 0 (omega arith) in
      let up : root ≤ v = elim (cases_lt v root) [ inl b ↦ absurd (i.below v b m) | inr b ↦ b ] in
      let apart : (w : ℕ) → get_or labels w 0 ≢ n → w ≢ v = λ w h s. h (ap (λ j. get_or labels j 0) s ∙ m) in
      subst (λ ls. IsSpread n pairs root busy ls more) (sym e) (subst (λ s. IsSpread n pairs root busy (set labels v root) s) (sym g) (record {
        count = length-set labels v root ∙ c;
        below = λ w b h. i.below w b (sym (same w (apart w (i.below w b))) ∙ h);
        low = λ w l h. elim (cases_eq w v) [
          | inl s ↦ let a : get_or (set labels v root) w 0 ≡ root = ap (λ j. get_or (set labels v root) j 0) s ∙ own in omega arith
          | inr d ↦ let a = same w d in let b = i.low w l (λ t. h (a ∙ t)) in omega arith
        ];
        met = λ w l h. elim (cases_eq w v) [
          | inl s ↦ let a : get_or (set labels v root) w 0 ≡ root = ap (λ j. get_or (set labels v root) j 0) s ∙ own in
              subst (λ j. Reaches (Met n pairs) w j) (sym a) (subst (λ j. Reaches (Met n pairs) j root) (sym s) r)
          | inr d ↦ let a = same w d in subst (λ j. Reaches (Met n pairs) w j) (sym a) (i.met w l (λ t. h (a ∙ t)))
        ];
        waits = λ w h. elim (waits_cases waiting v w h) [
          | inl t ↦ let o = i.waits w t in (o.0, same w (apart w (λ s. absurd (let q = o.1 in omega arith))) ∙ o.1)
          | inr s ↦ (subst (λ j. j < n) s lv, subst (λ j. get_or (set labels v root) j 0 ≡ root) s own)
        ];
        closed = λ w x l h o d b t.
            let p = waits_not waiting v w o in
            let a = same w (λ s. p.1 (sym s)) in
            let k : get_or labels w 0 ≢ n = λ z. h (a ∙ z) in
            let y = i.closed w x l k p.0 d b t in
            same x (apart x (λ z. k (sym y ∙ z))) ∙ (y ∙ sym a);
      }))

  -- a neighbour of the busy vertex that was visited has the root's label
  pub visited_label : IsSpread n pairs root busy labels waiting → busy < n → get_or labels busy 0 ≡ root → meet pairs v busy ≡ true →
      Visits n root v labels new waiting more → get_or new v 0 ≡ root
  visited_label i lb own t (inr (m, e, g)) = let c = i.count in ap (λ ls. get_or ls v 0) e ∙ get_or-set_same labels v root 0 (omega arith)
  visited_label i lb own t (inl (m, e, g)) = ap (λ ls. get_or ls v 0) e ∙ elim (cases_eq v busy) [
    | inl s ↦ ap (λ j. get_or labels j 0) s ∙ own
    | inr d ↦ elim (cases_Bool (has waiting v)) [
      | inl h ↦ (i.waits v h).1
      | inr h ↦ sym (i.closed v busy lv m h d lb t) ∙ own
    ]
  ]

module _ (n : ℕ) (pairs : List (ℕ × ℕ)) (root u : ℕ) (labels waiting : List ℕ) where
  -- one that waited is taken
  pub popped : IsSpread n pairs root n labels (waiting ++ (u ∷ [])) → (u < n) × (get_or labels u 0 ≡ root) × IsSpread n pairs root u labels waiting
  popped i = let o = i.waits u (waits_last waiting u) in (
    o.0,
    o.1,
    record {
      count = i.count;
      below = i.below;
      low = i.low;
      met = i.met;
      waits = λ w h. i.waits w (waits_still waiting u w h);
      closed = λ w x l h o d b t. i.closed w x l h (not_waiting waiting u w o (λ s. d (sym s))) (λ s. absurd (omega arith)) b t;
    },
  )

  -- its pairs are taken
  pub taken : IsSpread n pairs root u labels waiting → get_or labels u 0 ≡ root → AreTaken pairs root u 0 labels → IsSpread n pairs root n labels waiting
  taken i own a = record {
    count = i.count;
    below = i.below;
    low = i.low;
    met = i.met;
    waits = i.waits;
    closed = λ w x l h o d b t. elim (cases_eq w u) [
      | inr m ↦ i.closed w x l h o m b t
      | inl s ↦
          let (k, lk, e) = meet_place pairs w x t in
          let p = other_met pairs w x k e in
          let q : touches pairs k u ≡ true = subst (λ j. touches pairs k j ≡ true) s p.0 in
          let r : other pairs k u ≡ x = subst (λ j. other pairs k j ≡ x) s p.1 in
          subst (λ j. get_or labels j 0 ≡ get_or labels w 0) r (a k (omega arith) lk q ∙ sym (ap (λ j. get_or labels j 0) s ∙ own))
    ];
  }

  -- the next vertex
  pub risen : IsSpread n pairs root n labels [] → get_or labels root 0 ≢ n → IsSpread n pairs (root + 1) n labels []
  risen i h = record {
    count = i.count;
    below = λ w b. let c : w ≤ root = omega arith in elim (eq-or-lt_of_le c) [
      | inl s ↦ λ z. h (ap (λ j. get_or labels j 0) (sym s) ∙ z)
      | inr s ↦ i.below w s
    ];
    low = i.low;
    met = i.met;
    waits = λ w t. has_none w t;
    closed = i.closed;
  }

-- a pair joins its vertices
pub other_meets : (pairs : List (ℕ × ℕ)) (k u : ℕ) → k < length pairs → touches pairs k u ≡ true → meet pairs (other pairs k u) u ≡ true
other_meets pairs k u l t = elim (cases_eq (pair pairs k).0 u) [
  | inl e ↦ let q : ((pair pairs k).0 == u) ≡ true = eq-eqb _ _ e in
      rw q (meet_back pairs u (pair pairs k).1 (subst (λ i. meet pairs i (pair pairs k).1 ≡ true) e (meet_at pairs k l)))
  | inr d ↦ let q : ((pair pairs k).0 == u) ≡ false = ne_eqb _ _ d in
      let e : (pair pairs k).1 ≡ u = elim (or_cases _ _ t) [ inl s ↦ absurd (d (eqb-true _ _ s)) | inr s ↦ eqb-true _ _ s ] in
      rw q (subst (λ i. meet pairs (pair pairs k).0 i ≡ true) e (meet_at pairs k l))
]

-- so what it leads to is joined to the root
pub to_root : (n : ℕ) (pairs : List (ℕ × ℕ)) (root u v : ℕ) (labels waiting : List ℕ) → IsSpread n pairs root u labels waiting → root < n → u < n → get_or labels u 0 ≡ root →
    meet pairs v u ≡ true → Reaches (Met n pairs) v root
to_root n pairs root u v labels waiting i lr lu own m =
    reach_more (Met n pairs) v u root (reach_one (Met n pairs) v u (m, has_below n u lu))
    (subst (λ j. Reaches (Met n pairs) u j) own (i.met u lu (λ z. absurd (omega arith))))

pub taken_more : (pairs : List (ℕ × ℕ)) (root u k : ℕ) (labels new : List ℕ) → AreTaken pairs root u (k + 1) labels →
    ((w : ℕ) → get_or labels w 0 ≡ root → get_or new w 0 ≡ root) → get_or new (other pairs k u) 0 ≡ root → AreTaken pairs root u (last_at pairs u k) new
taken_more pairs root u k labels new a kept e j l b t = elim (cases_lt j k) [
  | inl s ↦ absurd (false≢true (sym (last_none pairs u k j l s) ∙ t))
  | inr s ↦ elim (eq-or-lt_of_le s) [
    | inl q ↦ subst (λ i. get_or new (other pairs i u) 0 ≡ root) q e
    | inr q ↦ kept (other pairs j u) (a j (omega arith) b t)
  ]
]

pub taken_none : (pairs : List (ℕ × ℕ)) (root u : ℕ) (labels : List ℕ) → AreTaken pairs root u (last_at pairs u (length pairs)) labels
taken_none pairs root u labels j l b t = absurd (false≢true (sym (last_none pairs u (length pairs) j l b) ∙ t))

-- the pairs of u are taken from this one on
pub record IsTaking (n : ℕ) (pairs : List (ℕ × ℕ)) (root u : ℕ) (old before labels waiting : List ℕ) (at : ℕ) : Type 0 where
  pub spread : IsSpread n pairs root u labels waiting
  pub own : get_or labels u 0 ≡ root
  pub small : at ≤ length pairs
  pub touched : (k : ℕ) → at ≡ suc k → touches pairs k u ≡ true
  pub taken : AreTaken pairs root u at labels
  pub kept : (v : ℕ) → get_or old v 0 ≢ n → get_or labels v 0 ≡ get_or old v 0
  pub less : work n labels waiting ≤ work n old before

pub taking_none : (n : ℕ) (pairs : List (ℕ × ℕ)) (root u : ℕ) (labels waiting : List ℕ) (at : ℕ) → IsSpread n pairs root u labels waiting → get_or labels u 0 ≡ root →
    at ≡ last_at pairs u (length pairs) → IsTaking n pairs root u labels waiting labels waiting at
taking_none n pairs root u labels waiting at i own e = subst (λ a. IsTaking n pairs root u labels waiting labels waiting a) (sym e) (record {
  spread = i;
  own = own;
  small = last_below pairs u (length pairs);
  touched = λ k s. (last_touches pairs u (length pairs) k s).1;
  taken = taken_none pairs root u labels;
  kept = λ v h. refl;
  less = le_refl _;
})

pub taking_more : (n : ℕ) (pairs : List (ℕ × ℕ)) (root u : ℕ) (old before labels waiting new more : List ℕ) (at k v next : ℕ) → root < n → u < n → v < n → at ≡ suc k →
    IsTaking n pairs root u old before labels waiting at → v ≡ other pairs k u → Visits n root v labels new waiting more → next ≡ last_at pairs u k →
    IsTaking n pairs root u old before new more next
taking_more n pairs root u old before labels waiting new more at k v next lr lu lv e i o s h =
    let c = i.spread.count in
    let z = i.small in
    let lk : k < length pairs = omega arith in
    let m : meet pairs v u ≡ true = subst (λ j. meet pairs j u ≡ true) (sym o) (other_meets pairs k u lk (i.touched k e)) in
    let keeps : (w : ℕ) → get_or labels w 0 ≢ n → get_or new w 0 ≡ get_or labels w 0 = visited_kept n pairs root u v labels new waiting more lr lv c s in
    let own : get_or new u 0 ≡ root = keeps u (λ y. let q = i.own in absurd (omega arith)) ∙ i.own in
    let led : get_or new (other pairs k u) 0 ≡ root =
    subst (λ j. get_or new j 0 ≡ root) o (visited_label n pairs root u v labels new waiting more lr lv i.spread lu i.own m s) in
    let from : AreTaken pairs root u (k + 1) labels = subst (λ j. AreTaken pairs root u j labels) (let q : at ≡ k + 1 = omega arith in q) i.taken in
    let low = last_below pairs u k in
    subst (λ a. IsTaking n pairs root u old before new more a) (sym h) (record {
      spread = visited n pairs root u v labels new waiting more lr lv i.spread (to_root n pairs root u v labels waiting i.spread lr lu i.own m) s;
      own = own;
      small = omega arith;
      touched = λ j q. (last_touches pairs u k j q).1;
      taken = taken_more pairs root u k labels new from (λ w q. keeps w (λ y. absurd (omega arith)) ∙ q) led;
      kept = λ w q. let y = i.kept w q in keeps w (λ t. q (sym y ∙ t)) ∙ y;
      less = let y = visited_work n pairs root u v labels new waiting more lr lv c s in let t = i.less in omega arith;
    })

pub work_popped : (n u : ℕ) (labels old waiting : List ℕ) → old ≡ waiting ++ (u ∷ []) → work n labels waiting + 1 ≡ work n labels old
work_popped n u labels old waiting e = let a : length (waiting ++ (u ∷ [])) ≡ length waiting + 1 = length-append waiting (u ∷ []) in rw e (omega arith)
