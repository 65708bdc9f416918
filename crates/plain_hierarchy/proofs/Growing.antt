-- A search in breadth finds the component of its start.
use Rattle.std.proofs.Common.{◌≡◌, ℕ, zero, suc, ◌+◌, ◌<◌, ◌≤◌, Bool, true, false, ◌||◌, ◌&&◌, not, eqb, List, [], ◌∷◌, ◌++◌, length, take, get_or, refl, sym, ◌∙◌, ap, subst, inl, inr, ◌⊎◌, arith, length-append, append-nil, append_assoc, None, Some, add-one}
use Rattle.std.specs.List.{filter, list_any}
use Rattle.std.proofs.lemmas.Bool.{or_cases, or_left, or_right, and_parts, and_from, false≢true}
use Rattle.std.proofs.lemmas.List.{take-append-le}
use Rattle.std.proofs.lemmas.List.Folds.{list_any-append}
use Rattle.std.proofs.Math.Seq.{take-suc}
use Rattle.graph_model.specs.Lists.{has}
use Rattle.graph_model.specs.Components.{Joined, grow, reached, component_of}
use Rattle.graph_model.proofs.ListLemmas.{contra, same_bool, has_head, has_tail, has_none, has_cases, has_length, filter_has, filter_only, filter_length, filter_same, filter_more}
use Rattle.graph_model.proofs.Components.{IsClosed, Joined_one, Joined_snoc, Joined_stays, component_joined}
use Rattle.op_model.specs.declared.base.Edge.{Edge}
use Rattle.op_model.specs.Edges.{joins, linked}
use Rattle.plain_hierarchy.specs.Growth.{Grows, IsCounted, IsFresh}

pub has_append : (xs ys : List ℕ) (w : ℕ) → has (xs ++ ys) w ≡ (has xs w || has ys w)
has_append xs ys w = list_any-append (λ y. eqb y w) xs ys

has_first : (xs ys : List ℕ) (w : ℕ) → has xs w ≡ true → has (xs ++ ys) w ≡ true
has_first xs ys w h = has_append xs ys w ∙ or_left (has xs w) (has ys w) h

has_last : (xs : List ℕ) (w : ℕ) → has (xs ++ w ∷ []) w ≡ true
has_last xs w = has_append xs (w ∷ []) w ∙ or_right (has xs w) _ (has_head w [])

last_cases : (xs : List ℕ) (x w : ℕ) → has (xs ++ x ∷ []) w ≡ true → (has xs w ≡ true) ⊎ (x ≡ w)
last_cases xs x w h = elim (or_cases (has xs w) (has (x ∷ []) w) (sym (has_append xs (x ∷ []) w) ∙ h)) [
  | inl k ↦ inl k
  | inr k ↦ elim (has_cases x [] w k) [ inl e ↦ inr e | inr n ↦ has_none w n ]
]

pub has_get : (xs : List ℕ) (i d : ℕ) → i < length xs → has xs (get_or xs i d) ≡ true
has_get [] i d l = absurd (omega arith)
has_get (x ∷ xs) zero d l = has_head x xs
has_get (x ∷ xs) (suc i) d l = has_tail x xs (get_or xs i d) (has_get xs i d (omega arith))

take_all : (xs : List ℕ) (n : ℕ) → length xs ≤ n → take n xs ≡ xs
take_all [] zero l = refl
take_all [] (suc n) l = refl
take_all (x ∷ xs) zero l = absurd (omega arith)
take_all (x ∷ xs) (suc n) l = ap (λ ys. x ∷ ys) (take_all xs n (omega arith))

pub linked_cons : (e : Edge) (u w : ℕ) → linked (e ∷ []) u w ≡ true → joins e.pair u w ≡ true
unfolding linked
linked_cons e u w h = elim (or_cases (e.active && joins e.pair u w) false h) [ inl k ↦ (and_parts e.active _ k).1 | inr k ↦ absurd (false≢true k) ]

pub linked_append : (es fs : List Edge) (u w : ℕ) → linked (es ++ fs) u w ≡ (linked es u w || linked fs u w)
unfolding linked
linked_append es fs u w = list_any-append (λ e. e.active && joins e.pair u w) es fs

pub linked_none : {A : Type 0} (u w : ℕ) → linked [] u w ≡ true → A
unfolding linked
linked_none u w h = absurd (false≢true h)

pub linked_next : (es : List Edge) (i : ℕ) (d : Edge) (u w : ℕ) → i < length es → linked (take (i + 1) es) u w ≡ (linked (take i es) u w || linked (get_or es i d ∷ []) u w)
linked_next es i d u w l = ap (λ xs. linked xs u w) (rw add-one (take-suc es i d l)) ∙ linked_append (take i es) (get_or es i d ∷ []) u w

-- the test for a new end finds it, or what is linked is found already
pub fresh_end : (e : Edge) (all : List ℕ) (from : ℕ) (found : List ℕ) (end : ℕ) → (linked (e ∷ []) from end && has all end && not (has found end)) ≡ true → IsFresh (linked (e ∷ [])) all from found end
fresh_end e all from found end h =
    let p = and_parts (linked (e ∷ []) from end && has all end) (not (has found end)) h in
    let q = and_parts (linked (e ∷ []) from end) (has all end) p.0 in
    record { linked = q.0; member = q.1; fresh = not_true (has found end) p.1 }
  where
    not_true : (b : Bool) → not b ≡ true → b ≡ false
    not_true true h = absurd (false≢true h)
    not_true false h = refl

pub old_end : (e : Edge) (all : List ℕ) (from : ℕ) (found : List ℕ) (end : ℕ) → (linked (e ∷ []) from end && has all end && not (has found end)) ≡ false
    → ((w : ℕ) → joins e.pair from w ≡ true → w ≡ end) → (w : ℕ) → linked (e ∷ []) from w ≡ true → has all w ≡ true → has found w ≡ true
old_end e all from found end h only w l m =
    let q : w ≡ end = only w (linked_cons e from w l) in
    subst (λ x. has found x ≡ true) (sym q) (go (has found end) refl (subst (λ x. linked (e ∷ []) from x ≡ true) q l) (subst (λ x. has all x ≡ true) q m))
  where
    go : (b : Bool) → has found end ≡ b → linked (e ∷ []) from end ≡ true → has all end ≡ true → has found end ≡ true
    go true k l m = k
    go false k l m = absurd (false≢true (sym h ∙ and_from _ _ (and_from _ _ l m) (ap not k)))

pub none_some : {A : Type 0} {w : ℕ} → None ≡ Some w → A
none_some e = cc

-- nothing is new where all that is linked is found
pub grows_none : (links : ℕ → ℕ → Bool) (all : List ℕ) (from : ℕ) (old : List ℕ) → ((w : ℕ) → links from w ≡ true → has all w ≡ true → has old w ≡ true) → Grows links all from old old
grows_none links all from old every = record {
  kept = ([], sym (append-nil old));
  only = λ w h. inl h;
  every = every;
  counted = λ h. h;
}

pub grows_one : (links : ℕ → ℕ → Bool) (all : List ℕ) (from : ℕ) (old : List ℕ) (x : ℕ) → IsFresh links all from old x
    → ((w : ℕ) → links from w ≡ true → has all w ≡ true → (has old w ≡ true) ⊎ (x ≡ w)) → Grows links all from old (old ++ x ∷ [])
grows_one links all from old x is others = record {
  kept = (x ∷ [], refl);
  only = λ w h. elim (last_cases old x w h) [
    | inl k ↦ inl k
    | inr e ↦ inr (subst (λ y. links from y ≡ true) e is.linked, subst (λ y. has all y ≡ true) e is.member)
  ];
  every = λ w l h. elim (others w l h) [
    | inl k ↦ has_first old (x ∷ []) w k
    | inr e ↦ subst (λ y. has (old ++ x ∷ []) y ≡ true) e (has_last old x)
  ];
  counted = λ h. elim (filter_more (has old) (has (old ++ x ∷ [])) all (λ w k e. has_first old (x ∷ []) w e)) [
    | inl l ↦ let n : length (old ++ x ∷ []) ≡ length old + 1 = length-append old (x ∷ []) in omega arith
    | inr same ↦ contra (has old x) (same x is.member (has_last old x)) is.fresh
  ];
}

pub grows_more : (one two both : ℕ → ℕ → Bool) (all : List ℕ) (from : ℕ) (old mid new : List ℕ) → ((w : ℕ) → both from w ≡ (one from w || two from w))
    → Grows one all from old mid → Grows two all from mid new → Grows both all from old new
grows_more one two both all from old mid new same f g = record {
  kept = (f.kept.0 ++ g.kept.0, g.kept.1 ∙ (ap (λ xs. xs ++ g.kept.0) f.kept.1 ∙ append_assoc old f.kept.0 g.kept.0));
  only = λ w h. elim (g.only w h) [
    | inl k ↦ elim (f.only w k) [ inl m ↦ inl m | inr m ↦ inr (same w ∙ or_left (one from w) (two from w) m.0, m.1) ]
    | inr k ↦ inr (same w ∙ or_right (one from w) (two from w) k.0, k.1)
  ];
  every = λ w l h. elim (or_cases (one from w) (two from w) (sym (same w) ∙ l)) [
    | inl k ↦ subst (λ xs. has xs w ≡ true) (sym g.kept.1) (has_first mid g.kept.0 w (f.every w k h))
    | inr k ↦ g.every w k h
  ];
  counted = λ h. g.counted (f.counted h);
}

-- how far a search has come: it went from the first so many of those that it found
pub record IsFound (links : ℕ → ℕ → Bool) (all : List ℕ) (start : ℕ) (found : List ℕ) (next : ℕ) : Type 0 where
  pub first : has found start ≡ true
  pub joined : (w : ℕ) → has found w ≡ true → Joined links all start w
  pub done : (v w : ℕ) → has (take next found) v ≡ true → links v w ≡ true → has all w ≡ true → has found w ≡ true
  pub counted : IsCounted all found

module _ (links : ℕ → ℕ → Bool) (all : List ℕ) (start : ℕ) where
  pub found_start : has all start ≡ true → IsFound links all start (start ∷ []) 0
  found_start h = record {
    first = has_head start [];
    joined = λ w k. elim (has_cases start [] w k) [ inl e ↦ subst (λ y. Joined links all start y) e (Joined_one links all start h) | inr n ↦ has_none w n ];
    done = λ v w k l m. has_none v k;
    counted = go (filter_has (has (start ∷ [])) all start h (has_head start []));
  }
    where
      go : has (filter (has (start ∷ [])) all) start ≡ true → 1 ≤ length (filter (has (start ∷ [])) all)
      go k = has_length (filter (has (start ∷ [])) all) start k

  pub found_short : (found : List ℕ) (next : ℕ) → IsFound links all start found next → length found ≤ length all
  found_short found next f = let k = f.counted in let l = filter_length (has found) all in omega (arith, k, l)

  pub found_more : (found new : List ℕ) (next d : ℕ) → next < length found → IsFound links all start found next → Grows links all (get_or found next d) found new → IsFound links all start new (next + 1)
  found_more found new next d low f g = record {
    first = stays start f.first;
    joined = λ w h. elim (g.only w h) [ inl k ↦ f.joined w k | inr k ↦ Joined_snoc links all start from w (f.joined from (has_get found next d low)) k.0 k.1 ];
    done = λ v w h l m. elim (last_cases (take next found) from v (subst (λ xs. has xs v ≡ true) front h)) [
      | inl k ↦ stays w (f.done v w k l m)
      | inr e ↦ g.every w (subst (λ x. links x w ≡ true) (sym e) l) m
    ];
    counted = g.counted f.counted;
  }
    where
      from : ℕ
      from = get_or found next d

      stays : (w : ℕ) → has found w ≡ true → has new w ≡ true
      stays w h = subst (λ xs. has xs w ≡ true) (sym g.kept.1) (has_first found g.kept.0 w h)

      front : take (next + 1) new ≡ take next found ++ get_or found next d ∷ []
      front = ap (take (next + 1)) g.kept.1 ∙ (take-append-le (next + 1) found g.kept.0 (omega arith) ∙ (rw add-one (take-suc found next d low)))

  -- what is reached is a filter of the list
  reached_filter : (n : ℕ) → (t : ℕ → Bool) × (reached links all start n ≡ filter t all)
  unfolding reached grow
  reached_filter zero = ((λ w. eqb w start), refl)
  reached_filter (suc n) = ((λ w. has (reached links all start n) w || list_any (λ v. links v w) (reached links all start n)), refl)

  component_filter : (t : ℕ → Bool) × (component_of links all start ≡ filter t all)
  unfolding component_of
  component_filter = reached_filter (length all)

  pub found_whole : (found : List ℕ) (next : ℕ) → length found ≤ next → IsFound links all start found next → filter (has found) all ≡ component_of links all start
  found_whole found next whole f = filter_same (has found) p.0 all (λ x h. same_bool (has found x) (p.0 x) (there x h) (back x h)) ∙ sym p.1
    where
      p : (t : ℕ → Bool) × (component_of links all start ≡ filter t all)
      p = component_filter

      closed : IsClosed links all found
      closed v w h l m = f.done v w (subst (λ xs. has xs v ≡ true) (sym (take_all found next whole)) h) l m

      there : (x : ℕ) → has all x ≡ true → has found x ≡ true → p.0 x ≡ true
      there x h k = (filter_only p.0 all x (subst (λ ys. has ys x ≡ true) p.1 ((component_joined links all start x).1 (f.joined x k)))).1

      back : (x : ℕ) → has all x ≡ true → p.0 x ≡ true → has found x ≡ true
      back x h e = Joined_stays links all found closed start x f.first ((component_joined links all start x).0 (subst (λ ys. has ys x ≡ true) (sym p.1) (filter_has p.0 all x h e)))
