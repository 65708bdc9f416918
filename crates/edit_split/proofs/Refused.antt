-- What the marks of a split are refused for, mark by mark.
use Rattle.std.proofs.Common.{◌≡◌, ℕ, zero, suc, ◌+◌, ◌<◌, ◌≤◌, Bool, true, false, cond, not, ◌||◌, eqb, ltb, List, [], ◌∷◌, ◌++◌, length, map, drop, get_or, Option, Some, None, refl, sym, ◌∙◌, ap, ap₂, subst, arith, eq-eqb, ne_eqb, eqb-true, lt-ltb}
use Rattle.std.specs.List.{AllByRecursion, find}
use Rattle.std.specs.Option.{option_map_or}
use Rattle.std.proofs.lemmas.Bool.{false≢true, le-ltb, or_parts}
use Rattle.std.proofs.lemmas.List.{drop_more}
use Rattle.op_model.specs.declared.base.Dataset.{Dataset}
use Rattle.op_model.specs.declared.base.Base.{Base}
use Rattle.op_model.specs.declared.request.Edit.TheVariants.{Split}
use Rattle.op_model.specs.declared.entry.Entry.{Entry}
use Rattle.op_model.specs.declared.reply.Refusal.{Refusal}
use Rattle.op_model.specs.declared.reply.Refusal.TheVariants.{NoSuchSupervoxel, NoMarks, TooManyMarks, BothSides, DifferentRoots}
use Rattle.graph_model.specs.Lists.{has, head_or}
use Rattle.op_model.specs.Labels.{root}
use Rattle.op_model.specs.Refusals.{first_of, refuse_early, refuse_first, refuse_if, refuse_marks, refuse_unknown}
use Rattle.op_model.proofs.CutLemmas.{find_none_at}
use Rattle.op_model.proofs.LegalLemmas.{first_none, refuse_first_none}
use Rattle.op_model.proofs.RefusalLemmas.{refuse_if_none}
use Rattle.root_masks.specs.Plans.{AreKnown}
use Rattle.edit_split.specs.Marks.{refuse_lists, refuse_other}

-- the marks from a place on are the mark there and those behind
pub marks_left : (marks : List ℕ) (k v : ℕ) → k < length marks → v ≡ get_or marks k v → drop k marks ≡ v ∷ drop (k + 1) marks
marks_left marks k v l e = drop_more marks k v l ∙ ap (λ x. x ∷ drop (k + 1) marks) (sym e)

pub none_left : (marks : List ℕ) (k : ℕ) → length marks ≤ k → drop k marks ≡ []
none_left [] zero n = refl
none_left [] (suc k) n = refl
none_left (v ∷ vs) zero n = absurd (omega arith)
none_left (v ∷ vs) (suc k) n = none_left vs k (omega arith)

module _ (f : ℕ → Refusal) (test : ℕ → Bool) where
  pub first_here : (v : ℕ) (vs : List ℕ) → test v ≡ true → Some (f v) ≡ refuse_first f test (v ∷ vs)
  unfolding refuse_first
  first_here v vs h = rw h refl

  pub first_later : (v : ℕ) (vs : List ℕ) → test v ≡ false → refuse_first f test (v ∷ vs) ≡ refuse_first f test vs
  unfolding refuse_first
  first_later v vs h = rw h refl

  pub first_nothing : None ≡ refuse_first f test []
  unfolding refuse_first
  first_nothing = refl

  only : (o : Option Refusal) → o ≡ first_of (o ∷ [])
  unfolding first_of
  only None = refl
  only (Some r) = refl

  refuse_append : (xs ys : List ℕ) → refuse_first f test (xs ++ ys) ≡ first_of (refuse_first f test xs ∷ refuse_first f test ys ∷ [])
  unfolding refuse_first first_of
  refuse_append [] ys = only (option_map_or (λ x. Some (f x)) (find test ys) None)
  refuse_append (x ∷ xs) ys = go (test x) (refuse_append xs ys)
    where
      go : (t : Bool) → option_map_or (λ z. Some (f z)) (find test (xs ++ ys)) None ≡ first_of (option_map_or (λ z. Some (f z)) (find test xs) None ∷ option_map_or (λ z. Some (f z)) (find test ys) None ∷ [])
          → option_map_or (λ z. Some (f z)) (cond t (Some x) (find test (xs ++ ys))) None ≡ first_of (option_map_or (λ z. Some (f z)) (cond t (Some x) (find test xs)) None ∷ option_map_or (λ z. Some (f z)) (find test ys) None ∷ [])
      go true ih = refl
      go false ih = ih

pub first_some : (o : Option Refusal) (os : List (Option Refusal)) (r : Refusal) → o ≡ Some r → Some r ≡ first_of (o ∷ os)
unfolding first_of
first_some o os r e = sym (ap (λ (x : Option Refusal). first_of (x ∷ os)) e)

pub first_next : (o : Option Refusal) (os : List (Option Refusal)) (r : Option Refusal) → o ≡ None → r ≡ first_of os → r ≡ first_of (o ∷ os)
unfolding first_of
first_next o os r e h = h ∙ sym (ap (λ (x : Option Refusal). first_of (x ∷ os)) e)

pub first_last : (o : Option Refusal) → o ≡ first_of (o ∷ [])
unfolding first_of
first_last None = refl
first_last (Some r) = refl

regroup : (x y a b c e p q : Option Refusal) → first_of (first_of (x ∷ y ∷ []) ∷ a ∷ b ∷ c ∷ e ∷ first_of (p ∷ q ∷ []) ∷ []) ≡ first_of (x ∷ y ∷ first_of (a ∷ b ∷ c ∷ e ∷ []) ∷ p ∷ q ∷ [])
unfolding first_of
regroup (Some r) y a b c e p q = refl
regroup None (Some r) a b c e p q = refl
regroup None None (Some r) b c e p q = refl
regroup None None None (Some r) c e p q = refl
regroup None None None None (Some r) e p q = refl
regroup None None None None None (Some r) p q = refl
regroup None None None None None None (Some r) q = refl
regroup None None None None None None None (Some r) = refl
regroup None None None None None None None None = refl

module _ (sources sinks : List ℕ) where
  pub no_sources : length sources ≡ 0 → Some NoMarks ≡ refuse_lists sources sinks
  unfolding refuse_lists first_of refuse_if
  no_sources e = rw (eq-eqb (length sources) 0 e) refl

  pub no_sinks : (length sources ≡ 0 → ⊥) → length sinks ≡ 0 → Some NoMarks ≡ refuse_lists sources sinks
  unfolding refuse_lists first_of refuse_if
  no_sinks n e = rw (ne_eqb (length sources) 0 n, eq-eqb (length sinks) 0 e) refl

  pub many_sources : (length sources ≡ 0 → ⊥) → (length sinks ≡ 0 → ⊥) → 64 < length sources → Some (TooManyMarks (length sources)) ≡ refuse_lists sources sinks
  unfolding refuse_lists first_of refuse_if
  many_sources n m l = rw (ne_eqb (length sources) 0 n, ne_eqb (length sinks) 0 m, lt-ltb 64 (length sources) l) refl

  pub many_sinks : (length sources ≡ 0 → ⊥) → (length sinks ≡ 0 → ⊥) → length sources ≤ 64 → 64 < length sinks → Some (TooManyMarks (length sinks)) ≡ refuse_lists sources sinks
  unfolding refuse_lists first_of refuse_if
  many_sinks n m l k = rw (ne_eqb (length sources) 0 n, ne_eqb (length sinks) 0 m, le-ltb 64 (length sources) l, lt-ltb 64 (length sinks) k) refl

  pub sides_last : (o : Option Refusal) → (length sources ≡ 0 → ⊥) → (length sinks ≡ 0 → ⊥) → length sources ≤ 64 → length sinks ≤ 64 → o ≡ refuse_first BothSides (λ v. has sinks v) sources → o ≡ refuse_lists sources sinks
  unfolding refuse_lists first_of refuse_if
  sides_last o n m l k e = rw (ne_eqb (length sources) 0 n, ne_eqb (length sinks) 0 m, le-ltb 64 (length sources) l, le-ltb 64 (length sinks) k) (e ∙ first_last (refuse_first BothSides (λ v. has sinks v) sources))

  -- lists that aren't refused have marks on both sides, and none on both
  pub some_marks : refuse_lists sources sinks ≡ None → (0 < length sources) × (0 < length sinks)
  unfolding refuse_lists
  some_marks h =
      let one = first_none _ _ h in
      let none = or_parts (eqb (length sources) 0) (eqb (length sinks) 0) (refuse_if_none (eqb (length sources) 0 || eqb (length sinks) 0) NoMarks one.0) in
      (some sources none.0, some sinks none.1)
    where
      some : (xs : List ℕ) → eqb (length xs) 0 ≡ false → 0 < length xs
      some [] e = absurd (false≢true (sym e))
      some (x ∷ xs) e = omega arith

  pub none_on_both : refuse_lists sources sinks ≡ None → (v : ℕ) → has sources v ≡ true → has sinks v ≡ false
  unfolding refuse_lists
  none_on_both h v s =
      let one = first_none _ _ h in
      let two = first_none _ _ one.1 in
      let three = first_none _ _ two.1 in
      let four = first_none _ _ three.1 in
      find_none_at (λ x. has sinks x) sources v (refuse_first_none BothSides (λ x. has sinks x) sources four.0) s

module _ (d : Dataset) (b : Base) where
  -- marks that aren't refused for their ids are supervoxels
  pub all_known : (ids : List ℕ) → refuse_unknown d b ids ≡ None → AreKnown b ids
  unfolding refuse_unknown
  all_known ids h = go ids (refuse_first_none NoSuchSupervoxel (λ v. not (has b.supervoxels v)) ids h)
    where
      go : (xs : List ℕ) → find (λ v. not (has b.supervoxels v)) xs ≡ None → AreKnown b xs
      go [] e = tt
      go (x ∷ xs) e = step (has b.supervoxels x) refl e (go xs)
        where
          step : (t : Bool) → has b.supervoxels x ≡ t → cond (not t) (Some x) (find (λ v. not (has b.supervoxels v)) xs) ≡ None → (find (λ v. not (has b.supervoxels v)) xs ≡ None → AreKnown b xs) → AreKnown b (x ∷ xs)
          step true q h ih = (q, ih h)
          step false q h ih = cc

  pub unknown_here : (v : ℕ) (vs : List ℕ) → has b.supervoxels v ≡ false → Some (NoSuchSupervoxel v) ≡ refuse_unknown d b (v ∷ vs)
  unfolding refuse_unknown
  unknown_here v vs h = first_here NoSuchSupervoxel (λ x. not (has b.supervoxels x)) v vs (ap not h)

  pub unknown_later : (v : ℕ) (vs : List ℕ) → has b.supervoxels v ≡ true → refuse_unknown d b (v ∷ vs) ≡ refuse_unknown d b vs
  unfolding refuse_unknown
  unknown_later v vs h = first_later NoSuchSupervoxel (λ x. not (has b.supervoxels x)) v vs (ap not h)

  pub unknown_nothing : None ≡ refuse_unknown d b []
  unfolding refuse_unknown
  unknown_nothing = first_nothing NoSuchSupervoxel (λ x. not (has b.supervoxels x))

pub known_at : (b : Base) (marks : List ℕ) (k v : ℕ) → AreKnown b marks → k < length marks → v ≡ get_or marks k v → has b.supervoxels v ≡ true
known_at b [] k v a l e = absurd (omega arith)
known_at b (x ∷ xs) zero v a l e = subst (λ y. has b.supervoxels y ≡ true) (sym e) a.0
known_at b (x ∷ xs) (suc k) v a l e = known_at b xs k v a.1 (omega arith) e

module _ (d : Dataset) (b : Base) (log : List Entry) where
  pub other_here : (first v other : ℕ) (vs : List ℕ) → other ≡ root d b log v → true ≡ not (eqb other first) → Some (DifferentRoots first other) ≡ refuse_other d b log first (v ∷ vs)
  unfolding refuse_other
  other_here first v other vs e n =
      ap (λ (r : ℕ). Some (DifferentRoots first r)) e
      ∙ first_here (λ x. DifferentRoots first (root d b log x)) (λ x. not (eqb (root d b log x) first)) v vs (ap (λ r. not (eqb r first)) (sym e) ∙ sym n)

  pub other_later : (first v other : ℕ) (vs : List ℕ) → other ≡ root d b log v → false ≡ not (eqb other first) → refuse_other d b log first (v ∷ vs) ≡ refuse_other d b log first vs
  unfolding refuse_other
  other_later first v other vs e q = first_later (λ x. DifferentRoots first (root d b log x)) (λ x. not (eqb (root d b log x) first)) v vs (ap (λ r. not (eqb r first)) (sym e) ∙ sym q)

  pub other_nothing : (first : ℕ) → None ≡ refuse_other d b log first []
  unfolding refuse_other
  other_nothing first = first_nothing (λ x. DifferentRoots first (root d b log x)) (λ x. not (eqb (root d b log x) first))

  -- marks that aren't refused for their roots lie in one
  pub one_root : (first : ℕ) (marks : List ℕ) → refuse_other d b log first marks ≡ None → AllByRecursion (λ v. root d b log v ≡ first) marks
  unfolding refuse_other
  one_root first marks h = go marks (refuse_first_none (λ v. DifferentRoots first (root d b log v)) (λ v. not (eqb (root d b log v) first)) marks h)
    where
      go : (xs : List ℕ) → find (λ v. not (eqb (root d b log v) first)) xs ≡ None → AllByRecursion (λ v. root d b log v ≡ first) xs
      go [] e = tt
      go (x ∷ xs) e = step (eqb (root d b log x) first) refl e (go xs)
        where
          step : (t : Bool) → eqb (root d b log x) first ≡ t → cond (not t) (Some x) (find (λ v. not (eqb (root d b log v) first)) xs) ≡ None
              → (find (λ v. not (eqb (root d b log v) first)) xs ≡ None → AllByRecursion (λ v. root d b log v ≡ first) xs) → AllByRecursion (λ v. root d b log v ≡ first) (x ∷ xs)
          step true q h ih = (eqb-true (root d b log x) first q, ih h)
          step false q h ih = cc

  module _ (sources sinks : List ℕ) where
    first_root : ℕ
    first_root = head_or 0 (map (root d b log) (sources ++ sinks))

    pub head_is : 0 < length sources → head_or 0 (map (root d b log) (sources ++ sinks)) ≡ root d b log (get_or sources 0 0)
    unfolding head_or
    head_is l = go sources l
      where
        go : (xs : List ℕ) → 0 < length xs → head_or 0 (map (root d b log) (xs ++ sinks)) ≡ root d b log (get_or xs 0 0)
        go [] m = absurd (omega arith)
        go (x ∷ xs) m = refl

    -- the refusals of a split one by one, with those of the sources before those of the sinks
    pub early_is : refuse_early d b log (Split sources sinks)
        ≡ first_of (refuse_unknown d b sources ∷ refuse_unknown d b sinks ∷ refuse_lists sources sinks
        ∷ refuse_other d b log (head_or 0 (map (root d b log) (sources ++ sinks))) sources ∷ refuse_other d b log (head_or 0 (map (root d b log) (sources ++ sinks))) sinks ∷ [])
    unfolding refuse_early refuse_marks refuse_unknown refuse_lists refuse_other
    early_is =
        let r : ℕ = head_or 0 (map (root d b log) (sources ++ sinks)) in
        ap₂ (λ (u p : Option Refusal). first_of (u
        ∷ refuse_if (eqb (length sources) 0 || eqb (length sinks) 0) NoMarks ∷ refuse_if (ltb 64 (length sources)) (TooManyMarks (length sources)) ∷ refuse_if (ltb 64 (length sinks)) (TooManyMarks (length sinks))
        ∷ refuse_first BothSides (λ v. has sinks v) sources ∷ p ∷ []))
        (refuse_append NoSuchSupervoxel (λ v. not (has b.supervoxels v)) sources sinks)
        (refuse_append (λ v. DifferentRoots r (root d b log v)) (λ v. not (eqb (root d b log v) r)) sources sinks)
        ∙ regroup _ _ _ _ _ _ _ _

    -- a split that isn't refused so far
    pub record Passes : Type 0 where
      pub known_sources : AreKnown b sources
      pub known_sinks : AreKnown b sinks
      pub some_sources : 0 < length sources
      pub some_sinks : 0 < length sinks
      pub apart : (v : ℕ) → has sources v ≡ true → has sinks v ≡ false
      pub rooted_sources : AllByRecursion (λ v. root d b log v ≡ root d b log (get_or sources 0 0)) sources
      pub rooted_sinks : AllByRecursion (λ v. root d b log v ≡ root d b log (get_or sources 0 0)) sinks

    pub passes : refuse_early d b log (Split sources sinks) ≡ None → Passes
    passes h =
        let one = first_none _ _ (sym early_is ∙ h) in
        let two = first_none _ _ one.1 in
        let three = first_none _ _ two.1 in
        let four = first_none _ _ three.1 in
        let five = first_none _ _ four.1 in
        let some = some_marks sources sinks three.0 in
        let r = head_is some.0 in
        record {
          known_sources = all_known d b sources one.0;
          known_sinks = all_known d b sinks two.0;
          some_sources = some.0;
          some_sinks = some.1;
          apart = none_on_both sources sinks three.0;
          rooted_sources = subst (λ x. AllByRecursion (λ v. root d b log v ≡ x) sources) r (one_root _ sources four.0);
          rooted_sinks = subst (λ x. AllByRecursion (λ v. root d b log v ≡ x) sinks) r (one_root _ sinks five.0);
        }
