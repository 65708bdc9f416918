-- What an entry links to roots: they were there before it, and no older entry retired one.
use Rattle.std.proofs.Common.{◌≡◌, ℕ, zero, suc, ◌+◌, ◌-◌, ◌<◌, ◌≤◌, Bool, true, false, cond, List, [], ◌∷◌, ◌++◌, ◌||◌, eqb, length, map, take, drop, get_or, refl, sym, ◌∙◌, ap, subst, inl, inr, arith, append-nil, append_assoc}
use Rattle.std.specs.List.{AllByRecursion, filter, list_any}
use Rattle.std.proofs.lemmas.Bool.{false_from_ne_true}
use Rattle.std.proofs.Math.Seq.{drop-length}
use Rattle.op_model.specs.declared.base.Dataset.{Dataset}
use Rattle.op_model.specs.declared.base.Base.{Base}
use Rattle.op_model.specs.declared.entry.Changed.{Changed}
use Rattle.op_model.specs.declared.entry.Entry.{Entry}
use Rattle.graph_model.specs.Lists.{has}
use Rattle.graph_model.proofs.ListLemmas.{filter_only, has_cases, has_head, has_none, has_tail, same_bool}
use Rattle.op_model.specs.Labels.{root}
use Rattle.op_model.specs.Legal.{Legal}
use Rattle.op_model.specs.Operations.{ascending, ends, first_entry, put_id}
use Rattle.op_model.specs.Transcript.{log_at}
use Rattle.op_model.proofs.LegalLemmas.{ascending_has}
use Rattle.op_model.proofs.LinkLemmas.{append_cases, append_left, append_right}
use Rattle.op_model.proofs.LocalLemmas.{end_retired}
use Rattle.op_model.proofs.MadeLemmas.{ascending_only, map_only}
use Rattle.record_rows.specs.Readings.{ParentImage}
use Rattle.change_laws.specs.Visits.{linked_by}
use Rattle.change_laws.proofs.NearEnds.{known_end}
use Rattle.change_reader.specs.Walks.{AreUnretired, IsUnretired, SameRoots, linked_end}
use Rattle.change_reader.proofs.EntryPlaces.{At, at_entry, retired_only}
use Rattle.change_reader.proofs.RootFacts.{is_made}

all_from : {P : ℕ → Type 0} (xs : List ℕ) → ((w : ℕ) → has xs w ≡ true → P w) → AllByRecursion P xs
all_from [] f = tt
all_from (x ∷ xs) f = (f x (has_head x xs), all_from xs (λ w h. f w (has_tail x xs w h)))

module _ (d : Dataset) (b : Base) (log : List Entry) (words : List ℕ) (n : ℕ) (e : Entry) (i : ParentImage d b log words) (at : At d b log n e) where
  -- the roots of ends before an entry were made before it, and the entry alone retired them
  before_known : (u : ℕ) → has (ends e.changed) u ≡ true → IsUnretired d b log words (root d b (log_at d b log n) u) n
  unfolding first_entry ends
  before_known u h = go at.older at.before at.count at.legal
    where
      go : (older : List Entry) → log_at d b log n ≡ older → n ≡ length older → Legal d b (e ∷ older) → IsUnretired d b log words (root d b (log_at d b log n) u) n
      go [] q c legal = has_none u (subst (λ cs. has (ends cs) u ≡ true) (ap (λ z. z.changed) legal.0) h)
      go (f ∷ older) q c legal =
          let l : n < length log = at.below in
          let known = known_end d b i.dataset i.base e (f ∷ older) u legal h in
          let own : has e.retired (root d b (log_at d b log n) u) ≡ true = subst (λ x. has e.retired (root d b x u) ≡ true) (sym q) (end_retired d b e f older u legal h) in
          record {
            root = record {
              image = i;
              low = omega arith;
              high = omega arith;
              made = subst (λ x. list_any (λ g. has g.made (root d b x u)) x ≡ true) (sym q) (is_made d b i.dataset i.base (f ∷ older) u legal.1 known);
            };
            kept = λ m g k less. false_from_ne_true _ (λ t. let s = retired_only d b i.dataset i.base log (root d b (log_at d b log n) u) m n g e (at_entry d b log m g i.legal k) at t own in omega (arith, s, less));
          }

  linked_each : (roots : List ℕ) (w : ℕ) → has (linked_by d b e (log_at d b log n) roots) w ≡ true → IsUnretired d b log words w n
  unfolding linked_by
  linked_each roots w h =
      let f : ℕ → ℕ = root d b (log_at d b log n) in
      let t : ℕ → Bool = λ u. has roots (root d b (e ∷ log_at d b log n) u) in
      let p = map_only f (filter t (ends e.changed)) w h in
      subst (λ x. IsUnretired d b log words x n) p.2 (before_known p.0 (filter_only t (ends e.changed) p.0 p.1).0)

  pub all_linked : (roots linked : List ℕ) → linked ≡ ascending (linked_by d b e (log_at d b log n) roots) → AreUnretired d b log words n linked
  all_linked roots linked q = all_from linked (λ w h. linked_each roots w (ascending_only _ w (subst (λ xs. has xs w ≡ true) q h)))

-- the ends of some pairs whose roots after the entry are among these, by their roots before it
unfoldable pub linked_of : Dataset → Base → List Entry → ℕ → List ℕ → List ℕ → List ℕ
linked_of d b log n roots us = ascending (map (root d b (log_at d b log n)) (filter (λ u. has roots (root d b (log_at d b log (n + 1)) u)) us))

module _ (d : Dataset) (b : Base) (log : List Entry) (n : ℕ) (roots : List ℕ) where
  -- one more end
  linked_more : (u : ℕ) (us : List ℕ) → linked_of d b log n roots (u ∷ us) ≡ linked_end d b log n roots u (linked_of d b log n roots us)
  unfolding linked_of linked_end ascending
  linked_more u us = go (has roots (root d b (log_at d b log (n + 1)) u))
    where
      f : ℕ → ℕ
      f = root d b (log_at d b log n)

      rest : List ℕ
      rest = filter (λ u. has roots (root d b (log_at d b log (n + 1)) u)) us

      go : (t : Bool) → ascending (map f (cond t (u ∷ rest) rest)) ≡ cond t (put_id (f u) (ascending (map f rest))) (ascending (map f rest))
      go true = refl
      go false = refl

  pub linked_pair : (c : Changed) (us : List ℕ) → linked_of d b log n roots (c.pair.a ∷ c.pair.b ∷ us) ≡ linked_end d b log n roots c.pair.a (linked_end d b log n roots c.pair.b (linked_of d b log n roots us))
  linked_pair c us = linked_more c.pair.a (c.pair.b ∷ us) ∙ ap (linked_end d b log n roots c.pair.a) (linked_more c.pair.b us)

  pub linked_none : [] ≡ linked_of d b log n roots []
  unfolding linked_of ascending
  linked_none = refl

  -- of all ends of an entry they are what it links
  pub linked_all : (e : Entry) → At d b log n e → linked_of d b log n roots (ends e.changed) ≡ ascending (linked_by d b e (log_at d b log n) roots)
  unfolding linked_of linked_by
  linked_all e at = ap (λ l. ascending (map (root d b (log_at d b log n)) (filter (λ u. has roots (root d b l u)) (ends e.changed)))) (at.with_it ∙ ap (λ l. e ∷ l) (sym at.before))

-- the first entry links none
pub first_links : (d : Dataset) (b : Base) (log : List Entry) (e : Entry) (roots : List ℕ) → At d b log 0 e → [] ≡ ascending (linked_by d b e (log_at d b log 0) roots)
unfolding linked_by first_entry ends ascending
first_links d b log e roots at = go at.older at.count at.legal
  where
    go : (older : List Entry) → 0 ≡ length older → Legal d b (e ∷ older) → [] ≡ ascending (map (root d b (log_at d b log 0)) (filter (λ u. has roots (root d b (e ∷ log_at d b log 0) u)) (ends e.changed)))
    go [] c legal = ap (λ cs. ascending (map (root d b (log_at d b log 0)) (filter (λ u. has roots (root d b (e ∷ log_at d b log 0) u)) (ends cs)))) (sym (ap (λ z. z.changed) legal.0))
    go (f ∷ older) c legal = absurd (omega arith)

-- before a walk over an entry's pairs there is none
pub linked_empty : (d : Dataset) (b : Base) (log : List Entry) (n : ℕ) (roots : List ℕ) (cs : List Changed) → [] ≡ linked_of d b log n roots (ends (drop (length cs - 0) cs))
unfolding ends
linked_empty d b log n roots cs =
    let e : length cs - 0 ≡ length cs = omega arith in
    linked_none d b log n roots ∙ sym (ap (λ k. linked_of d b log n roots (ends (drop k cs))) e ∙ ap (λ ds. linked_of d b log n roots (ends ds)) (drop-length cs))

-- Roots that are put to others, one after the other.
pub root_at : (d : Dataset) (b : Base) (log : List Entry) (words : List ℕ) (n : ℕ) (linked : List ℕ) (k x : ℕ) → k < length linked → x ≡ get_or linked k x → AreUnretired d b log words n linked → IsUnretired d b log words x n
root_at d b log words n [] k x l e a = absurd (omega arith)
root_at d b log words n (r ∷ linked) zero x l e a = subst (λ y. IsUnretired d b log words y n) (sym e) a.0
root_at d b log words n (r ∷ linked) (suc k) x l e a = root_at d b log words n linked k x (omega arith) e a.1

pub no_roots : (roots linked : List ℕ) → SameRoots roots (roots ++ take 0 linked)
no_roots roots linked r = ap (λ xs. has xs r) (sym (append-nil roots))

take_next : (xs : List ℕ) (k x : ℕ) → k < length xs → x ≡ get_or xs k x → take (k + 1) xs ≡ take k xs ++ x ∷ []
take_next xs k x l e = subst (λ n. take n xs ≡ take k xs ++ x ∷ []) (add_one k) (go xs k l e)
  where
    add_one : (n : ℕ) → suc n ≡ n + 1
    add_one n = omega arith

    go : (xs : List ℕ) (k : ℕ) → k < length xs → x ≡ get_or xs k x → take (suc k) xs ≡ take k xs ++ x ∷ []
    go [] k l e = absurd (omega arith)
    go (y ∷ ys) zero l e = ap (λ z. z ∷ []) (sym e)
    go (y ∷ ys) (suc k) l e = ap (λ zs. y ∷ zs) (go ys k (omega arith) e)

pub more_roots : (roots linked : List ℕ) (k x : ℕ) → k < length linked → x ≡ get_or linked k x → (old new : List ℕ) → SameRoots old (roots ++ take k linked) → SameRoots new (x ∷ old) → SameRoots new (roots ++ take (k + 1) linked)
more_roots roots linked k x l e old new s t r =
    t r
    ∙ (ap (λ (q : Bool). eqb x r || q) (s r)
    ∙ (turn ∙ ap (λ xs. has xs r) (append_assoc roots (take k linked) (x ∷ []) ∙ ap (λ xs. roots ++ xs) (sym (take_next linked k x l e)))))
  where
    front : List ℕ
    front = roots ++ take k linked

    turn : has (x ∷ front) r ≡ has (front ++ x ∷ []) r
    turn =
        same_bool (has (x ∷ front) r) (has (front ++ x ∷ []) r)
        (λ h. elim (has_cases x front r h) [ inl q ↦ append_right front (x ∷ []) r (subst (λ z. has (x ∷ []) z ≡ true) q (has_head x [])) | inr m ↦ append_left front (x ∷ []) r m ])
        (λ h. elim (append_cases front (x ∷ []) r h) [
          | inl m ↦ has_tail x front r m
          | inr m ↦ elim (has_cases x [] r m) [ inl q ↦ subst (λ z. has (x ∷ front) z ≡ true) q (has_head x front) | inr z ↦ has_none r z ]
        ])

pub all_roots : (roots linked : List ℕ) (k : ℕ) → length linked ≤ k → (new : List ℕ) → SameRoots new (roots ++ take k linked) → SameRoots new (roots ++ linked)
all_roots roots linked k l new s r = s r ∙ ap (λ xs. has (roots ++ xs) r) (take_all linked k l)
  where
    take_all : (xs : List ℕ) (n : ℕ) → length xs ≤ n → take n xs ≡ xs
    take_all [] zero m = refl
    take_all [] (suc n) m = refl
    take_all (x ∷ xs) zero m = absurd (omega arith)
    take_all (x ∷ xs) (suc n) m = ap (λ ys. x ∷ ys) (take_all xs n (omega arith))

-- in what order they were put is no matter
pub same_linked : (roots linked ids new : List ℕ) → ids ≡ ascending linked → SameRoots new (roots ++ ids) → SameRoots new (roots ++ linked)
same_linked roots linked ids new q s r =
    s r
    ∙ (ap (λ xs. has (roots ++ xs) r) q
    ∙ same_bool (has (roots ++ ascending linked) r) (has (roots ++ linked) r)
    (λ h. elim (append_cases roots (ascending linked) r h) [ inl k ↦ append_left roots linked r k | inr k ↦ append_right roots linked r (ascending_only linked r k) ])
    (λ h. elim (append_cases roots linked r h) [ inl k ↦ append_left roots (ascending linked) r k | inr k ↦ append_right roots (ascending linked) r (ascending_has linked r k) ]))
