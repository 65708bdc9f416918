-- The walk back, from one entry that it meets to the next.
use Rattle.std.proofs.Common.{◌≡◌, ℕ, zero, suc, ◌+◌, ◌-◌, ◌<◌, ◌≤◌, true, false, List, [], ◌∷◌, ◌++◌, length, map, drop, reverse, Some, refl, sym, ◌∙◌, ap, ap₂, subst, inl, inr, arith, append-nil, append_assoc}
use Rattle.std.specs.List.{AllByRecursion}
use Rattle.std.proofs.Math.Seq.{drop-length}
use Rattle.std.proofs.lemmas.Bool.{cond-true, false_from_ne_true}
use Rattle.op_model.specs.declared.base.Dataset.{Dataset}
use Rattle.op_model.specs.declared.base.Base.{Base}
use Rattle.op_model.specs.declared.entry.Entry.{Entry}
use Rattle.op_model.specs.declared.reply.Summary.{Summary}
use Rattle.graph_model.specs.Lists.{has}
use Rattle.graph_model.proofs.ListLemmas.{has_cases, has_head, has_none, same_bool}
use Rattle.op_model.specs.Answers.{ancestors, changes, summary}
use Rattle.log_rows.specs.declared.records.Head.{Head}
use Rattle.log_rows.specs.Heads.{head_of}
use Rattle.op_model.specs.Legal.{Legal}
use Rattle.op_model.specs.Operations.{entry_at}
use Rattle.op_model.specs.Transcript.{log_at}
use Rattle.op_model.specs.Valid.{IsAscending, IsDataset, IsBase}
use Rattle.op_model.proofs.LegalLemmas.{all_has}
use Rattle.op_model.proofs.LinkLemmas.{append_cases, append_left, append_right}
use Rattle.layer_laws.proofs.OrderLemmas.{ascending_above, ascending_tail}
use Rattle.change_laws.specs.Visits.{linked_by, meets, visits}
use Rattle.change_laws.proofs.Visiting.{skipped, visited, visits_alike}
use Rattle.change_reader.specs.Walks.{SameRoots, Waits}
use Rattle.change_reader.proofs.EntryPlaces.{at_entry, at_number}

-- more than each number that waits
unfoldable pub limit : List ℕ → ℕ
limit [] = 0
limit (n ∷ []) = n + 1
limit (n ∷ m ∷ ms) = limit (m ∷ ms)

last_limit : (rest : List ℕ) (n : ℕ) → limit (rest ++ n ∷ []) ≡ n + 1
unfolding limit
last_limit [] n = refl
last_limit (m ∷ []) n = refl
last_limit (m ∷ k ∷ rest) n = last_limit (k ∷ rest) n

limit_few : (n : ℕ) (ms : List ℕ) → AllByRecursion (λ m. m < n) ms → limit ms ≤ n
unfolding limit
limit_few n [] a = omega arith
limit_few n (m ∷ []) a = let l = a.0 in omega arith
limit_few n (m ∷ k ∷ ms) a = limit_few n (k ∷ ms) a.1

none_left : (ms : List ℕ) → length ms ≡ 0 → ms ≡ []
none_left [] e = refl
none_left (m ∷ ms) e = absurd (omega arith)

-- an ascending list without its last number
module _ (n : ℕ) where
  front_order : (rest : List ℕ) → IsAscending (rest ++ n ∷ []) → IsAscending rest
  front_order [] a = tt
  front_order (m ∷ []) a = tt
  front_order (m ∷ k ∷ rest) a = (a.0, front_order (k ∷ rest) a.1)

  front_below : (rest : List ℕ) → IsAscending (rest ++ n ∷ []) → AllByRecursion (λ m. m < n) rest
  front_below [] a = tt
  front_below (m ∷ rest) a = (ascending_above (rest ++ n ∷ []) m n a (append_right rest (n ∷ []) n (has_head n [])), front_below rest (ascending_tail m (rest ++ n ∷ []) a))

module _ (log : List Entry) (below : ℕ) (roots rest : List ℕ) (n : ℕ) (w : Waits log below roots (rest ++ n ∷ [])) where
  pub last_below : n < below
  last_below = all_has (λ m. m < below) (rest ++ n ∷ []) n w.few (append_right rest (n ∷ []) n (has_head n []))

  -- the others wait below the last one
  pub others_wait : Waits log n roots rest
  others_wait = record {
    order = front_order n rest w.order;
    few = front_below n rest w.order;
    exact = λ m e h l. same m l ∙ w.exact m e h (let k = last_below in omega arith);
  }
    where
      same : (m : ℕ) → m < n → has rest m ≡ has (rest ++ n ∷ []) m
      same m l =
          same_bool (has rest m) (has (rest ++ n ∷ []) m) (append_left rest (n ∷ []) m)
          (λ h. elim (append_cases rest (n ∷ []) m h) [
            | inl k ↦ k
            | inr k ↦ elim (has_cases n [] m k) [ inl q ↦ absurd (let s : n ≡ m = q in omega arith) | inr z ↦ has_none m z ]
          ])

  -- between it and the bound none waits
  pub none_between : (m : ℕ) (e : Entry) → entry_at log m ≡ Some e → n < m → m < below → meets e roots ≡ false
  none_between m e h low high =
      sym (w.exact m e h high)
      ∙ false_from_ne_true _ (λ t. elim (append_cases rest (n ∷ []) m t) [
        | inl k ↦ absurd (let s : m < n = all_has (λ z. z < n) rest m (front_below n rest w.order) k in omega arith)
        | inr k ↦ elim (has_cases n [] m k) [ inl q ↦ absurd (let s : n ≡ m = q in omega arith) | inr z ↦ has_none m z ]
      ])

  -- the entry itself meets the roots
  pub last_meets : (e : Entry) → entry_at log n ≡ Some e → meets e roots ≡ true
  last_meets e h = sym (w.exact n e h last_below) ∙ append_right rest (n ∷ []) n (has_head n [])

module _ (d : Dataset) (b : Base) (valid : IsDataset d) (base : IsBase d b) (log : List Entry) (legal : Legal d b log) where
  -- the walk skips entries that don't meet its roots
  skips : (roots : List ℕ) (low more : ℕ) → low + more ≤ length log → ((m : ℕ) (e : Entry) → entry_at log m ≡ Some e → low ≤ m → m < low + more → meets e roots ≡ false)
      → visits d b (log_at d b log (low + more)) roots ≡ visits d b (log_at d b log low) roots
  skips roots low zero h none = ap (λ k. visits d b (log_at d b log k) roots) (let q : low + 0 ≡ low = omega arith in q)
  skips roots low (suc more) h none =
      let x = at_number d b log (low + more) legal (omega arith) in
      let at = x.1 in
      let miss : meets x.0 roots ≡ false = none (low + more) x.0 at.found (omega arith) (omega arith) in
      let q : low + suc more ≡ low + more + 1 = omega arith in
      ap (λ k. visits d b (log_at d b log k) roots) q
      ∙ (ap (λ l. visits d b l roots) at.with_it
      ∙ (skipped d b valid base (x.0 ∷ []) at.older roots at.legal (miss, tt)
      ∙ (ap (λ l. visits d b l roots) (sym at.before)
      ∙ skips roots low more (omega arith) (λ m e k low_m high. none m e k low_m (omega arith)))))

  skip_to : (roots : List ℕ) (low high : ℕ) → low ≤ high → high ≤ length log → ((m : ℕ) (e : Entry) → entry_at log m ≡ Some e → low ≤ m → m < high → meets e roots ≡ false)
      → visits d b (log_at d b log high) roots ≡ visits d b (log_at d b log low) roots
  skip_to roots low high l h none =
      let q : low + (high - low) ≡ high = omega arith in
      ap (λ k. visits d b (log_at d b log k) roots) (sym q) ∙ skips roots low (high - low) (omega arith) (λ m e k a z. none m e k a (omega arith))

  -- a walk from a root through a prefix that told of these entries; the others are below a number, where it goes on
  pub record Walked (prefix r : ℕ) (waiting roots : List ℕ) (found : List Summary) : Type 0 where
    pub below : ℕ
    pub high : below ≤ length log
    pub told : map summary (visits d b (log_at d b log prefix) (r ∷ [])) ≡ found ++ map summary (visits d b (log_at d b log below) roots)
    pub waits : Waits log below roots waiting

  pub walk_starts : (prefix r : ℕ) (waiting roots : List ℕ) (found : List Summary) → prefix ≤ length log → Waits log prefix (r ∷ []) waiting → roots ≡ r ∷ [] → found ≡ [] → Walked prefix r waiting roots found
  walk_starts prefix r waiting roots found h w q f = record {
    below = prefix;
    high = h;
    told = ap₂ (λ (xs : List Summary) (rs : List ℕ). xs ++ map summary (visits d b (log_at d b log prefix) rs)) (sym f) (sym q);
    waits = subst (λ rs. Waits log prefix rs waiting) (sym q) w;
  }

  -- what is taken from those that wait is an entry's number, and the others wait below it
  pub popped : (prefix r : ℕ) (waiting roots : List ℕ) (found : List Summary) (rest : List ℕ) (n : ℕ) → waiting ≡ rest ++ n ∷ [] → Walked prefix r waiting roots found → n < length log
  popped prefix r waiting roots found rest n q w =
      let l = last_below log w.below roots rest n (subst (Waits log w.below roots) q w.waits) in
      let h = w.high in
      omega (arith, l, h)

  pub others : (prefix r : ℕ) (waiting roots : List ℕ) (found : List Summary) (rest : List ℕ) (n : ℕ) → waiting ≡ rest ++ n ∷ [] → Walked prefix r waiting roots found → Waits log n roots rest
  others prefix r waiting roots found rest n q w = others_wait log w.below roots rest n (subst (Waits log w.below roots) q w.waits)

  -- the next entry is the greatest that waits
  pub walk_goes : (prefix r : ℕ) (waiting roots : List ℕ) (found : List Summary) (rest : List ℕ) (n : ℕ) (e : Entry) (more : List ℕ) (new : List ℕ) (list : List Summary)
      → waiting ≡ rest ++ n ∷ [] → Walked prefix r waiting roots found → entry_at log n ≡ Some e
      → Waits log n new more → SameRoots new (roots ++ linked_by d b e (log_at d b log n) roots) → list ≡ found ++ summary e ∷ []
      → Walked prefix r more new list
  unfolding visits
  walk_goes prefix r waiting roots found rest n e more new list q w h m same f =
      let ws : Waits log w.below roots (rest ++ n ∷ []) = subst (Waits log w.below roots) q w.waits in
      let at = at_entry d b log n e legal h in
      let low : n < w.below = last_below log w.below roots rest n ws in
      let high : w.below ≤ length log = w.high in
      let met : meets e roots ≡ true = last_meets log w.below roots rest n ws e h in
      let linked : List ℕ = linked_by d b e (log_at d b log n) roots in
      let skip : visits d b (log_at d b log w.below) roots ≡ visits d b (log_at d b log (n + 1)) roots =
      skip_to roots (n + 1) w.below (omega arith) high (λ k g c a z. none_between log w.below roots rest n ws k g c (omega arith) z) in
      let opened : visits d b (log_at d b log (n + 1)) roots ≡ e ∷ visits d b (log_at d b log n) (roots ++ linked) =
      ap (λ l. visits d b l roots) (at.with_it ∙ ap (λ l. e ∷ l) (sym at.before))
      ∙ cond-true (meets e roots) (e ∷ visits d b (log_at d b log n) (roots ++ linked)) (visits d b (log_at d b log n) (roots ++ linked)) met in
      let alike : visits d b (log_at d b log n) (roots ++ linked) ≡ visits d b (log_at d b log n) new = visits_alike d b (log_at d b log n) (roots ++ linked) new (λ x. sym (same x)) in
      record {
        below = n;
        high = omega arith;
        told =
            w.told
            ∙ (ap (λ es. found ++ map summary es) (skip ∙ (opened ∙ ap (λ es. e ∷ es) alike))
            ∙ (sym (append_assoc found (summary e ∷ []) (map summary (visits d b (log_at d b log n) new)))
            ∙ ap (λ xs. xs ++ map summary (visits d b (log_at d b log n) new)) (sym f)));
        waits = m;
      }

  -- where none waits, it has told of all
  pub walk_ends : (prefix r : ℕ) (waiting roots : List ℕ) (found : List Summary) → length waiting ≡ 0 → Walked prefix r waiting roots found → found ≡ map summary (visits d b (log_at d b log prefix) (r ∷ []))
  unfolding visits log_at
  walk_ends prefix r waiting roots found q w =
      let high : w.below ≤ length log = w.high in
      let ws : Waits log w.below roots [] = subst (Waits log w.below roots) (none_left waiting q) w.waits in
      let skip : visits d b (log_at d b log w.below) roots ≡ visits d b (log_at d b log 0) roots =
      skip_to roots 0 w.below (omega arith) high (λ m e h a z. sym (ws.exact m e h z)) in
      let zero_is : length log - 0 ≡ length log = omega arith in
      let none : log_at d b log 0 ≡ [] = ap (λ k. drop k log) zero_is ∙ drop-length log in
      sym (w.told ∙ (ap (λ es. found ++ map summary es) (skip ∙ ap (λ l. visits d b l roots) none) ∙ append-nil found))

  -- with each step the greatest number that may wait falls
  pub walk_falls : (prefix r : ℕ) (waiting : List ℕ) (rest : List ℕ) (n : ℕ) (more new : List ℕ) → waiting ≡ rest ++ n ∷ [] → Waits log n new more → limit more < limit waiting
  walk_falls prefix r waiting rest n more new q m =
      let a = limit_few n more m.few in
      let z = ap limit q ∙ last_limit rest n in
      omega (arith, a, z)

-- reversed it is what the definitions answer
pub walk_answers : (d : Dataset) (b : Base) → IsDataset d → IsBase d b → (log : List Entry) (r : ℕ) → Legal d b log → (list found : List Summary) → list ≡ reverse found → found ≡ map summary (visits d b log (r ∷ [])) → list ≡ changes d b log (ancestors d b log (r ∷ []))
walk_answers d b valid base log r legal list found q f = q ∙ (ap reverse f ∙ sym (visited d b valid base log (r ∷ []) legal))

-- an entry as a list of changes shows it, by its head
pub summary_by : (n : ℕ) (h : Head) (e : Entry) → e.number ≡ n → h ≡ head_of e → let s : Summary = record { op = n; at = h.at; kind = h.kind } in s ≡ summary e
unfolding summary head_of
summary_by n h e q s =
    ap (λ k. record { op = k; at = h.at; kind = h.kind }) (sym q) ∙ ap (λ (g : Head). record { op = e.number; at = g.at; kind = g.kind }) s
