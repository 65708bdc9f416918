-- What giving back a lock comes to.
use Rattle.std.proofs.Common.{◌≡◌, ℕ, zero, suc, ◌<◌, ◌≤◌, Bool, true, false, ◌||◌, eqb, List, [], ◌∷◌, length, get_or, set, refl, sym, ◌∙◌, ap, subst, inl, inr, ◌⊎◌, arith, get_or-set_same, get_or-set_other, eq-eqb}
use Rattle.std.specs.List.{AllByRecursion}
use Rattle.std.proofs.lemmas.Bool.{eqb-true, ne_eqb, cases_eq}
use Rattle.graph_model.specs.Lists.{has}
use Rattle.graph_model.proofs.ListLemmas.{has_head, has_cases, has_none}
use Rattle.session_machine.specs.Machine as machine
use Rattle.client_events.specs.declared.phases.After.{After}
use Rattle.client_events.specs.declared.phases.Phase.{Phase}
use Rattle.client_events.specs.declared.phases.Phase.TheVariants as phase
use Rattle.client_events.specs.Phases.{after_of, phase_of}
use Rattle.client_events.specs.Events.{Holds, Released}

past_end : (xs : List ℕ) (n : ℕ) → length xs ≤ n → get_or xs n 0 ≡ 0
past_end [] zero l = refl
past_end [] (suc n) l = refl
past_end (x ∷ xs) zero l = absurd (omega arith)
past_end (x ∷ xs) (suc n) l = past_end xs n (omega arith)

module _ (locks : List ℕ) (client : ℕ) (table : length locks ≡ 64) (pos : 0 < client) where
  -- a held lock is one of the table
  held_at : (held : List ℕ) (n : ℕ) → Holds locks client held → has held n ≡ true → (get_or locks n 0 ≡ client) × (n < 64)
  held_at held n o h =
      let e : get_or locks n 0 ≡ client = eqb-true _ _ (o.mine n ∙ h) in
      (e, below n e)
    where
      below : (n : ℕ) → get_or locks n 0 ≡ client → n < 64
      below n e = elim (cases_or n) [ inl l ↦ l | inr l ↦ absurd (omega (arith, past_end locks n (omega arith), e)) ]
        where
          cases_or : (n : ℕ) → (n < 64) ⊎ (64 ≤ n)
          cases_or n = grind arith

  none_held : (held : List ℕ) → ((m : ℕ) → m < 64 → get_or locks m 0 ≡ client → ⊥) → Holds locks client held → held ≡ []
  none_held [] f o = refl
  none_held (n ∷ ns) f o = let p = held_at (n ∷ ns) n o (has_head n ns) in absurd (f n p.1 p.0)

  some_held : (held : List ℕ) (n : ℕ) → get_or locks n 0 ≡ client → Holds locks client held → has held n ≡ true
  some_held held n e o = sym (o.mine n) ∙ eq-eqb _ _ e

below_all : (n : ℕ) (ns : List ℕ) (m : ℕ) → AllByRecursion (λ x. x < n) ns → has ns m ≡ true → m < n
below_all n [] m a h = has_none m h
below_all n (x ∷ xs) m a h = elim (has_cases x xs m h) [ inl e ↦ omega (arith, a.0) | inr k ↦ below_all n xs m a.1 k ]

-- the greatest of the table is the first held
first_held : (locks : List ℕ) (client : ℕ) → length locks ≡ 64 → 0 < client → (held : List ℕ) (n : ℕ) → get_or locks n 0 ≡ client
    → ((m : ℕ) → n < m → m < 64 → get_or locks m 0 ≡ client → ⊥) → Holds locks client held → (ns : List ℕ) × (held ≡ n ∷ ns)
first_held locks client table pos [] n e f o = has_none n (some_held locks client table pos [] n e o)
first_held locks client table pos (h ∷ hs) n e f o =
    elim (has_cases h hs n (some_held locks client table pos (h ∷ hs) n e o)) [
      | inl q ↦ (hs, ap (λ x. x ∷ hs) q)
      | inr k ↦ let p = held_at locks client table pos (h ∷ hs) h o (has_head h hs) in absurd (f h (below_all h hs n o.order.0 k) p.1 p.0)
    ]

below_has : (n : ℕ) (ns : List ℕ) → AllByRecursion (λ m. m < n) ns → has ns n ≡ false
below_has n ns a = no (has ns n) refl
  where
    no : (t : Bool) → has ns n ≡ t → t ≡ false
    no true e = absurd (omega (arith, below_all n ns n a e))
    no false e = refl

-- what is held once the first lock is given back
unset : (locks : List ℕ) (client : ℕ) → length locks ≡ 64 → 0 < client → (n : ℕ) (ns : List ℕ) → n < length locks → Holds locks client (n ∷ ns) → Holds (set locks n 0) client ns
unset locks client table pos n ns l o = record { mine = each; order = o.order.1 }
  where
    each : (m : ℕ) → eqb (get_or (set locks n 0) m 0) client ≡ has ns m
    each m =
        elim (cases_eq m n) [
          | inl e ↦ subst (λ x. eqb (get_or (set locks n 0) x 0) client ≡ has ns x) (sym e)
              (rw (get_or-set_same locks n 0 0 l) (ne_eqb 0 client (λ q. omega arith) ∙ sym (below_has n ns o.order.0)))
          | inr k ↦ rw (get_or-set_other locks n m 0 0 k) (o.mine m ∙ ap (λ t. t || has ns m) (ne_eqb n m (λ q. k (sym q))))
        ]

set_length : (xs : List ℕ) (n x : ℕ) → length (set xs n x) ≡ length xs
set_length [] n x = refl
set_length (y ∷ ys) zero x = refl
set_length (y ∷ ys) (suc n) x = ap suc (set_length ys n x)

-- nothing was held
pub released_none : (locks : List ℕ) (client : ℕ) (a : After) (p : Phase) → length locks ≡ 64 → 0 < client → ((m : ℕ) → m < 64 → get_or locks m 0 ≡ client → ⊥)
    → ((i line : ℕ) → phase_of i line p ≡ machine.after (after_of a)) → Released locks client a locks p
released_none locks client a p table pos f q sh s line e o =
    subst (λ held. (locks ≡ (machine.give_back sh s (after_of a) held).0.locks) × (phase_of client line p ≡ (machine.give_back sh s (after_of a) held).1.phase))
    (sym (none_held locks client table pos s.held f o)) (sym e, q client line)

-- the last lock was given back
pub released_last : (locks : List ℕ) (client : ℕ) (a : After) (p : Phase) (n : ℕ) → length locks ≡ 64 → 0 < client → n < 64 → get_or locks n 0 ≡ client
    → ((m : ℕ) → n < m → m < 64 → get_or locks m 0 ≡ client → ⊥) → ((m : ℕ) → m < 64 → get_or (set locks n 0) m 0 ≡ client → ⊥)
    → ((i line : ℕ) → phase_of i line p ≡ machine.after (after_of a)) → Released locks client a (set locks n 0) p
released_last locks client a p n table pos l c f g q sh s line e o = go (first_held locks client table pos s.held n c f o)
  where
    M : List ℕ → Type 0
    M held = (set locks n 0 ≡ (machine.give_back sh s (after_of a) held).0.locks) × (phase_of client line p ≡ (machine.give_back sh s (after_of a) held).1.phase)

    go : (ns : List ℕ) × (s.held ≡ n ∷ ns) → M s.held
    go (ns, h) =
        let k = unset locks client table pos n ns (omega arith) (subst (Holds locks client) h o) in
        let z : ns ≡ [] = none_held (set locks n 0) client (set_length locks n 0 ∙ table) pos ns g k in
        subst M (sym h) (subst (λ xs. M (n ∷ xs)) (sym z) (ap (λ xs. set xs n 0) (sym e), q client line))

-- a lock was given back, and others are left
pub released_more : (locks : List ℕ) (client : ℕ) (a : After) (n k : ℕ) → length locks ≡ 64 → 0 < client → n < 64 → get_or locks n 0 ≡ client
    → ((m : ℕ) → n < m → m < 64 → get_or locks m 0 ≡ client → ⊥) → get_or (set locks n 0) k 0 ≡ client
    → Released locks client a (set locks n 0) (phase.Releasing a)
released_more locks client a n k table pos l c f g sh s line e o = go (first_held locks client table pos s.held n c f o)
  where
    M : List ℕ → Type 0
    M held = (set locks n 0 ≡ (machine.give_back sh s (after_of a) held).0.locks) × (machine.Releasing (after_of a) ≡ (machine.give_back sh s (after_of a) held).1.phase)

    go : (ns : List ℕ) × (s.held ≡ n ∷ ns) → M s.held
    go (ns, h) =
        let u = unset locks client table pos n ns (omega arith) (subst (Holds locks client) h o) in
        subst M (sym h) (rest ns (some_held (set locks n 0) client (set_length locks n 0 ∙ table) pos ns k g u))
      where
        rest : (ns : List ℕ) → has ns k ≡ true → M (n ∷ ns)
        rest [] t = has_none k t
        rest (m ∷ ms) t = (ap (λ xs. set xs n 0) (sym e), refl)
