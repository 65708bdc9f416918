-- The numbers of a schedule are those of clients.
use Rattle.std.proofs.Common.{◌≡◌, ◌≤◌, ◌<◌, ℕ, ◌+◌, Bool, true, false, ◌&&◌, nat_le, if◌then◌else◌, List, [], ◌∷◌, Option, Some, None, Result, Ok, Err, refl, sym, subst, leb-true}
use Rattle.std.specs.List.{AllByRecursion}
use Rattle.schedules.specs.Schedules.{client_of, clients_from, named_by, schedule_of, within}
use Rattle.schedules.specs.Words.{words_of}
use Rattle.node_ids.specs.Digits.{number_of}
use Rattle.job_tables.specs.Made.{Named}

-- a number from 1 to this many
IsIn : ℕ → ℕ → Type 0
IsIn clients n = (0 < n) × (n ≤ clients)

some_in : (clients m n : ℕ) (x y : Bool) → nat_le 1 m ≡ x → nat_le m clients ≡ y → (if x && y then Some m else None) ≡ Some n → IsIn clients n
unfolding IsIn
some_in clients m n true true e f s =
    let same : m ≡ n = cc s in
    subst (λ k. (0 < k) × (k ≤ clients)) same (leb-true 1 m e, leb-true m clients f)
some_in clients m n true false e f s = absurd (cc)
some_in clients m n false true e f s = absurd (cc)
some_in clients m n false false e f s = absurd (cc)

one_in : (clients n : ℕ) (o : Option ℕ) → within clients o ≡ Some n → IsIn clients n
one_in clients n None e = absurd (cc)
one_in clients n (Some m) e = some_in clients m n (nat_le 1 m) (nat_le m clients) refl refl e

client_in : (clients n : ℕ) (w : List ℕ) → client_of clients w ≡ Some n → IsIn clients n
unfolding client_of
client_in clients n w e = one_in clients n (number_of w) e

all_in : (clients word : ℕ) (ws : List (List ℕ)) (ns : List ℕ) → clients_from clients word ws ≡ Ok ns → AllByRecursion (IsIn clients) ns
unfolding clients_from
all_in clients word [] ns e =
    let same : [] ≡ ns = cc e in
    subst (AllByRecursion (IsIn clients)) same tt
all_in clients word (w ∷ ws) ns e = step (client_of clients w) (clients_from clients (word + 1) ws) (λ n. client_in clients n w) (all_in clients (word + 1) ws) e
  where
    step : (o : Option ℕ) (r : Result (List ℕ) ℕ) → ((n : ℕ) → o ≡ Some n → IsIn clients n) → ((ms : List ℕ) → r ≡ Ok ms → AllByRecursion (IsIn clients) ms) → named_by word o r ≡ Ok ns
        → AllByRecursion (IsIn clients) ns
    step None r one rest s = absurd (cc)
    step (Some n) (Err bad) one rest s = absurd (cc)
    step (Some n) (Ok ms) one rest s =
        let same : n ∷ ms ≡ ns = cc s in
        subst (AllByRecursion (IsIn clients)) same (one n refl, rest ms refl)

pub named_in : (clients : ℕ) (text : Option (List ℕ)) (ns : List ℕ) → Named clients text ns → AllByRecursion (λ n. (0 < n) × (n ≤ clients)) ns
unfolding IsIn schedule_of
named_in clients None ns e = subst (AllByRecursion (λ n. (0 < n) × (n ≤ clients))) (sym e) tt
named_in clients (Some text) ns e = all_in clients 1 (words_of text) ns e
