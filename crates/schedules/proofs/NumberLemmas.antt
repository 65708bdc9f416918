-- The numbers of a schedule while they are read.
use Rattle.std.proofs.Common.{◌≡◌, ℕ, ◌+◌, List, [], ◌∷◌, ◌++◌, Some, None, Result, Ok, Err, ap, refl, sym}
use Rattle.schedules.specs.Schedules.{client_of, clients_from, in_front}

-- numbers in front of the others
unfoldable pub onto : List ℕ → Result (List ℕ) ℕ → Result (List ℕ) ℕ
onto [] r = r
onto (n ∷ ns) r = in_front n (onto ns r)

onto_one : (ns : List ℕ) (n : ℕ) (r : Result (List ℕ) ℕ) → onto (ns ++ n ∷ []) r ≡ onto ns (in_front n r)
unfolding onto
onto_one [] n r = refl
onto_one (m ∷ ns) n r = ap (in_front m) (onto_one ns n r)

onto_bad : (ns : List ℕ) (word : ℕ) → onto ns (Err word) ≡ Err word
unfolding onto
onto_bad [] word = refl
onto_bad (n ∷ ns) word = rw (onto_bad ns word) refl

onto_all : (ns : List ℕ) → onto ns (Ok []) ≡ Ok ns
unfolding onto
onto_all [] = refl
onto_all (n ∷ ns) = rw (onto_all ns) refl

pub begun : (r : Result (List ℕ) ℕ) → r ≡ onto [] r
unfolding onto
begun r = refl

pub one_read : (clients word : ℕ) (ns : List ℕ) (w : List ℕ) (ws : List (List ℕ)) (n : ℕ) → client_of clients w ≡ Some n
    → onto ns (clients_from clients word (w ∷ ws)) ≡ onto (ns ++ n ∷ []) (clients_from clients (word + 1) ws)
unfolding clients_from
one_read clients word ns w ws n e = rw e (sym (onto_one ns n (clients_from clients (word + 1) ws)))

pub bad_read : (clients word : ℕ) (ns : List ℕ) (w : List ℕ) (ws : List (List ℕ)) → client_of clients w ≡ None → onto ns (clients_from clients word (w ∷ ws)) ≡ Err word
unfolding clients_from
bad_read clients word ns w ws e = rw e (onto_bad ns word)

pub all_read : (clients word : ℕ) (ns : List ℕ) → onto ns (clients_from clients word []) ≡ Ok ns
unfolding clients_from
all_read clients word ns = onto_all ns
