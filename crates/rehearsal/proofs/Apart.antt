-- The names of a job's files are apart.
use Rattle.std.proofs.Common.{◌≡◌, ℕ, zero, suc, Bool, true, false, not, ◌&&◌, ◌||◌, List, [], ◌∷◌, ◌++◌, map, take, Some, bytes_eq, refl, sym, subst}
use Rattle.std.specs.Prelude.{option_to_list}
use Rattle.std.specs.List.{list_any}
use Rattle.std.proofs.lemmas.Bool.{false≢true}
use Rattle.pcg_words.specs.declared.job.RehearseJob.{RehearseJob}
use Rattle.pcg_words.specs.Job.{IsRehearse, all_differ, answer_file, client_files, file_names, request_file}

and_left : (x y : Bool) → (x && y) ≡ true → x ≡ true
and_left true y e = refl
and_left false y e = e

and_right : (x y : Bool) → (x && y) ≡ true → y ≡ true
and_right true y e = e
and_right false y e = absurd (false≢true e)

and_both : (x y : Bool) → x ≡ true → y ≡ true → (x && y) ≡ true
and_both true true p q = refl
and_both true false p q = q
and_both false y p q = p

not_true : (x : Bool) → not x ≡ true → x ≡ false
not_true true e = sym e
not_true false e = refl

true_not : (x : Bool) → x ≡ false → not x ≡ true
true_not true e = sym e
true_not false e = refl

or_left : (x y : Bool) → (x || y) ≡ false → x ≡ false
or_left true y e = e
or_left false y e = refl

or_right : (x y : Bool) → (x || y) ≡ false → y ≡ false
or_right true y e = absurd (false≢true (sym e))
or_right false y e = e

or_both : (x y : Bool) → x ≡ false → y ≡ false → (x || y) ≡ false
or_both true y p q = p
or_both false y p q = q

pub any_take : (p : List ℕ → Bool) (n : ℕ) (xs : List (List ℕ)) → list_any p xs ≡ false → list_any p (take n xs) ≡ false
any_take p zero xs e = refl
any_take p (suc n) [] e = refl
any_take p (suc n) (x ∷ xs) e = or_both (p x) _ (or_left (p x) _ e) (any_take p n xs (or_right (p x) _ e))

any_behind : (p : List ℕ → Bool) (xs ys : List (List ℕ)) → list_any p (xs ++ ys) ≡ false → list_any p ys ≡ false
any_behind p [] ys e = e
any_behind p (x ∷ xs) ys e = any_behind p xs ys (or_right (p x) _ e)

-- what is none of the clients' files is none of their requests
none_requested : (p : List ℕ → Bool) (stems : List (List ℕ)) → list_any p (client_files stems) ≡ false → list_any p (map request_file stems) ≡ false
unfolding client_files
none_requested p [] e = refl
none_requested p (s ∷ ss) e =
    or_both (p (request_file s)) _ (or_left (p (request_file s)) _ e) (none_requested p ss (or_right (p (answer_file s)) _ (or_right (p (request_file s)) _ e)))

none_answered : (p : List ℕ → Bool) (stems : List (List ℕ)) → list_any p (client_files stems) ≡ false → list_any p (map answer_file stems) ≡ false
unfolding client_files
none_answered p [] e = refl
none_answered p (s ∷ ss) e =
    let rest = or_right (p (request_file s)) _ e in
    or_both (p (answer_file s)) _ (or_left (p (answer_file s)) _ rest) (none_answered p ss (or_right (p (answer_file s)) _ rest))

differ_behind : (x : List ℕ) (xs : List (List ℕ)) → all_differ (x ∷ xs) ≡ true → all_differ xs ≡ true
unfolding all_differ
differ_behind x xs e = and_right (not (list_any (bytes_eq x) xs)) _ e

differ_first : (x : List ℕ) (xs : List (List ℕ)) → all_differ (x ∷ xs) ≡ true → list_any (bytes_eq x) xs ≡ false
unfolding all_differ
differ_first x xs e = not_true _ (and_left (not (list_any (bytes_eq x) xs)) _ e)

differ_append : (xs ys : List (List ℕ)) → all_differ (xs ++ ys) ≡ true → all_differ ys ≡ true
differ_append [] ys e = e
differ_append (x ∷ xs) ys e = differ_append xs ys (differ_behind x (xs ++ ys) e)

requests_differ : (stems : List (List ℕ)) → all_differ (client_files stems) ≡ true → all_differ (map request_file stems) ≡ true
unfolding all_differ client_files
requests_differ [] e = refl
requests_differ (s ∷ ss) e =
    let first = or_right (bytes_eq (request_file s) (answer_file s)) _ (differ_first (request_file s) (answer_file s ∷ client_files ss) e) in
    and_both _ _ (true_not _ (none_requested (bytes_eq (request_file s)) ss first)) (requests_differ ss (differ_behind (answer_file s) (client_files ss) (differ_behind (request_file s) (answer_file s ∷ client_files ss) e)))

answers_differ : (stems : List (List ℕ)) → all_differ (client_files stems) ≡ true → all_differ (map answer_file stems) ≡ true
unfolding all_differ client_files
answers_differ [] e = refl
answers_differ (s ∷ ss) e =
    let rest = differ_behind (request_file s) (answer_file s ∷ client_files ss) e in
    and_both _ _ (true_not _ (none_answered (bytes_eq (answer_file s)) ss (differ_first (answer_file s) (client_files ss) rest))) (answers_differ ss (differ_behind (answer_file s) (client_files ss) rest))

module _ (job : RehearseJob) (ok : IsRehearse job) where
  clients_differ : all_differ (client_files job.stems) ≡ true
  unfolding file_names
  clients_differ =
      differ_append (option_to_list job.schedule) _ (differ_behind job.edges _ (differ_behind job.supervoxels _ ok.names))

  pub names_in : all_differ (map request_file job.stems) ≡ true
  names_in = requests_differ job.stems clients_differ

  pub names_out : all_differ (map answer_file job.stems) ≡ true
  names_out = answers_differ job.stems clients_differ

  pub supervoxels_apart : list_any (bytes_eq job.supervoxels) (map request_file job.stems) ≡ false
  unfolding file_names
  supervoxels_apart =
      none_requested (bytes_eq job.supervoxels) job.stems
      (any_behind (bytes_eq job.supervoxels) (option_to_list job.schedule) _ (or_right (bytes_eq job.supervoxels job.edges) _ (differ_first job.supervoxels _ ok.names)))

  pub edges_apart : list_any (bytes_eq job.edges) (map request_file job.stems) ≡ false
  unfolding file_names
  edges_apart =
      none_requested (bytes_eq job.edges) job.stems (any_behind (bytes_eq job.edges) (option_to_list job.schedule) _ (differ_first job.edges _ (differ_behind job.supervoxels _ ok.names)))

  pub schedule_apart : (name : List ℕ) → job.schedule ≡ Some name → list_any (bytes_eq name) (map request_file job.stems) ≡ false
  unfolding file_names
  schedule_apart name e =
      let rest = subst (λ o. all_differ (option_to_list o ++ client_files job.stems) ≡ true) e (differ_behind job.edges _ (differ_behind job.supervoxels _ ok.names)) in
      none_requested (bytes_eq name) job.stems (differ_first name _ rest)
