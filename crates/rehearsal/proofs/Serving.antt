-- What all clients came to.
use Rattle.std.proofs.Common.{◌≡◌, ℕ, suc, ◌+◌, false, List, [], ◌∷◌, length, map, Option, None, refl, sym, ◌∙◌, ap, subst, arith}
use Rattle.std.specs.Prelude.{slice_get, is_some}
use Rattle.std.specs.List.{AllByRecursion}
use Rattle.op_model.specs.declared.base.Dataset.{Dataset}
use Rattle.op_model.specs.declared.base.Base.{Base}
use Rattle.op_model.specs.declared.entry.Entry.{Entry}
use Rattle.pcg_base.specs.declared.clock.Ticks.{Ticks}
use Rattle.pcg_base.specs.States.{PlaceState, SinkState}
use Rattle.pcg_words.specs.Job.{answer_file, request_file}
use Rattle.record_rows.specs.Readings.{Image}
use Rattle.histories.specs.Histories.{EntriesOwned}
use Rattle.client_answers.specs.declared.answers.ClientAnswers.{ClientAnswers}
use Rattle.client_answers.specs.Written.{FaultsSo}
use Rattle.stream_lines.specs.declared.reading.StreamLines.{StreamLines}
use Rattle.job_files.specs.Clients.{AreEmpty, AreOpened, AreRead, kept_of}
use Rattle.job_files.specs.Kept.{IsKeptIn, IsKeptOut}
use Rattle.job_tables.specs.Inputs.{clock_time}
use Rattle.session_results.specs.declared.playing.SessionsDone.{SessionsDone}
use Rattle.session_results.specs.Ended.{AreDone, AreLines, streams_of}
use Rattle.session_results.specs.Results.{AllSessions, SessionResult}
use Rattle.rehearsal.specs.Clients.{AllClients, broke}
use Rattle.rehearsal.specs.Played.{sources_of}
use Rattle.rehearsal.specs.Served.{AreServed}
use Rattle.rehearsal.proofs.OneClient.{IsKept, one_client, unbroken, unfailed}
use Rattle.rehearsal.proofs.Zips.{ZipAll, length_map, zip_each}

pub are_lines : (lefts : List (Option (List ℕ))) (xs : List (Option (List ℕ) × ℕ)) (rs : List StreamLines) → AreRead lefts xs rs → AreLines (sources_of lefts xs) rs
unfolding sources_of
are_lines [] [] [] h = tt
are_lines [] [] (r ∷ rs) h = absurd h
are_lines [] (x ∷ xs) rs h = absurd h
are_lines (left ∷ lefts) [] rs h = absurd h
are_lines (left ∷ lefts) (x ∷ xs) [] h = absurd h
are_lines (left ∷ lefts) (x ∷ xs) (r ∷ rs) h = (h.0, are_lines lefts xs rs h.1)

read_count : (lefts : List (Option (List ℕ))) (xs : List (Option (List ℕ) × ℕ)) (rs : List StreamLines) → AreRead lefts xs rs → length xs ≡ length lefts
read_count [] [] rs h = refl
read_count [] (x ∷ xs) rs h = absurd h
read_count (left ∷ lefts) [] rs h = absurd h
read_count (left ∷ lefts) (x ∷ xs) [] h = absurd h
read_count (left ∷ lefts) (x ∷ xs) (r ∷ rs) h = ap suc (read_count lefts xs rs h.1)

sources_count : (lefts : List (Option (List ℕ))) (xs : List (Option (List ℕ) × ℕ)) → length xs ≡ length lefts → length (sources_of lefts xs) ≡ length lefts
unfolding sources_of
sources_count [] [] e = refl
sources_count [] (x ∷ xs) e = refl
sources_count (left ∷ lefts) [] e = absurd (omega (arith, e))
sources_count (left ∷ lefts) (x ∷ xs) e = ap suc (sources_count lefts xs (omega (arith, e)))

module _ {S : Type 0} (left : S → Option (List ℕ)) (faults : S → ℕ) where
  pub opened_count : (files : _) (names : List (List ℕ)) (xs : List S) → AreOpened left faults files names xs → length xs ≡ length names
  opened_count files [] [] h = refl
  opened_count files [] (x ∷ xs) h = absurd h
  opened_count files (name ∷ names) [] h = absurd h
  opened_count files (name ∷ names) (x ∷ xs) h = ap suc (opened_count files names xs h.2)

module _ {K : Type 0} (state : K → SinkState) where
  pub empty_count : (files : _) (names : List (List ℕ)) (xs : List (ClientAnswers K)) → AreEmpty state files names xs → length xs ≡ length names
  empty_count files [] [] h = refl
  empty_count files [] (x ∷ xs) h = absurd h
  empty_count files (name ∷ names) [] h = absurd h
  empty_count files (name ∷ names) (x ∷ xs) h = ap suc (empty_count files names xs h.3)

module _ {S K : Type 0} (left : S → Option (List ℕ)) (faults : S → ℕ) (state : K → SinkState) (d : Dataset) (b : Base) (log : List Entry)
    (requests answers : List (List ℕ)) (in_kept out_kept : List (Option (List ℕ) × ℕ)) (s t u v : PlaceState) (kept : IsKept requests answers in_kept out_kept s t u v) where
  all_clients : (client : ℕ) (stems : List (List ℕ)) (xs : List S) (is : List (Option (List ℕ) × ℕ)) (ks ms : List (ClientAnswers K)) (rs : List SessionResult)
      → AreOpened left faults s.files (map request_file stems) xs → AreEmpty state s.files (map answer_file stems) ks
      → ZipAll (λ name x. IsKeptIn name x t u) (map request_file stems) is → ZipAll (λ name x. IsKeptOut name x u v) (map answer_file stems) (map (kept_of state) ms)
      → AllSessions d b log client (streams_of state (sources_of (map left xs) is) ks ms) rs → AllClients d b log s v client stems rs
  unfolding sources_of streams_of
  all_clients client [] [] [] [] [] [] o e zi zo h = tt
  all_clients client [] [] [] [] [] (r ∷ rs) o e zi zo h = absurd h
  all_clients client [] (x ∷ xs) is ks ms rs o e zi zo h = absurd o
  all_clients client [] [] is (k ∷ ks) ms rs o e zi zo h = absurd e
  all_clients client [] [] (i ∷ is) [] ms rs o e zi zo h = absurd zi
  all_clients client [] [] [] [] (m ∷ ms) rs o e zi zo h = absurd zo
  all_clients client (stem ∷ stems) [] is ks ms rs o e zi zo h = absurd o
  all_clients client (stem ∷ stems) (x ∷ xs) is [] ms rs o e zi zo h = absurd e
  all_clients client (stem ∷ stems) (x ∷ xs) [] (k ∷ ks) ms rs o e zi zo h = absurd zi
  all_clients client (stem ∷ stems) (x ∷ xs) (i ∷ is) (k ∷ ks) [] rs o e zi zo h = absurd zo
  all_clients client (stem ∷ stems) (x ∷ xs) (i ∷ is) (k ∷ ks) (m ∷ ms) [] o e zi zo h = absurd h
  all_clients client (stem ∷ stems) (x ∷ xs) (i ∷ is) (k ∷ ks) (m ∷ ms) (r ∷ rs) o e zi zo h = (
    one_client d b log requests answers in_kept out_kept s t u v kept client stem _ r o.0 refl e.0 e.1 zi.0 zo.0 h.0,
    all_clients (client + 1) stems xs is ks ms rs o.2 e.3 zi.1 zo.1 h.1,
  )

  -- sources of streams that weren't broken never failed
  none_broke : (client : ℕ) (lefts : List (Option (List ℕ))) (is : List (Option (List ℕ) × ℕ)) (ks ms : List (ClientAnswers K)) (rs : List SessionResult)
      → length is ≡ length lefts → length ks ≡ length lefts → length ms ≡ length lefts
      → AllSessions d b log client (streams_of state (sources_of lefts is) ks ms) rs → AllByRecursion (λ r. broke r.ending ≡ false) rs → AllByRecursion (λ x. x.1 ≡ 0) is
  unfolding sources_of streams_of
  none_broke client lefts [] ks ms rs a f g h q = tt
  none_broke client [] (i ∷ is) ks ms rs a f g h q = absurd (omega (arith, a))
  none_broke client (l ∷ lefts) (i ∷ is) [] ms rs a f g h q = absurd (omega (arith, f))
  none_broke client (l ∷ lefts) (i ∷ is) (k ∷ ks) [] rs a f g h q = absurd (omega (arith, g))
  none_broke client (l ∷ lefts) (i ∷ is) (k ∷ ks) (m ∷ ms) [] a f g h q = absurd h
  none_broke client (l ∷ lefts) (i ∷ is) (k ∷ ks) (m ∷ ms) (r ∷ rs) a f g h q =
      (unbroken r.ending h.0.taken r.lines l i.0 i.1 h.0.ends q.0, none_broke (client + 1) lefts is ks ms rs (omega (arith, a)) (omega (arith, f)) (omega (arith, g)) h.1 q.1)

  -- sinks whose writing never failed never did
  none_failed : (client : ℕ) (names : List (List ℕ)) (lefts : List (Option (List ℕ))) (is : List (Option (List ℕ) × ℕ)) (ks ms : List (ClientAnswers K)) (rs : List SessionResult)
      → length is ≡ length lefts → length lefts ≡ length names → AreEmpty state s.files names ks → length ms ≡ length names
      → AllSessions d b log client (streams_of state (sources_of lefts is) ks ms) rs → AllByRecursion (λ r. r.last ≡ None) rs → AllByRecursion (λ x. x.1 ≡ 0) (map (kept_of state) ms)
  unfolding sources_of streams_of
  none_failed client names lefts is ks [] rs a f e g h q = tt
  none_failed client [] lefts is ks (m ∷ ms) rs a f e g h q = absurd (omega (arith, g))
  none_failed client (n ∷ names) [] is ks (m ∷ ms) rs a f e g h q = absurd (omega (arith, f))
  none_failed client (n ∷ names) (l ∷ lefts) [] ks (m ∷ ms) rs a f e g h q = absurd (omega (arith, a))
  none_failed client (n ∷ names) (l ∷ lefts) (i ∷ is) [] (m ∷ ms) rs a f e g h q = absurd e
  none_failed client (n ∷ names) (l ∷ lefts) (i ∷ is) (k ∷ ks) (m ∷ ms) [] a f e g h q = absurd h
  none_failed client (n ∷ names) (l ∷ lefts) (i ∷ is) (k ∷ ks) (m ∷ ms) (r ∷ rs) a f e g h q = (
    unfailed r.last (state m.sink).faults (subst (λ z. FaultsSo z (state m.sink).faults (is_some r.last)) e.1 h.0.broke) q.0,
    none_failed (client + 1) names lefts is ks ms rs (omega (arith, a)) (omega (arith, f)) e.3 (omega (arith, g)) h.1 q.1,
  )

  pub served : (stems : List (List ℕ)) (xs : List S) (read : List StreamLines) (ks ms : List (ClientAnswers K)) (clock : Ticks) (schedule : List ℕ) (done : SessionsDone)
      → requests ≡ map request_file stems → answers ≡ map answer_file stems → out_kept ≡ map (kept_of state) ms
      → AreOpened left faults s.files (map request_file stems) xs → AreEmpty state s.files (map answer_file stems) ks → AreRead (map left xs) in_kept read → length ms ≡ length ks
      → (q : AreDone state d b (clock_time clock 0) clock schedule (sources_of (map left xs) in_kept) ks ms done) → log ≡ q.log → AreServed d b clock schedule stems s v done
  served stems xs read ks ms clock schedule done er ea eo o e rd count q same =
      let requests_are = length_map request_file stems in
      let answers_are = length_map answer_file stems in
      let n_xs = opened_count left faults s.files (map request_file stems) xs o in
      let n_ks = empty_count state s.files (map answer_file stems) ks e in
      let n_left = length_map left xs in
      let n_kept = read_count (map left xs) in_kept read rd in
      let n_sources = sources_count (map left xs) in_kept n_kept in
      let n_out = length_map (kept_of state) ms in
      let sessions : AllSessions d b log 1 (streams_of state (sources_of (map left xs) in_kept) ks ms) q.results =
      subst (λ l. AllSessions d b l 1 (streams_of state (sources_of (map left xs) in_kept) ks ms) q.results) (sym same) q.sessions in
      let zi = zip_each (λ name x. IsKeptIn name x t u) (map request_file stems) in_kept (omega (arith, requests_are, n_xs, n_left, n_kept))
      (λ k name x i j. kept.kept_in.each k name x (ap (λ l. slice_get l k) er ∙ i) j) in
      let zo = zip_each (λ name x. IsKeptOut name x u v) (map answer_file stems) (map (kept_of state) ms) (omega (arith, answers_are, n_ks, n_out, count))
      (λ k name x i j. kept.kept_out.each k name x (ap (λ l. slice_get l k) ea ∙ i) (ap (λ l. slice_get l k) eo ∙ j)) in
      let stay = λ (z : AllByRecursion (λ x. x.1 ≡ 0) in_kept). kept.kept_out.reads ∙ kept.kept_in.still z ∙ kept.opened.reads in
      let stand = λ (z : AllByRecursion (λ x. x.1 ≡ 0) out_kept). kept.kept_out.still z ∙ kept.kept_in.writes ∙ kept.opened.writes in
      record {
        log = log;
        image = subst (λ l. Image d b l done.words.words) (sym same) q.image;
        owned = subst (λ l. EntriesOwned (length stems) l) (sym same) (subst (λ n. EntriesOwned n q.log) (omega (arith, n_sources, n_left, n_xs, requests_are)) q.owned);
        results = q.results;
        clients = all_clients 1 stems xs in_kept ks ms q.results o e zi zo sessions;
        reads = λ z. stay (none_broke 1 (map left xs) in_kept ks ms q.results n_kept (omega (arith, n_ks, answers_are, n_left, n_xs, requests_are)) (omega (arith, count, n_ks, answers_are, n_left, n_xs, requests_are)) sessions z);
        writes = λ z. stand (subst (AllByRecursion (λ x. x.1 ≡ 0)) (sym eo)
            (none_failed 1 (map answer_file stems) (map left xs) in_kept ks ms q.results n_kept (omega (arith, answers_are, n_left, n_xs, requests_are)) e (omega (arith, count, n_ks)) sessions z));
        play = record { state = q.state; play = q.play; last = same ∙ q.last; replied = q.replied };
        faults_so = q.faults_so;
        lines = q.lines;
        refused = q.refused;
      }
