-- The machine behind the sessions.
use Rattle.std.proofs.Common.{◌≡◌, ℕ, zero, suc, ◌^◌, ◌<◌, Bool, List, [], ◌∷◌, length, map, reverse, Option, Some, None, refl, sym, ◌∙◌, ap, subst, arith}
use Rattle.std.specs.Prelude.{slice_get, sum_by}
use Rattle.std.specs.List.{AllByRecursion}
use Rattle.std.proofs.lemmas.List.{length-map, length-set}
use Rattle.std.proofs.lemmas.Option.{same_Some}
use Rattle.pcg_base.specs.States.{SinkState}
use Rattle.op_model.specs.declared.base.Dataset.{Dataset}
use Rattle.op_model.specs.declared.base.Base.{Base}
use Rattle.op_model.specs.Transcript.{Line, WholeTranscript}
use Rattle.pcg_base.specs.declared.clock.Ticks.{Ticks}
use Rattle.histories.specs.Histories.{EntriesOwned}
use Rattle.session_machine.specs.Machine as machine
use Rattle.record_rows.specs.Readings.{Image}
use Rattle.stored_log.specs.declared.logs.StoredLog.{StoredLog}
use Rattle.stored_log.specs.Stored.{Stands}
use Rattle.stream_lines.specs.declared.reading.StreamLines.{StreamLines}
use Rattle.client_answers.specs.declared.answers.AllAnswers.{AllAnswers}
use Rattle.client_answers.specs.Plays.{IsPlay, IsPlayed}
use Rattle.client_answers.specs.Written.{Answered}
use Rattle.session_results.specs.declared.playing.SessionsDone.{SessionsDone}
use Rattle.session_results.specs.Begun.{asked_of, faults_told}
use Rattle.session_results.specs.Ended.{AreDone, AreLines, Source}
use Rattle.session_results.proofs.AllTold.{Facts, all_told}

module _ (d : Dataset) (b : Base) where
  -- a run keeps all clients
  step_count : (c : machine.Choice) (k : ℕ) (w : machine.State) → length (machine.step d b c k w).clients ≡ length w.clients
  step_count c k w = go (slice_get w.clients k)
    where
      go : (m : Option machine.ClientState) → length (machine.step_client d b c k w m).clients ≡ length w.clients
      go None = refl
      go (Some s) = length-set w.clients k (machine.event d b c (suc k) w.shared s s.phase).1

  run_count : (events : List (machine.Choice × ℕ)) (w : machine.State) → length (machine.run d b events w).clients ≡ length w.clients
  run_count [] w = refl
  run_count (m ∷ ms) w = run_count ms (machine.step d b m.0 m.1 w) ∙ step_count m.0 m.1 w

sources_count : (sources : List Source) (read : List StreamLines) → AreLines sources read → length sources ≡ length read
sources_count [] [] h = refl
sources_count (x ∷ xs) (r ∷ rs) h = ap suc (sources_count xs rs h.1)
sources_count [] (r ∷ rs) h = absurd h
sources_count (x ∷ xs) [] h = absurd h

-- an item of the list that is asked
asked_at : (read : List StreamLines) (k : ℕ) (r : StreamLines) → slice_get read k ≡ Some r → slice_get (map asked_of read) k ≡ Some (asked_of r)
asked_at [] k r e = cc
asked_at (x ∷ xs) zero r e = ap (λ y. Some (asked_of y)) (same_Some x r e)
asked_at (x ∷ xs) (suc k) r e = asked_at xs k r e

module _ {K : Type 0} (seen : K → SinkState) (d : Dataset) (b : Base) (at : ℕ) (ticks : Ticks) (schedule : List ℕ) (read : List StreamLines) (old new : AllAnswers K) (v : machine.State)
    (p : IsPlayed seen d b at (map asked_of read) ticks schedule old new v) where
  states_count : length v.clients ≡ length read
  states_count =
      ap (λ (w : machine.State). length w.clients) (sym p.played.leads.2)
      ∙ (run_count d b p.played.leads.0 (machine.start d b at (map asked_of read)) ∙ (length-map (map asked_of read) machine.new_client ∙ length-map read asked_of))

  facts : Facts seen d b v.shared.log 1 read old.list.items new.list.items v.clients
  facts k m r x y s e er ex ey es =
      let a = p.answered k s es in
      let l = p.played.lines k s es in
      let here = asked_at read k r er in
      let asks = same_Some l.0 (asked_of r) (sym l.1 ∙ here) in
      let number : suc k ≡ m = omega (arith, e) in (
        subst (λ z. Answered seen z y s) (same_Some a.0 x (sym a.2 ∙ ex)) (subst (λ z. Answered seen a.0 z s) (same_Some a.1 y (sym a.3 ∙ ey)) a.4),
        subst (λ n. WholeTranscript d b v.shared.log n (asked_of r).0 (reverse s.replies)) number
            (subst (λ ls. WholeTranscript d b v.shared.log (suc k) ls (reverse s.replies)) (l.2 ∙ ap (λ (q : List Line × Bool). q.0) asks) (p.played.transcripts k s es)),
        p.each k s y (asked_of r) es ey here,
      )

  pub are_done : (sources : List Source) (rows : StoredLog) (done : SessionsDone) → AreLines sources read → AllByRecursion (λ r. length r.lines.items < 2 ^ 32) read
      → length old.list.items ≡ length read → Stands rows d b v.shared.log → done.words ≡ rows.words
      → done.faults.items ≡ faults_told 1 new.list.items (map (λ r. r.end) read) → done.lines ≡ sum_by (λ x. x.lines) new.list.items → done.refused ≡ sum_by (λ x. x.refused) new.list.items
      → AreDone seen d b at ticks schedule sources old.list.items new.list.items done
  are_done sources rows done are few each stands words faults_so lines refused =
      let all = all_told seen d b v.shared.log 1 sources read old.list.items new.list.items v.clients are few each (p.count ∙ each) states_count facts in
      record {
        log = v.shared.log;
        image = subst (λ w. Image d b v.shared.log w) (ap (λ w. w.words) (sym words)) stands.image;
        owned = subst (λ n. EntriesOwned n v.shared.log) (length-map read asked_of ∙ sym (sources_count sources read are)) p.owned;
        results = all.results;
        sessions = all.sessions;
        count = all.count;
        state = v;
        play = subst (λ cs. IsPlay d b ticks schedule (machine.start d b at cs) v) (sym all.asked) p.play;
        last = refl;
        replied = all.replied;
        faults_so = faults_so ∙ sym all.faults_so;
        lines = lines ∙ sym all.lines;
        refused = refused ∙ sym all.refusals;
      }
