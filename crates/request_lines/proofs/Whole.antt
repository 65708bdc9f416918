-- A text that was put on an empty page and sent whole.
use Rattle.std.proofs.Common.{◌≡◌, ℕ, true, false, List, [], ◌++◌, Option, Some, None, ap, sym, ◌∙◌}
use Rattle.std.specs.Prelude.{Result, Ok, Err, OnOk, OnErr}
use Rattle.std.proofs.lemmas.List.{append-nil}
use Rattle.std.specs.Io.KnownBytes.{Appends}
use Rattle.pcg_base.specs.Causes.{Rose, HasCause}
use Rattle.pcg_base.specs.States.{SinkState}
use Rattle.pcg_base.specs.Told.{AppendsFront}
use Rattle.request_lines.specs.declared.page.Page.{Page}
use Rattle.request_lines.specs.Sent.{Sends, Puts, waiting}
use Rattle.request_lines.proofs.Putting.{puts_both}

sends_whole : (a c : Option (List ℕ)) (t : List ℕ) → Sends a c t [] → Appends a c t
sends_whole None c t h = tt
sends_whole (Some p) None t h = absurd h
sends_whole (Some p) (Some q) t h = h.1 ∙ ap (λ w. p ++ w) (sym (h.2 ∙ append-nil h.0))

-- a text was put on an empty page, and then the rest was sent
pub whole_ok : {a b c : SinkState} {p q r : Page} {t : List ℕ} → waiting p ≡ [] → Puts a b p q t → Puts b c q r []
    → r.failed ≡ false → waiting r ≡ [] → Appends a.held c.held t
whole_ok {a = a} {c = c} {p = p} {r = r} {t = t} e h g m n =
    let all = (puts_both t (sym (append-nil t)) h g).goes m in
    sends_whole a.held c.held t (rw (sym n) (rw (sym (ap (λ w. w ++ t) e)) all))

pub whole_err : {a b c : SinkState} {p q r : Page} {t : List ℕ} → waiting p ≡ [] → p.failed ≡ false → Puts a b p q t → Puts b c q r []
    → r.failed ≡ true → AppendsFront a.held c.held t
whole_err {t = t} e f h g m = rw (sym (ap (λ w. w ++ t) e)) (((puts_both t (sym (append-nil t)) h g).fails f m).0)

pub whole_cause : {a b c : SinkState} {p q r : Page} {t : List ℕ} → p.failed ≡ false → Puts a b p q t → Puts b c q r []
    → r.failed ≡ true → Rose a.faults c.faults
whole_cause {t = t} f h g m = ((puts_both t (sym (append-nil t)) h g).fails f m).1

pub whole_still : {a b c : SinkState} {p q r : Page} {t : List ℕ} → Puts a b p q t → Puts b c q r []
    → r.failed ≡ false → c.faults ≡ a.faults
whole_still {t = t} h g m = (puts_both t (sym (append-nil t)) h g).still m

pub on_ok_then : {A B T E : Type 0} (r : Result T E) → (A → B) → OnOk r A → OnOk r B
on_ok_then (Ok x) f h = f h
on_ok_then (Err e) f h = tt

pub on_err_then : {A B T E : Type 0} (r : Result T E) → (A → B) → OnErr r A → OnErr r B
on_err_then (Ok x) f h = tt
on_err_then (Err e) f h = f h

-- the count of a call that put a text on an empty page and sent the rest
pub whole_has_cause : {T E : Type 0} {a b c : SinkState} {p q r : Page} {t : List ℕ} (result : Result T E) → p.failed ≡ false → Puts a b p q t → Puts b c q r []
    → OnOk result (r.failed ≡ false) → OnErr result (r.failed ≡ true) → HasCause a.faults c.faults result
whole_has_cause {t = t} result f h g ok err = record {
  later = (puts_both t (sym (append-nil t)) h g).later;
  still = on_ok_then result (whole_still h g) ok;
  failed = on_err_then result (whole_cause f h g) err;
}
