-- One text behind another.
use Rattle.std.proofs.Common.{◌≡◌, ℕ, Bool, true, false, List, [], ◌++◌, Option, Some, None, ap, sym, ◌∙◌, arith, refl}
use Rattle.std.proofs.lemmas.List.{append_assoc, append-nil}
use Rattle.pcg_base.specs.Causes.{Rose}
use Rattle.pcg_base.specs.States.{SinkState}
use Rattle.pcg_base.specs.Told.{AppendsFront}
use Rattle.request_lines.specs.declared.page.Page.{Page}
use Rattle.request_lines.specs.Sent.{Sends, Puts, waiting}
use Rattle.request_lines.proofs.Sending.{sends_then, front_then, front_more, keeps_then, keeps_itself, rose_later, rose_before}

neither : {A : Type 0} (b : Bool) → b ≡ true → b ≡ false → A
neither true h k = absurd (grind (arith, h, k))
neither false h k = absurd (grind (arith, h, k))

-- with the state between them told apart
goes_by : {a b c : SinkState} {p q r : Page} {x y : List ℕ} (z : List ℕ) → z ≡ x ++ y → Puts a b p q x → Puts b c q r y
    → (m : Bool) → q.failed ≡ m → r.failed ≡ false → Sends a.held c.held (waiting p ++ z) (waiting r)
goes_by {a = a} {b = b} {c = c} {p = p} {q = q} {r = r} {x = x} {y = y} z e h g true m n = neither r.failed ((g.stays m).0) n
goes_by {a = a} {b = b} {c = c} {p = p} {q = q} {r = r} {x = x} {y = y} z e h g false m n =
    sends_then a.held b.held c.held (waiting p ++ x) (waiting q) y (waiting p ++ z) (waiting r) (ap (λ w. waiting p ++ w) e ∙ sym (append_assoc (waiting p) x y)) (h.goes m) (g.goes n)

still_by : {a b c : SinkState} {p q r : Page} {x y : List ℕ} → Puts a b p q x → Puts b c q r y → (m : Bool) → q.failed ≡ m → r.failed ≡ false → c.faults ≡ a.faults
still_by {r = r} h g true m n = neither r.failed ((g.stays m).0) n
still_by {r = r} h g false m n = g.still n ∙ h.still m

fails_by : {a b c : SinkState} {p q r : Page} {x y : List ℕ} (z : List ℕ) → z ≡ x ++ y → Puts a b p q x → Puts b c q r y
    → (m : Bool) → q.failed ≡ m → p.failed ≡ false → r.failed ≡ true → AppendsFront a.held c.held (waiting p ++ z) × Rose a.faults c.faults
fails_by {a = a} {b = b} {c = c} {p = p} {q = q} {r = r} {x = x} {y = y} z e h g true m o n = (
  front_more a.held b.held c.held (waiting p ++ x) y (waiting p ++ z) (ap (λ w. waiting p ++ w) e ∙ sym (append_assoc (waiting p) x y)) ((h.fails o m).0) ((g.stays m).1),
  rose_later a.faults b.faults c.faults ((h.fails o m).1) g.later,
)
fails_by {a = a} {b = b} {c = c} {p = p} {q = q} {r = r} {x = x} {y = y} z e h g false m o n = (
  front_then a.held b.held c.held (waiting p ++ x) (waiting q) y (waiting p ++ z) (ap (λ w. waiting p ++ w) e ∙ sym (append_assoc (waiting p) x y)) (h.goes m) ((g.fails m n).0),
  rose_before a.faults b.faults c.faults h.later ((g.fails m n).1),
)

pub puts_both : {a b c : SinkState} {p q r : Page} {x y : List ℕ} (z : List ℕ) → z ≡ x ++ y → Puts a b p q x → Puts b c q r y → Puts a c p r z
puts_both {a = a} {b = b} {c = c} {p = p} {q = q} {r = r} {x = x} {y = y} z e h g = record {
  later = omega (arith, h.later, g.later);
  stays = λ m. ((g.stays ((h.stays m).0)).0, keeps_then a.held b.held c.held ((h.stays m).1) ((g.stays ((h.stays m).0)).1));
  goes = goes_by z e h g q.failed refl;
  still = still_by h g q.failed refl;
  fails = fails_by z e h g q.failed refl;
}

pub puts_then : {a b c : SinkState} {p q r : Page} {x y : List ℕ} → Puts a b p q x → Puts b c q r y → Puts a c p r (x ++ y)
puts_then {x = x} {y = y} h g = puts_both (x ++ y) refl h g

-- after a failure any text is put, which leaves all as it was
pub puts_none : (a : SinkState) (p : Page) (x : List ℕ) → p.failed ≡ true → Puts a a p p x
puts_none a p x h = record {
  later = omega arith;
  stays = λ m. (h, keeps_itself a.held);
  goes = λ m. neither p.failed h m;
  still = λ m. refl;
  fails = λ m n. neither p.failed n m;
}

sends_none : (a : Option (List ℕ)) (t : List ℕ) → Sends a a t t
sends_none None t = tt
sends_none (Some p) t = ([], sym (append-nil p), refl)

-- a text that only waits
pub puts_waiting : (a : SinkState) (p q : Page) (x : List ℕ) → waiting q ≡ waiting p ++ x → q.failed ≡ p.failed → Puts a a p q x
puts_waiting a p q x e f = record {
  later = omega arith;
  stays = λ m. (f ∙ m, keeps_itself a.held);
  goes = λ m. rw e (sends_none a.held (waiting p ++ x));
  still = λ m. refl;
  fails = λ m n. neither p.failed (sym f ∙ n) m;
}

pub puts_same : {a c : SinkState} {p r : Page} {x y : List ℕ} → y ≡ x → Puts a c p r x → Puts a c p r y
puts_same e h = rw e h
