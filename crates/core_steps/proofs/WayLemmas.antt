-- Which clients may go on.
use Rattle.std.proofs.Common.{◌≡◌, ℕ, ◌-◌, ◌<◌, ◌≤◌, Bool, true, false, cond, eqb, length, get_or, refl, sym, ◌∙◌, ap, arith, eq-eqb}
use Rattle.std.proofs.lemmas.Bool.{ne_eqb}
use Rattle.session_machine.specs.Machine as machine
use Rattle.client_events.specs.declared.clients.Table.{Table}
use Rattle.client_events.specs.Steps.{TableIs}

pub ready_line : (sh : machine.Shared) (s : machine.ClientState) (taken all : ℕ) → length s.lines ≡ all - taken → taken < all → machine.is_able sh s machine.Ready ≡ true
ready_line sh s taken all e l = let q : eqb (length s.lines) 0 ≡ false = ne_eqb _ 0 (λ z. omega arith) in ap (λ t. cond t s.faulty true) q

pub ready_fault : (sh : machine.Shared) (s : machine.ClientState) (fault : Bool) → s.faulty ≡ fault → fault ≡ true → machine.is_able sh s machine.Ready ≡ true
ready_fault sh s fault e f = go (eqb (length s.lines) 0)
  where
    go : (t : Bool) → cond t s.faulty true ≡ true
    go true = e ∙ f
    go false = refl

pub ready_end : (sh : machine.Shared) (s : machine.ClientState) (taken all : ℕ) (fault : Bool) → length s.lines ≡ all - taken → all ≤ taken → s.faulty ≡ fault → fault ≡ false
    → (machine.is_able sh s machine.Ready ≡ false) × (machine.is_ended s machine.Ready ≡ true)
ready_end sh s taken all fault e l f g =
    let q : eqb (length s.lines) 0 ≡ true = eq-eqb _ 0 (omega arith) in
    let h : s.faulty ≡ false = f ∙ g in
    (ap (λ t. cond t s.faulty true) q ∙ h, rw (q, h) refl)

pub lock_open : (t : Table) (sh : machine.Shared) (n : ℕ) → TableIs t sh → get_or t.locks n 0 ≡ 0 → eqb (get_or sh.locks n 0) 0 ≡ true
lock_open t sh n k e = eq-eqb _ 0 (ap (λ xs. get_or xs n 0) k.locks ∙ e)

pub lock_blocked : (t : Table) (sh : machine.Shared) (n : ℕ) → TableIs t sh → (get_or t.locks n 0 ≡ 0 → ⊥) → eqb (get_or sh.locks n 0) 0 ≡ false
lock_blocked t sh n k e = ne_eqb _ 0 (λ q. e (ap (λ xs. get_or xs n 0) (sym k.locks) ∙ q))

pub turn_open : (t : Table) (sh : machine.Shared) → TableIs t sh → t.turn ≡ 0 → eqb sh.turn 0 ≡ true
turn_open t sh k e = eq-eqb _ 0 (k.turn ∙ e)

pub turn_blocked : (t : Table) (sh : machine.Shared) → TableIs t sh → (t.turn ≡ 0 → ⊥) → eqb sh.turn 0 ≡ false
turn_blocked t sh k e = ne_eqb _ 0 (λ q. e (sym k.turn ∙ q))
