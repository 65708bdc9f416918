-- What a sink holds after one text and then another.
use Rattle.std.proofs.Common.{◌≡◌, ℕ, ◌≤◌, List, ◌++◌, Option, Some, None, ap, sym, ◌∙◌, arith, refl}
use Rattle.std.proofs.lemmas.List.{append_assoc}
use Rattle.std.specs.Io.KnownBytes.{Keeps}
use Rattle.pcg_base.specs.Causes.{Rose}
use Rattle.pcg_base.specs.Told.{AppendsFront}
use Rattle.request_lines.specs.Sent.{Sends}

pub sends_then : (a b c : Option (List ℕ)) (t l y z r : List ℕ) → z ≡ t ++ y → Sends a b t l → Sends b c (l ++ y) r → Sends a c z r
sends_then None b c t l y z r e h k = tt
sends_then (Some p) None c t l y z r e h k = absurd h
sends_then (Some p) (Some q) None t l y z r e h k = absurd k
sends_then (Some p) (Some q) (Some o) t l y z r e h k = (
  h.0 ++ k.0,
  k.1 ∙ ap (λ w. w ++ k.0) h.1 ∙ append_assoc p h.0 k.0,
  e ∙ ap (λ w. w ++ y) h.2 ∙ append_assoc h.0 l y ∙ ap (λ w. h.0 ++ w) k.2 ∙ sym (append_assoc h.0 k.0 r),
)

pub front_then : (a b c : Option (List ℕ)) (t l y z : List ℕ) → z ≡ t ++ y → Sends a b t l → AppendsFront b c (l ++ y) → AppendsFront a c z
front_then None b c t l y z e h k = tt
front_then (Some p) None c t l y z e h k = absurd h
front_then (Some p) (Some q) None t l y z e h k = absurd k
front_then (Some p) (Some q) (Some o) t l y z e h k = (
  h.0 ++ k.0,
  k.1,
  e ∙ ap (λ w. w ++ y) h.2 ∙ append_assoc h.0 l y ∙ ap (λ w. h.0 ++ w) k.2 ∙ sym (append_assoc h.0 k.0 k.1),
  k.3 ∙ ap (λ w. w ++ k.0) h.1 ∙ append_assoc p h.0 k.0,
)

pub front_more : (a b c : Option (List ℕ)) (t y z : List ℕ) → z ≡ t ++ y → AppendsFront a b t → Keeps b c → AppendsFront a c z
front_more None b c t y z e h k = tt
front_more (Some p) None c t y z e h k = absurd h
front_more (Some p) (Some q) None t y z e h k = absurd k
front_more (Some p) (Some q) (Some o) t y z e h k =
    (h.0, h.1 ++ y, e ∙ ap (λ w. w ++ y) h.2 ∙ append_assoc h.0 h.1 y, k ∙ h.3)

pub keeps_then : (a b c : Option (List ℕ)) → Keeps a b → Keeps b c → Keeps a c
keeps_then None b c h k = tt
keeps_then (Some p) None c h k = absurd h
keeps_then (Some p) (Some q) None h k = absurd k
keeps_then (Some p) (Some q) (Some o) h k = k ∙ h

pub keeps_itself : (a : Option (List ℕ)) → Keeps a a
keeps_itself None = tt
keeps_itself (Some p) = refl

pub rose_later : (a b c : ℕ) → Rose a b → b ≤ c → Rose a c
rose_later a b c h k = omega (arith, h, k)

pub rose_before : (a b c : ℕ) → a ≤ b → Rose b c → Rose a c
rose_before a b c h k = omega (arith, h, k)
