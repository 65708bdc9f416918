-- Texts that aren't told, one behind the other.
use Rattle.std.proofs.Common.{ℕ, List, [], ◌++◌, append-nil, sym, refl}
use Rattle.pcg_base.specs.States.{SinkState}
use Rattle.request_lines.specs.Sent.{Puts}
use Rattle.request_lines.specs.declared.page.Page.{Page}
use Rattle.request_lines.proofs.Putting.{puts_then, puts_waiting}
use Rattle.usage_texts.specs.Told.{PutsSome}

pub some_none : (a : SinkState) (p : Page) → PutsSome a a p p
some_none a p = ([], puts_waiting a p p [] (sym (append-nil _)) refl)

pub some_then : {a b c : SinkState} {p q r : Page} (y : List ℕ) → PutsSome a b p q → Puts b c q r y → PutsSome a c p r
some_then y h g = (h.0 ++ y, puts_then h.1 g)

pub both_some : {a b c : SinkState} {p q r : Page} → PutsSome a b p q → PutsSome b c q r → PutsSome a c p r
both_some h g = (h.0 ++ g.0, puts_then h.1 g.1)
