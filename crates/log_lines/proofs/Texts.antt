-- The text of a log behind that of its oldest entries.
use Rattle.std.proofs.Common.{◌≡◌, ℕ, List, [], ◌∷◌, ◌++◌, Option, Some, None, refl, sym, ◌∙◌, ap}
use Rattle.std.specs.Io.KnownBytes.{Appends}
use Rattle.std.proofs.lemmas.List.{append_assoc, append-nil}
use Rattle.op_model.specs.declared.entry.Entry.{Entry}
use Rattle.pcg_base.specs.Told.{AppendsFront}
use Rattle.request_lines.specs.Texts.{text_of_entry}
use Rattle.log_lines.specs.LogTexts.{log_text}

-- what is behind the text of the oldest entries
pub text_behind : (newer older : List Entry) → (more : List ℕ) × (log_text (newer ++ older) ≡ log_text older ++ more)
unfolding log_text
text_behind [] older = ([], sym (append-nil (log_text older)))
text_behind (e ∷ newer) older =
    let r = text_behind newer older in
    (r.0 ++ text_of_entry e, ap (λ t. t ++ text_of_entry e) r.1 ∙ append_assoc (log_text older) r.0 (text_of_entry e))

-- nothing was written
pub none_written : (a : Option (List ℕ)) → Appends a a []
none_written None = tt
none_written (Some p) = sym (append-nil p)

pub no_front : (a : Option (List ℕ)) (text : List ℕ) → AppendsFront a a text
no_front None text = tt
no_front (Some p) text = ([], text, refl, sym (append-nil p))

-- a front of one text behind another is one of all texts
pub front_behind : (a b c : Option (List ℕ)) (x y more z : List ℕ) → z ≡ x ++ (y ++ more) → Appends a b x → AppendsFront b c y → AppendsFront a c z
front_behind None b c x y more z e h k = tt
front_behind (Some p) None c x y more z e h k = absurd h
front_behind (Some p) (Some q) None x y more z e h k = absurd k
front_behind (Some p) (Some q) (Some r) x y more z e h k =
    let front : List ℕ = k.0 in
    let rest : List ℕ = k.1 in (
      x ++ front,
      rest ++ more,
      e ∙ ap (λ w. x ++ w) (ap (λ w. w ++ more) k.2 ∙ append_assoc front rest more) ∙ sym (append_assoc x front (rest ++ more)),
      k.3 ∙ ap (λ w. w ++ front) h ∙ append_assoc p x front,
    )
