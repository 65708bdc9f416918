-- Lists of JSON values, item by item.
use Rattle.std.proofs.Common.{◌≡◌, ℕ, ◌+◌, ◌<◌, List, [], ◌∷◌, ◌++◌, length, drop, get_or, Option, Some, None, refl, sym, ◌∙◌, ap, append_assoc}
use Rattle.std.proofs.lemmas.List.{drop_more}
use Rattle.serde_json.specs.Data.{Data}
use Rattle.serde_json.specs.View.{items_view, view}
use Rattle.serde_json.specs.declared.value.Value.{Value}
use Rattle.request_lines.specs.Fields.{all_in, id_in, two, ◌>>=◌}

-- the items that are read, behind those that were
abbrev pub behind : {A : Type 0} → List A → Option (List A) → Option (List A)
behind done None = None
behind done (Some more) = Some (done ++ more)

-- what is read of a first item, and of those after it
abbrev ahead : {A : Type 0} → Option A → Option (List A) → Option (List A)
ahead o p = o >>= λ x. p >>= λ xs. Some (x ∷ xs)

lone : (o : Option ℕ) → (ahead o (Some []) >>= two) ≡ None
lone None = refl
lone (Some x) = refl

crowd : (o p q : Option ℕ) (r : Option (List ℕ)) → (ahead o (ahead p (ahead q r)) >>= two) ≡ None
crowd None p q r = refl
crowd (Some x) None q r = refl
crowd (Some x) (Some y) None r = refl
crowd (Some x) (Some y) (Some z) None = refl
crowd (Some x) (Some y) (Some z) (Some more) = refl

-- only a list of two items is a pair
pub no_pair : (vs : List Value) → (length vs ≡ 2 → ⊥) → (all_in id_in (items_view vs) >>= two) ≡ None
no_pair [] h = refl
no_pair (u ∷ []) h = lone _
no_pair (u ∷ v ∷ []) h = absurd (h refl)
no_pair (u ∷ v ∷ w ∷ more) h = crowd _ _ _ _

-- a first item that is read stands behind those before it
step : {A : Type 0} (done : List A) (x : A) (o : Option A) (p : Option (List A)) → Some x ≡ o → behind done (ahead o p) ≡ behind (done ++ x ∷ []) p
step done x o None e = rw (sym e) refl
step done x o (Some more) e = rw (sym e) (ap (λ xs. Some xs) (sym (append_assoc done (x ∷ []) more)))

-- the next item was read
pub behind_next : {A : Type 0} (form : Data → Option A) (vs : List Value) (i : ℕ) (v : Value) (x : A) (done more : List A) (whole : Option (List A))
    → i < length vs → v ≡ get_or vs i v → Some x ≡ form (view v) → more ≡ done ++ x ∷ [] → behind done (all_in form (items_view (drop i vs))) ≡ whole
    → behind more (all_in form (items_view (drop (i + 1) vs))) ≡ whole
behind_next form vs i v x done more whole lt is read put so =
    rw put (sym (step done x (form (view v)) (all_in form (items_view (drop (i + 1) vs))) read)
    ∙ sym (ap (λ w. behind done (all_in form (items_view w))) (drop_more vs i v lt ∙ ap (λ w. w ∷ drop (i + 1) vs) (sym is))) ∙ so)
