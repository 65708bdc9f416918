-- What goes on between looks.
use Rattle.std.proofs.Common.{◌≡◌, ℕ, List, [], ◌∷◌, ◌++◌, suc, refl, sym, ap, ◌∙◌, subst, append_assoc, ◌+◌, arith}
use Rattle.op_model.specs.declared.entry.Entry.{Entry}
use Rattle.op_model.specs.declared.reply.Reply.{Reply}
use Rattle.op_model.specs.declared.reply.Reply.TheVariants as reply
use Rattle.op_model.specs.declared.request.Edit.{Edit}
use Rattle.shared_rows.specs.declared.view.View.{View}
use Rattle.shared_rows.specs.Plays.{Later}
use Rattle.root_locks.specs.Masks.{WithLeft, WithLosses}
use Rattle.edit_desk.specs.Desk.{Edits, Stays, Went, entry_for}

pub stays-same : (v : View) → Stays v v
stays-same v = record {
  went = record { number_is = refl; dataset_is = refl; base_is = refl; permits_is = refl; olds_is = refl; more = omega arith; looks = omega arith; seen = record { newer = []; is = refl } };
  own_is = refl;
}

pub went-on : (u v w : View) → Went u v → Went v w → Went u w
went-on u v w f g = record {
  number_is = g.number_is ∙ f.number_is;
  dataset_is = g.dataset_is ∙ f.dataset_is;
  base_is = g.base_is ∙ f.base_is;
  permits_is = g.permits_is ∙ f.permits_is;
  olds_is = g.olds_is ∙ f.olds_is;
  more = (let a = f.more in let c = g.more in omega arith);
  looks = (let a = f.looks in let c = g.looks in omega arith);
  seen = record { newer = g.seen.newer ++ f.seen.newer; is = g.seen.is ∙ ap (λ (l : List Entry). g.seen.newer ++ l) f.seen.is ∙ sym (append_assoc g.seen.newer f.seen.newer u.log) };
}

pub stays-on : (u v w : View) → Stays u v → Stays v w → Stays u w
stays-on u v w f g = record { went = went-on u v w f.went g.went; own_is = g.own_is ∙ f.own_is }

pub stays-left : (v w : View) (held : List ℕ) → WithLeft v held w → Stays v w
stays-left v w held h = subst (Stays v) (sym h.is) record {
  went = record { number_is = refl; dataset_is = refl; base_is = refl; permits_is = refl; olds_is = refl; more = omega arith; looks = omega arith; seen = record { newer = []; is = refl } };
  own_is = refl;
}

pub stays-losses : (v w : View) (held : List ℕ) → WithLosses v held w → Stays v w
stays-losses v w held h = subst (Stays v) (sym h.is) record {
  went = record { number_is = refl; dataset_is = refl; base_is = refl; permits_is = refl; olds_is = refl; more = omega arith; looks = omega arith; seen = record { newer = []; is = refl } };
  own_is = refl;
}

-- a look, with pins chosen anew or kept
pub stays-later : (v u w : View) → Later v u w → u.number ≡ v.number → u.dataset ≡ v.dataset → u.base ≡ v.base → u.permits ≡ v.permits → u.olds ≡ v.olds → u.own ≡ v.own → u.looks ≡ v.looks → Stays v w
stays-later v u w later n d b p q o k = subst (Stays v) (sym later.is) record {
  went = record { number_is = n; dataset_is = d; base_is = b; permits_is = p; olds_is = q; more = later.more; looks = omega (arith, k); seen = record { newer = later.follows.newer; is = later.follows.is } };
  own_is = o;
}

-- a look is counted
pub looks-more : (v w : View) → Later v v w → w.looks ≡ v.looks + 1
looks-more v w later = let e : w.looks ≡ suc v.looks = ap (λ (x : View). x.looks) later.is in omega arith

-- a pass that saw more, and published nothing, before it edits
pub edits-on : (u v w : View) (edit : Edit) (line : ℕ) (r : Reply) → Stays u v → Edits v edit line r w → Edits u edit line r w
edits-on u v w edit line (reply.Edited op at retired made shown seen) f h =
    let p = h.1 in
    let g = f.went.seen in (
      went-on u v w f.went h.0,
      record {
        log = p.log;
        clock = p.clock;
        grown = record { newer = p.grown.newer ++ g.newer; is = p.grown.is ∙ ap (λ (l : List Entry). p.grown.newer ++ l) g.is ∙ sym (append_assoc p.grown.newer g.newer u.log) };
        allowed = p.allowed;
        at_is = p.at_is;
        log_is = p.log_is;
        own_is = subst (λ (l : List Entry). w.own ≡ entry_for w p.log line at edit ∷ l) f.own_is p.own_is;
        op_is = p.op_is;
        retired_is = p.retired_is;
        made_is = p.made_is;
        shows = p.shows;
        seen_is = p.seen_is;
      },
    )
edits-on u v w edit line (reply.Refused r seen) f h = (stays-on u v w f h.0, h.1, h.2)
edits-on u v w edit line reply.NoMemory f h = stays-on u v w f h
edits-on u v w edit line (reply.Root root seen) f h = absurd h
edits-on u v w edit line (reply.Path nodes seen) f h = absurd h
edits-on u v w edit line (reply.Leaves leaves seen) f h = absurd h
edits-on u v w edit line (reply.Changes ops seen) f h = absurd h
edits-on u v w edit line (reply.BadLine error) f h = absurd h

-- whatever was replied, the log that the pass sees only grew
pub edits-went : (v w : View) (edit : Edit) (line : ℕ) (r : Reply) → Edits v edit line r w → Went v w
edits-went v w edit line (reply.Edited op at retired made shown seen) h = h.0
edits-went v w edit line (reply.Refused r seen) h = h.0.went
edits-went v w edit line reply.NoMemory h = h.went
edits-went v w edit line (reply.Root root seen) h = absurd h
edits-went v w edit line (reply.Path nodes seen) h = absurd h
edits-went v w edit line (reply.Leaves leaves seen) h = absurd h
edits-went v w edit line (reply.Changes ops seen) h = absurd h
edits-went v w edit line (reply.BadLine error) h = absurd h

-- and where the locks are given back behind it
pub edits-left : (v w x : View) (edit : Edit) (line : ℕ) (r : Reply) → Edits v edit line r w → WithLeft w [] x → Edits v edit line r x
edits-left v w x edit line r h left = subst (Edits v edit line r) (sym left.is) (go r h)
  where
    stayed : Stays v w → Stays v (let y : View = record w { held = []; pinned = left.pinned } in y)
    stayed s = let f = s.went in record {
      went = record { number_is = f.number_is; dataset_is = f.dataset_is; base_is = f.base_is; permits_is = f.permits_is; olds_is = f.olds_is; more = f.more; looks = f.looks; seen = f.seen };
      own_is = s.own_is;
    }

    go : (r : Reply) → Edits v edit line r w → Edits v edit line r (let y : View = record w { held = []; pinned = left.pinned } in y)
    go (reply.Edited op at retired made shown seen) h = (
      (let f = h.0 in record { number_is = f.number_is; dataset_is = f.dataset_is; base_is = f.base_is; permits_is = f.permits_is; olds_is = f.olds_is; more = f.more; looks = f.looks; seen = f.seen }),
      (let p = h.1 in record { log = p.log; clock = p.clock; grown = p.grown; allowed = p.allowed; at_is = p.at_is; log_is = p.log_is; own_is = p.own_is; op_is = p.op_is; retired_is = p.retired_is; made_is = p.made_is; shows = p.shows; seen_is = p.seen_is }),
    )
    go (reply.Refused r seen) h = (stayed h.0, h.1, h.2)
    go reply.NoMemory h = stayed h
    go (reply.Root root seen) h = absurd h
    go (reply.Path nodes seen) h = absurd h
    go (reply.Leaves leaves seen) h = absurd h
    go (reply.Changes ops seen) h = absurd h
    go (reply.BadLine error) h = absurd h
