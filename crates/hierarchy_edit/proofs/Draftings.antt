-- When the draft of an entry that nothing refuses can be made from what it is made of.
use Rattle.std.proofs.Common.{◌≡◌, ℕ, List, None, sym, subst, arith}
use Rattle.op_model.specs.declared.base.Dataset.{Dataset}
use Rattle.op_model.specs.declared.base.Base.{Base}
use Rattle.op_model.specs.declared.entry.Changed.{Changed}
use Rattle.op_model.specs.declared.entry.Entry.{Entry}
use Rattle.op_model.specs.declared.request.Edit.{Edit}
use Rattle.op_model.specs.Legal.{LegalPlan}
use Rattle.op_model.specs.Refusals.{refuse_late}
use Rattle.op_model.specs.Stamps.{stamp}
use Rattle.op_model.proofs.LegalLemmas.{first_none}
use Rattle.record_rows.specs.Readings.{Image}
use Rattle.entry_parts.specs.declared.made.MadeLink.{MadeLink}
use Rattle.entry_parts.specs.declared.made.MadeNode.{MadeNode}
use Rattle.entry_lists.specs.Drafting.{IsDrafting}
use Rattle.hierarchy_edit.specs.declared.listing.Listed.{Listed}
use Rattle.hierarchy_edit.specs.declared.remaking.Stamp.{Stamp}
use Rattle.hierarchy_edit.specs.Listed.{IsListed, refuse_ids}
use Rattle.hierarchy_edit.proofs.Committed.{grown_count, legal, room}

no_ids : (d : Dataset) (b : Base) (log : List Entry) (edit : Edit) → refuse_late d b log edit ≡ None → refuse_ids d b log edit ≡ None
unfolding refuse_late
no_ids d b log edit late = (first_none _ _ (first_none _ _ late).1).0

pub drafting_of : (d : Dataset) (b : Base) (log : List Entry) (edit : Edit) (changed : List Changed) (s : Stamp) (at : ℕ) (words : List ℕ) (x : Listed) (ms : List MadeNode) (ls : List MadeLink) → Image d b log words → LegalPlan d b log edit changed
    → IsListed d b log edit x → refuse_late d b log edit ≡ None → at ≡ stamp log s.now → ms ≡ x.nodes.items → ls ≡ x.links.items → IsDrafting d b log edit changed s.client s.line at ms ls x.places.items words
drafting_of d b log edit changed s at words x ms ls image plan is late time m l =
    let at_stamp : IsDrafting d b log edit changed s.client s.line (stamp log s.now) x.nodes.items x.links.items x.places.items words =
    record {
      image = image;
      plan = plan;
      legal = legal d b log edit changed s words image plan late;
      fits = (let g = grown_count d b log edit changed s words image plan late in let r = room d b log edit changed s words image plan late in omega (arith, g, r));
      nodes_are = is.nodes s.client s.line (stamp log s.now);
      links_are = is.links s.client s.line (stamp log s.now) (no_ids d b log edit late);
      retired_are = is.places s.client s.line (stamp log s.now);
    }
    in
    let timed : IsDrafting d b log edit changed s.client s.line at x.nodes.items x.links.items x.places.items words = subst (λ t. IsDrafting d b log edit changed s.client s.line t x.nodes.items x.links.items x.places.items words) (sym time) at_stamp in
    let noded : IsDrafting d b log edit changed s.client s.line at ms x.links.items x.places.items words = subst (λ (ns : List MadeNode). IsDrafting d b log edit changed s.client s.line at ns x.links.items x.places.items words) (sym m) timed in
    subst (λ (ks : List MadeLink). IsDrafting d b log edit changed s.client s.line at ms ks x.places.items words) (sym l) noded
